-- What the answers of the command say.
use Rattle.std.specs.Prelude.{ℕ, ℤ, ◌≡◌, ◌≢◌, ◌≤◌, ◌⊎◌, List, [], Option, Some, None, map, String, string_bytes}
use Rattle.ss_io.specs.Outside.{Told, Grew, GrewByFront}
use Rattle.std.specs.declared.alloc.Global.{Global}
use Rattle.ss_core.specs.declared.names.Kind.{Kind}
use Rattle.ss_core.specs.declared.names.Place.{Place}
use Rattle.ss_core.specs.declared.names.FrontStop.{FrontStop}
use Rattle.ss_core.specs.declared.names.FrontStop.TheVariants as front
use Rattle.ss_core.specs.Tree.{CoreTree}
use Rattle.ss_vcgen_heaps.specs.Obligations.{obligations}
use Rattle.ss_search_answers.specs.declared.answers.Countered.{Countered}
use Rattle.ss_search_answers.specs.declared.answers.Undecided.{Undecided}
use Rattle.ss_search_answers.specs.declared.answers.Options.{Options}
use Rattle.ss_search_answers.specs.declared.answers.Verdict.{Verdict}
use Rattle.ss_search_answers.specs.declared.answers.Verdict.TheVariants as found
use Rattle.ss_sound.specs.Safe.{IsSafe}
use Rattle.ss_sound.specs.Verdicts.{IsUnproved, IsUndecided, AllHaveNoModelWithin}
use Rattle.ss_report.specs.declared.status.Status.{Status}
use Rattle.ss_report.specs.declared.status.Status.TheVariants as status
use Rattle.ss_report.specs.Texts.{verified_line}
use Rattle.ss_report.specs.Verdict.{listed_text}
use Rattle.ss_report_core.specs.Text.{core_text}
use Rattle.ss_top_words.specs.Words.{Asked, asked}
use Rattle.ss_top_words.specs.declared.Limits.{Limits}
use Rattle.ss_top_words.specs.declared.Command.{Command}
use Rattle.ss_top_words.specs.declared.Command.TheVariants as command
use Rattle.ss_top.specs.declared.source.Goal.{Goal}
use Rattle.ss_top.specs.declared.source.Goal.TheVariants as goal
use Rattle.ss_top_sources.specs.Sources.{IsRefused}
use Rattle.ss_top_sources.specs.CoreSources.{Means}
use Rattle.ss_top.specs.Runs.{HasRun, RunsOn, StopsAt, FailsAt, IsNotAdmitted, RunsInPart}

-- what the words ask for
abbrev pub asked_by : List (String Global) → Option Asked
asked_by words = asked (map string_bytes words)

abbrev pub file_named : Option Asked → Option (List ℕ)
file_named None = None
file_named (Some a) = Some a.file

-- the name of the file of the words
abbrev pub file_of : List (String Global) → Option (List ℕ)
file_of words = file_named (asked_by words)

-- the bytes of the file, where they are told, have this property; where they aren't told, some bytes have it
abbrev pub OfSource : Told → (List ℕ → Type 0) → Type 0
OfSource None P = (source : List ℕ) × P source
OfSource (Some None) P = ⊥
OfSource (Some (Some source)) P = P source

-- the same of what the words ask for and the file that they name
abbrev pub OfFile : Option Asked → (List ℕ → Told) → (Asked → List ℕ → Type 0) → Type 0
OfFile None told P = ⊥
OfFile (Some a) told P = OfSource (told a.file) (P a)

-- The headline: the source is accepted, and its program is safe. For every admitted input and after every number of steps no check of its
-- run has failed, and its state is good. So each object meets the invariants of all class levels at which it is packed.
pub record IsHeadline (source : List ℕ) : Type 0 where
  pub program : CoreTree
  pub means : Means source program
  pub safe : IsSafe program

-- the program is safe, and the sink took exactly the line `verified`
pub record IsToldVerified (old new : Option (List ℕ)) (source : List ℕ) : Type 0 where
  pub program : CoreTree
  pub means : Means source program
  pub safe : IsSafe program
  pub took : Grew old new verified_line

-- how far obligations are searched
abbrev pub options_of : Limits → Options
options_of l = record { rounds = l.rounds; splits = l.splits; instances = l.instances }

-- The first of the listed obligations are refuted by their models, and for the others the limits aren't enough. Each that isn't listed has a
-- derivation. The sink took exactly the text of the verdict.
pub record IsToldUnproved (limits : Limits) (countered : List Countered) (undecided : List Undecided) (old new : Option (List ℕ)) (source : List ℕ) : Type 0 where
  pub program : CoreTree
  pub means : Means source program
  pub unproved : IsUnproved program.classes (options_of limits) (obligations program) countered undecided
  pub took : Grew old new (listed_text program (obligations program) countered undecided)

-- For the listed obligations the limits aren't enough, and each other one has a derivation. The sink took exactly the text of the verdict.
pub record IsToldUndecided (limits : Limits) (undecided : List Undecided) (old new : Option (List ℕ)) (source : List ℕ) : Type 0 where
  pub program : CoreTree
  pub means : Means source program
  pub verdict : IsUndecided program.classes (options_of limits) (obligations program) undecided
  pub took : Grew old new (listed_text program (obligations program) [] undecided)

-- the sink took exactly the text of the core program
pub record IsExpanded (old new : Option (List ℕ)) (source : List ℕ) : Type 0 where
  pub program : CoreTree
  pub means : Means source program
  pub took : Grew old new (core_text program)

-- the program is safe, and the sink took a front of the line `verified`
pub record IsVerifiedInPart (old new : Option (List ℕ)) (source : List ℕ) : Type 0 where
  pub program : CoreTree
  pub means : Means source program
  pub safe : IsSafe program
  pub front : GrewByFront old new verified_line

-- these are lists of a verdict that isn't that all is proved
abbrev pub AreListed : Limits → CoreTree → List Countered → List Undecided → Type 0
AreListed l c countered undecided = IsUnproved c.classes (options_of l) (obligations c) countered undecided ⊎ (countered ≡ []) × IsUndecided c.classes (options_of l) (obligations c) undecided

-- the sink took a front of the text of a verdict that could be given
pub record IsToldInPart (limits : Limits) (old new : Option (List ℕ)) (source : List ℕ) : Type 0 where
  pub program : CoreTree
  pub means : Means source program
  pub countered : List Countered
  pub undecided : List Undecided
  pub listed : AreListed limits program countered undecided
  pub front : GrewByFront old new (listed_text program (obligations program) countered undecided)

-- the sink took a front of the text of the core program
pub record IsExpandedInPart (old new : Option (List ℕ)) (source : List ℕ) : Type 0 where
  pub program : CoreTree
  pub means : Means source program
  pub front : GrewByFront old new (core_text program)

-- the sink took a front of what the answers above let be written
abbrev pub IsWrittenInPart : Limits → ℕ → List ℤ → Option (List ℕ) → Option (List ℕ) → Command → List ℕ → Type 0
IsWrittenInPart limits steps input old new command.Verify source = IsVerifiedInPart old new source ⊎ IsToldInPart limits old new source
IsWrittenInPart limits steps input old new command.Run source = IsHeadline source × RunsInPart steps input old new source ⊎ IsToldInPart limits old new source
IsWrittenInPart limits steps input old new command.RunUnverified source = RunsInPart steps input old new source
IsWrittenInPart limits steps input old new command.Expand source = IsExpandedInPart old new source

-- no count of faults falls, and only that of the file may rise
pub record ReadsOnly (file : Option (List ℕ)) (before now : List ℕ → ℕ) : Type 0 where
  pub others : (name : List ℕ) → file ≢ Some name → now name ≡ before name
  pub later : (name : List ℕ) → before name ≤ now name

-- ---- by the command

abbrev pub IsRun : Command → Type 0
IsRun command.Verify = ⊥
IsRun command.Run = Unit {0}
IsRun command.RunUnverified = ⊥
IsRun command.Expand = ⊥

abbrev pub IsRunUnverified : Command → Type 0
IsRunUnverified command.Verify = ⊥
IsRunUnverified command.Run = ⊥
IsRunUnverified command.RunUnverified = Unit {0}
IsRunUnverified command.Expand = ⊥

abbrev pub IsVerify : Command → Type 0
IsVerify command.Verify = Unit {0}
IsVerify command.Run = ⊥
IsVerify command.RunUnverified = ⊥
IsVerify command.Expand = ⊥

abbrev pub IsExpand : Command → Type 0
IsExpand command.Verify = ⊥
IsExpand command.Run = ⊥
IsExpand command.RunUnverified = ⊥
IsExpand command.Expand = Unit {0}

-- the commands that verify
abbrev pub Verifies : Command → Type 0
Verifies command.Verify = Unit {0}
Verifies command.Run = Unit {0}
Verifies command.RunUnverified = ⊥
Verifies command.Expand = ⊥

-- ---- by the answer

abbrev pub IfRefused : Status → (ℕ → Place → Type 0) → Type 0
IfRefused (status.SourceRefused rule at) P = P rule at
IfRefused _ P = Unit {0}

abbrev pub IfUnproved : Status → (List Countered → List Undecided → Type 0) → Type 0
IfUnproved (status.Unproved countered undecided) P = P countered.items undecided.items
IfUnproved _ P = Unit {0}

abbrev pub IfUndecided : Status → (List Undecided → Type 0) → Type 0
IfUndecided (status.Undecided undecided) P = P undecided.items
IfUndecided _ P = Unit {0}

abbrev pub IfStopped : Status → (Place → Type 0) → Type 0
IfStopped (status.Stopped at) P = P at
IfStopped _ P = Unit {0}

abbrev pub IfFailed : Status → (Kind → Place → Type 0) → Type 0
IfFailed (status.Failed kind at) P = P kind at
IfFailed _ P = Unit {0}

-- the answers of the commands that verify that say that the program was verified
abbrev pub IsVerified : Status → Type 0
IsVerified status.Ended = Unit {0}
IsVerified status.StepsSpent = Unit {0}
IsVerified (status.Stopped at) = Unit {0}
IsVerified status.NotAdmitted = Unit {0}
IsVerified _ = ⊥

-- the answers that come before anything is written
abbrev pub IsSilent : Status → Type 0
IsSilent status.BadWords = Unit {0}
IsSilent status.ReadFault = Unit {0}
IsSilent (status.SourceRefused rule at) = Unit {0}
IsSilent status.NotAdmitted = Unit {0}
IsSilent _ = ⊥

-- the answer to a source that is refused
abbrev pub answer_to : FrontStop → Status
answer_to (front.Refused rule at) = status.SourceRefused rule at
answer_to front.Memory = status.Memory

-- a verdict that lists obligations, each with its cause
abbrev pub IsListed : Limits → CoreTree → Verdict → Type 0
IsListed l c (found.Verified ds) = ⊥
IsListed l c (found.Unproved countered undecided) = IsUnproved c.classes (options_of l) (obligations c) countered.items undecided.items
IsListed l c (found.Undecided undecided) = IsUndecided c.classes (options_of l) (obligations c) undecided.items
IsListed l c found.Memory = ⊥

-- the answer where the text of this verdict was written
abbrev pub answer_of : Verdict → Status
answer_of (found.Verified ds) = status.Ended
answer_of (found.Unproved countered undecided) = status.Unproved countered undecided
answer_of (found.Undecided undecided) = status.Undecided undecided
answer_of found.Memory = status.Memory

-- the command that asks for this
abbrev pub command_of_goal : Goal → Command
command_of_goal goal.Verdict = command.Verify
command_of_goal goal.Run = command.Run

-- ---- completeness

-- The source is accepted. The ground form of each obligation of its program has no more formulas than the limits allow, and no model refutes it. The
-- splits are enough for it.
pub record IsWithinReach (limits : Limits) (source : List ℕ) : Type 0 where
  pub program : CoreTree
  pub means : Means source program
  pub within : AllHaveNoModelWithin program.classes (options_of limits) (obligations program)

-- where the words ask for a file whose bytes are told, and these are within reach, this holds of the command
abbrev pub WhereWithinReach : Option Asked → (List ℕ → Told) → (Command → Type 0) → Type 0
WhereWithinReach words told P = (a : Asked) (source : List ℕ) → words ≡ Some a → told a.file ≡ Some (Some source) → IsWithinReach a.limits source → P a.command

-- The answer is neither 1, 4 nor 7. To `verify` it is 0, unless the words, the file, the output or memory fail.
abbrev pub Concludes : Status → Command → Type 0
Concludes status.Ended c = Unit {0}
Concludes status.StepsSpent c = IsVerify c → ⊥
Concludes (status.Stopped at) c = IsVerify c → ⊥
Concludes (status.Failed kind at) c = IsVerify c → ⊥
Concludes status.NotAdmitted c = IsVerify c → ⊥
Concludes (status.Unproved countered undecided) c = ⊥
Concludes (status.Undecided undecided) c = ⊥
Concludes (status.SourceRefused rule at) c = ⊥
Concludes status.WriteFault c = Unit {0}
Concludes status.Memory c = Unit {0}
Concludes status.BadWords c = Unit {0}
Concludes status.ReadFault c = Unit {0}

-- ---- what an answer says of a source that was read

abbrev pub HasEnded : Command → ℕ → List ℤ → Option (List ℕ) → Option (List ℕ) → List ℕ → Type 0
HasEnded command.Verify steps input old new source = IsToldVerified old new source
HasEnded command.Run steps input old new source = IsHeadline source × HasRun steps input old new source
HasEnded command.RunUnverified steps input old new source = HasRun steps input old new source
HasEnded command.Expand steps input old new source = IsExpanded old new source

-- after its steps the run isn't at its end
abbrev pub IsSpent : Command → ℕ → List ℤ → Option (List ℕ) → Option (List ℕ) → List ℕ → Type 0
IsSpent command.Verify steps input old new source = ⊥
IsSpent command.Run steps input old new source = IsHeadline source × RunsOn steps input old new source
IsSpent command.RunUnverified steps input old new source = RunsOn steps input old new source
IsSpent command.Expand steps input old new source = ⊥

-- within its steps the run stopped at an assumption that is false, which is at this place
abbrev pub IsStopped : Place → Command → ℕ → List ℤ → Option (List ℕ) → Option (List ℕ) → List ℕ → Type 0
IsStopped at command.Verify steps input old new source = ⊥
IsStopped at command.Run steps input old new source = IsHeadline source × StopsAt at steps input old new source
IsStopped at command.RunUnverified steps input old new source = StopsAt at steps input old new source
IsStopped at command.Expand steps input old new source = ⊥

-- the program doesn't admit the input
abbrev pub IsUnadmitted : Command → List ℤ → Option (List ℕ) → Option (List ℕ) → List ℕ → Type 0
IsUnadmitted command.Verify input old new source = ⊥
IsUnadmitted command.Run input old new source = IsHeadline source × IsNotAdmitted input old new source
IsUnadmitted command.RunUnverified input old new source = IsNotAdmitted input old new source
IsUnadmitted command.Expand input old new source = ⊥

abbrev pub Says : Limits → ℕ → List ℤ → Option (List ℕ) → Option (List ℕ) → Status → Command → List ℕ → Type 0
Says limits steps input old new status.Ended c source = HasEnded c steps input old new source
Says limits steps input old new status.StepsSpent c source = IsSpent c steps input old new source
Says limits steps input old new (status.Stopped at) c source = IsStopped at c steps input old new source
Says limits steps input old new (status.Failed kind at) c source = IsRunUnverified c × FailsAt kind at steps input old new source
Says limits steps input old new status.NotAdmitted c source = IsUnadmitted c input old new source
Says limits steps input old new (status.Unproved countered undecided) c source = Verifies c × IsToldUnproved limits countered.items undecided.items old new source
Says limits steps input old new (status.Undecided undecided) c source = Verifies c × IsToldUndecided limits undecided.items old new source
Says limits steps input old new (status.SourceRefused rule at) c source = IsRefused source rule at × Grew old new []
Says limits steps input old new status.WriteFault c source = IsWrittenInPart limits steps input old new c source
Says limits steps input old new status.Memory c source = Grew old new [] ⊎ IsWrittenInPart limits steps input old new c source
Says limits steps input old new status.BadWords c source = ⊥
Says limits steps input old new status.ReadFault c source = ⊥
