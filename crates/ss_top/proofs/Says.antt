-- What each answer says, from what the calls below promise.
use Rattle.std.proofs.Common.{◌≡◌, ◌≢◌, ◌⊎◌, inl, inr, ⊎_elim, ℕ, ℤ, ◌<◌, ◌≤◌, List, [], Option, Some, None, Err, refl, sym, ap, ◌∙◌, subst, arith}
use Rattle.std.proofs.lemmas.List.{append-nil}
use Rattle.std.proofs.lemmas.Bool.{cases_lt}
use Rattle.std.specs.Prelude.{Result}
use Rattle.ss_io.specs.declared.outside.ReadStop.{ReadStop}
use Rattle.ss_io.specs.Outside.{Told, Grew, GrewByFront, ReadCounts}
use Rattle.ss_core.specs.declared.names.FrontStop.{FrontStop}
use Rattle.ss_core.specs.declared.names.FrontStop.TheVariants as front
use Rattle.ss_core.specs.declared.names.Kind.{Kind}
use Rattle.ss_core.specs.declared.names.Place.{Place}
use Rattle.ss_core.specs.Tree.{CoreTree}
use Rattle.ss_machine_rules.specs.Good.{IsUnfailed}
use Rattle.ss_machine_typed.specs.Inputs.{IsInput}
use Rattle.ss_vcgen_heaps.specs.Positions.{Obligation}
use Rattle.ss_vcgen_heaps.specs.Obligations.{obligations}
use Rattle.ss_search_answers.specs.declared.answers.Countered.{Countered}
use Rattle.ss_search_answers.specs.declared.answers.Undecided.{Undecided}
use Rattle.ss_search_answers.specs.declared.answers.Verdict.{Verdict}
use Rattle.ss_search_answers.specs.declared.answers.Verdict.TheVariants as found
use Rattle.ss_search_answers.specs.Listed.{countered_numbers, countered_of, undecided_numbers, undecided_of, AreRisingFrom}
use Rattle.ss_sound.specs.Safe.{IsSafe}
use Rattle.ss_sound.specs.Verdicts as sound
use Rattle.ss_sound.specs.Verdicts.{IsUnproved, IsUndecided, AllHaveNoModelWithin}
use Rattle.ss_sound.proofs.Complete.{not_unproved, not_undecided}
use Rattle.ss_report.specs.declared.status.Status.{Status}
use Rattle.ss_report.specs.declared.status.Status.TheVariants as status
use Rattle.ss_report.specs.Texts.{verified_line}
use Rattle.ss_report.specs.Verdict.{listed_text, verdict_text}
use Rattle.ss_top_words.specs.declared.Limits.{Limits}
use Rattle.ss_top_words.specs.declared.Command.{Command}
use Rattle.ss_top_words.specs.declared.Command.TheVariants as command
use Rattle.ss_typed.specs.Tree.{TypedTree}
use Rattle.ss_ast.specs.Tokens.{Tok}
use Rattle.ss_expand_rules.specs.Elaborated.{elaborated}
use Rattle.ss_report_core.specs.Text.{core_text}
use Rattle.ss_top_sources.specs.Sources as reading
use Rattle.ss_top_sources.specs.Sources.{IsAccepted, IsRefused}
use Rattle.ss_top.specs.declared.source.Goal.{Goal}
use Rattle.ss_top.specs.declared.source.Goal.TheVariants as asked_for
use Rattle.ss_top_sources.specs.CoreSources.{Means, Gives}
use Rattle.ss_top_words.specs.Words.{Asked}
use Rattle.ss_top.specs.Runs.{HasRun, FailsAt}
use Rattle.ss_top.specs.Answers.{OfSource, OfFile, options_of, IsHeadline, IsToldVerified, IsExpanded, IsToldUnproved, IsToldUndecided, AreListed, IsListed, answer_of, IsVerifiedInPart, IsToldInPart, IsExpandedInPart, IsWrittenInPart, IsVerify, IsRun, IsRunUnverified, IsExpand, Verifies, command_of_goal, IfRefused, IfUnproved, IfUndecided, IfStopped, IfFailed, ReadsOnly, IsVerified, IsSilent, IsWithinReach, WhereWithinReach, Concludes, HasEnded, IsSpent, IsStopped, IsUnadmitted, Says, answer_to}
use Rattle.ss_top_sources.proofs.Means.{means}
use Rattle.ss_top.proofs.Meanings.{one_core, no_fault}
use Rattle.ss_top.proofs.Whole.{OfSource-map}

pub told_verified : (c : CoreTree) (old new : Option (List ℕ)) (source : List ℕ) → Means source c → IsSafe c → Grew old new verified_line → IsToldVerified old new source
told_verified c old new source means safe took = record { program = c; means = means; safe = safe; took = took }

pub verified_in_part : (c : CoreTree) (old new : Option (List ℕ)) (source : List ℕ) → Means source c → IsSafe c → GrewByFront old new verified_line → IsVerifiedInPart old new source
verified_in_part c old new source means safe front = record { program = c; means = means; safe = safe; front = front }

pub expanded : (source : List ℕ) (ts : List Tok) (p : TypedTree) (c : CoreTree) (text : List ℕ) (old new : Option (List ℕ)) → IsAccepted source ts p → c ≡ elaborated p → text ≡ core_text c → Grew old new text → IsExpanded old new source
expanded source ts p c text old new a e is took = record { program = c; means = means source ts p c a e; took = subst (λ t. Grew old new t) is took }

pub expanded_in_part : (source : List ℕ) (ts : List Tok) (p : TypedTree) (c : CoreTree) (text : List ℕ) (old new : Option (List ℕ)) → IsAccepted source ts p → c ≡ elaborated p → text ≡ core_text c → GrewByFront old new text → IsExpandedInPart old new source
expanded_in_part source ts p c text old new a e is front = record { program = c; means = means source ts p c a e; front = subst (λ t. GrewByFront old new t) is front }

pub told : (l : Limits) (c : CoreTree) (os : List Obligation) (ms : List Countered) (us : List Undecided) (old new : Option (List ℕ)) (source text : List ℕ) → Means source c → os ≡ obligations c → IsUnproved c.classes (options_of l) (obligations c) ms us
    → text ≡ listed_text c os ms us → Grew old new text → IsToldUnproved l ms us old new source
told l c os ms us old new source text means same unproved is took = record {
  program = c;
  means = means;
  unproved = unproved;
  took = subst (λ t. Grew old new t) (is ∙ ap (λ o. listed_text c o ms us) same) took;
}

pub told_undecided : (l : Limits) (c : CoreTree) (os : List Obligation) (us : List Undecided) (old new : Option (List ℕ)) (source text : List ℕ) → Means source c → os ≡ obligations c → IsUndecided c.classes (options_of l) (obligations c) us
    → text ≡ listed_text c os [] us → Grew old new text → IsToldUndecided l us old new source
told_undecided l c os us old new source text means same undecided is took = record {
  program = c;
  means = means;
  verdict = undecided;
  took = subst (λ t. Grew old new t) (is ∙ ap (λ o. listed_text c o [] us) same) took;
}

listed_in_part : (l : Limits) (c : CoreTree) (os : List Obligation) (ms : List Countered) (us : List Undecided) (old new : Option (List ℕ)) (source text : List ℕ) → Means source c → os ≡ obligations c → AreListed l c ms us
    → text ≡ listed_text c os ms us → GrewByFront old new text → IsToldInPart l old new source
listed_in_part l c os ms us old new source text means same listed is front = record {
  program = c;
  means = means;
  countered = ms;
  undecided = us;
  listed = listed;
  front = subst (λ t. GrewByFront old new t) (is ∙ ap (λ o. listed_text c o ms us) same) front;
}

pub told_in_part : (l : Limits) (c : CoreTree) (os : List Obligation) (v : Verdict) (old new : Option (List ℕ)) (source text : List ℕ) → Means source c → os ≡ obligations c → IsListed l c v → text ≡ verdict_text c os v → GrewByFront old new text
    → IsToldInPart l old new source
told_in_part l c os (found.Verified ds) old new source text means same h is front = absurd h
told_in_part l c os (found.Unproved ms us) old new source text means same h is front = listed_in_part l c os ms.items us.items old new source text means same (inl h) is front
told_in_part l c os (found.Undecided us) old new source text means same h is front = listed_in_part l c os [] us.items old new source text means same (inr (refl, h)) is front
told_in_part l c os found.Memory old new source text means same h is front = absurd h

-- what a verdict lists is in rising order
pub countered_rise : (l : Limits) (c : CoreTree) (v : Verdict) → IsListed l c v → AreRisingFrom 0 (countered_numbers (countered_of v))
countered_rise l c (found.Verified ds) h = tt
countered_rise l c (found.Unproved ms us) h = h.decided.countered_rise
countered_rise l c (found.Undecided us) h = tt
countered_rise l c found.Memory h = tt

pub undecided_rise : (l : Limits) (c : CoreTree) (v : Verdict) → IsListed l c v → AreRisingFrom 0 (undecided_numbers (undecided_of v))
undecided_rise l c (found.Verified ds) h = tt
undecided_rise l c (found.Unproved ms us) h = h.decided.undecided_rise
undecided_rise l c (found.Undecided us) h = h.decided.undecided_rise
undecided_rise l c found.Memory h = tt

-- nothing was taken
pub grew_nothing : (taken : Option (List ℕ)) → Grew taken taken []
grew_nothing None = refl
grew_nothing (Some bytes) = ap Some (sym (append-nil bytes))

-- the answer to a source that isn't read
pub refused_says : (l : Limits) (steps : ℕ) (input : List ℤ) (taken : Option (List ℕ)) (g : Goal) (source : List ℕ) (stop : FrontStop) → Gives source (Err stop) → Says l steps input taken taken (answer_to stop) (command_of_goal g) source
refused_says l steps input taken g source front.Memory h = inl (grew_nothing taken)
refused_says l steps input taken asked_for.Verdict source (front.Refused rule at) h = (h, grew_nothing taken)
refused_says l steps input taken asked_for.Run source (front.Refused rule at) h = (h, grew_nothing taken)

pub unread_says : (l : Limits) (steps : ℕ) (input : List ℤ) (taken : Option (List ℕ)) (source : List ℕ) (stop : FrontStop) → reading.Gives source (Err stop) → Says l steps input taken taken (answer_to stop) command.Expand source
unread_says l steps input taken source front.Memory h = inl (grew_nothing taken)
unread_says l steps input taken source (front.Refused rule at) h = (h, grew_nothing taken)

pub unrun_says : (l : Limits) (steps : ℕ) (input : List ℤ) (taken : Option (List ℕ)) (source : List ℕ) (stop : FrontStop) → reading.Gives source (Err stop) → Says l steps input taken taken (answer_to stop) command.RunUnverified source
unrun_says l steps input taken source front.Memory h = inl (grew_nothing taken)
unrun_says l steps input taken source (front.Refused rule at) h = (h, grew_nothing taken)

-- what is refused to every command
pub refused_gives : (source : List ℕ) (stop : FrontStop) → reading.Gives source (Err stop) → Gives source (Err stop)
refused_gives source front.Memory h = tt
refused_gives source (front.Refused rule at) h = h

-- a front of what a goal lets be written
pub verdict_in_part : (l : Limits) (g : Goal) (steps : ℕ) (input : List ℤ) (old new : Option (List ℕ)) (source : List ℕ) → IsToldInPart l old new source → IsWrittenInPart l steps input old new (command_of_goal g) source
verdict_in_part l asked_for.Verdict steps input old new source h = inr h
verdict_in_part l asked_for.Run steps input old new source h = inr h

pub goal_verifies : (g : Goal) → Verifies (command_of_goal g)
goal_verifies asked_for.Verdict = tt
goal_verifies asked_for.Run = tt

-- the answer where the text of a verdict was written
pub answer_says : (l : Limits) (g : Goal) (steps : ℕ) (input : List ℤ) (c : CoreTree) (os : List Obligation) (v : Verdict) (old new : Option (List ℕ)) (source text : List ℕ) → Means source c → os ≡ obligations c → IsListed l c v → text ≡ verdict_text c os v
    → Grew old new text → Says l steps input old new (answer_of v) (command_of_goal g) source
answer_says l g steps input c os (found.Verified ds) old new source text means same h is took = absurd h
answer_says l g steps input c os (found.Unproved ms us) old new source text means same h is took = (goal_verifies g, told l c os ms.items us.items old new source text means same h is took)
answer_says l g steps input c os (found.Undecided us) old new source text means same h is took = (goal_verifies g, told_undecided l c os us.items old new source text means same h is took)
answer_says l g steps input c os found.Memory old new source text means same h is took = absurd h

-- is not that a write failed
pub answer_no_fault : (v : Verdict) → answer_of v ≡ status.WriteFault → ⊥
answer_no_fault (found.Verified ds) e = cc
answer_no_fault (found.Unproved ms us) e = cc
answer_no_fault (found.Undecided us) e = cc
answer_no_fault found.Memory e = cc

-- a verdict that isn't that all is proved lists obligations, where memory didn't fail
pub is_listed : (l : Limits) (c : CoreTree) (v : Verdict) → ((ds : _) → v ≡ found.Verified ds → ⊥) → (v ≡ found.Memory → ⊥)
    → sound.IfUnproved v (IsUnproved c.classes (options_of l) (obligations c)) → sound.IfUndecided v (IsUndecided c.classes (options_of l) (obligations c)) → IsListed l c v
is_listed l c (found.Verified ds) not_all not_memory unproved undecided = absurd (not_all ds refl)
is_listed l c (found.Unproved ms us) not_all not_memory unproved undecided = unproved
is_listed l c (found.Undecided us) not_all not_memory unproved undecided = undecided
is_listed l c found.Memory not_all not_memory unproved undecided = absurd (not_memory refl)

-- ---- the run of a safe program

-- no check of it fails
never_fails : (c : CoreTree) (kind : Kind) (at : Place) (steps : ℕ) (input : List ℤ) (old new : Option (List ℕ)) (source : List ℕ) → Means source c → IsSafe c → IsInput input → FailsAt kind at steps input old new source → ⊥
never_fails c kind at steps input old new source means safe given h =
    let same : h.program ≡ c = one_core source h.program c h.means means in
    let safe_one : IsSafe h.program = subst IsSafe (sym same) safe in
    subst IsUnfailed h.failed (safe_one.unfailed input given h.admits steps)

-- what is said of its run without verification is said of its run after it
pub safe_says : (l : Limits) (c : CoreTree) (steps : ℕ) (input : List ℤ) (old new : Option (List ℕ)) (source : List ℕ) (st : Status) → Means source c → IsSafe c → IsInput input → Says l steps input old new st command.RunUnverified source → Says l steps input old new st command.Run source
safe_says l c steps input old new source status.Ended means safe given h = (record { program = c; means = means; safe = safe }, h)
safe_says l c steps input old new source status.StepsSpent means safe given h = (record { program = c; means = means; safe = safe }, h)
safe_says l c steps input old new source (status.Stopped at) means safe given h = (record { program = c; means = means; safe = safe }, h)
safe_says l c steps input old new source (status.Failed kind at) means safe given h = absurd (never_fails c kind at steps input old new source means safe given h.1)
safe_says l c steps input old new source status.NotAdmitted means safe given h = (record { program = c; means = means; safe = safe }, h)
safe_says l c steps input old new source (status.Unproved ms us) means safe given h = absurd h.0
safe_says l c steps input old new source (status.Undecided us) means safe given h = absurd h.0
safe_says l c steps input old new source (status.SourceRefused rule at) means safe given h = h
safe_says l c steps input old new source status.WriteFault means safe given h = inl (record { program = c; means = means; safe = safe }, h)
safe_says l c steps input old new source status.Memory means safe given h = ⊎_elim (λ nothing. inl nothing) (λ part. inr (inl (record { program = c; means = means; safe = safe }, part))) h
safe_says l c steps input old new source status.BadWords means safe given h = absurd h
safe_says l c steps input old new source status.ReadFault means safe given h = absurd h

-- ---- from what an answer says to the single facts

-- what is said where this was asked
abbrev pub SaysOf : Asked → Option (List ℕ) → Option (List ℕ) → Status → List ℕ → Type 0
SaysOf a old new st source = Says a.limits a.steps a.input old new st a.command source

pub Says-refused : (a : Asked) (old new : Option (List ℕ)) (st : Status) (told : List ℕ → Told) → OfSource (told a.file) (SaysOf a old new st)
    → IfRefused st (λ rule at. OfFile (Some a) told (λ asked source. IsRefused source rule at))
Says-refused a old new status.Ended told h = tt
Says-refused a old new status.StepsSpent told h = tt
Says-refused a old new (status.Stopped at) told h = tt
Says-refused a old new (status.Failed kind at) told h = tt
Says-refused a old new status.NotAdmitted told h = tt
Says-refused a old new (status.Unproved countered undecided) told h = tt
Says-refused a old new (status.Undecided undecided) told h = tt
Says-refused a old new (status.SourceRefused rule at) told h = OfSource-map (told a.file) (SaysOf a old new (status.SourceRefused rule at)) (λ source. IsRefused source rule at) (λ source x. x.0) h
Says-refused a old new status.WriteFault told h = tt
Says-refused a old new status.Memory told h = tt
Says-refused a old new status.BadWords told h = tt
Says-refused a old new status.ReadFault told h = tt

ended_headline : (c : Command) (steps : ℕ) (input : List ℤ) (old new : Option (List ℕ)) (source : List ℕ) → HasEnded c steps input old new source → Verifies c → IsHeadline source
ended_headline command.Verify steps input old new source x v = record { program = x.program; means = x.means; safe = x.safe }
ended_headline command.Run steps input old new source x v = x.0
ended_headline command.RunUnverified steps input old new source x v = absurd v
ended_headline command.Expand steps input old new source x v = absurd v

spent_headline : (c : Command) (steps : ℕ) (input : List ℤ) (old new : Option (List ℕ)) (source : List ℕ) → IsSpent c steps input old new source → Verifies c → IsHeadline source
spent_headline command.Verify steps input old new source x v = absurd x
spent_headline command.Run steps input old new source x v = x.0
spent_headline command.RunUnverified steps input old new source x v = absurd v
spent_headline command.Expand steps input old new source x v = absurd v

stopped_headline : (at : Place) (c : Command) (steps : ℕ) (input : List ℤ) (old new : Option (List ℕ)) (source : List ℕ) → IsStopped at c steps input old new source → Verifies c → IsHeadline source
stopped_headline at command.Verify steps input old new source x v = absurd x
stopped_headline at command.Run steps input old new source x v = x.0
stopped_headline at command.RunUnverified steps input old new source x v = absurd v
stopped_headline at command.Expand steps input old new source x v = absurd v

unadmitted_headline : (c : Command) (input : List ℤ) (old new : Option (List ℕ)) (source : List ℕ) → IsUnadmitted c input old new source → Verifies c → IsHeadline source
unadmitted_headline command.Verify input old new source x v = absurd x
unadmitted_headline command.Run input old new source x v = x.0
unadmitted_headline command.RunUnverified input old new source x v = absurd v
unadmitted_headline command.Expand input old new source x v = absurd v

pub Says-headline : (a : Asked) (old new : Option (List ℕ)) (st : Status) (told : List ℕ → Told) → OfSource (told a.file) (SaysOf a old new st) → IsVerified st
    → OfFile (Some a) told (λ asked source. Verifies asked.command → IsHeadline source)
Says-headline a old new status.Ended told h v = OfSource-map (told a.file) (SaysOf a old new status.Ended) (λ source. Verifies a.command → IsHeadline source) (λ source x. ended_headline a.command a.steps a.input old new source x) h
Says-headline a old new status.StepsSpent told h v = OfSource-map (told a.file) (SaysOf a old new status.StepsSpent) (λ source. Verifies a.command → IsHeadline source) (λ source x. spent_headline a.command a.steps a.input old new source x) h
Says-headline a old new (status.Stopped at) told h v = OfSource-map (told a.file) (SaysOf a old new (status.Stopped at)) (λ source. Verifies a.command → IsHeadline source) (λ source x. stopped_headline at a.command a.steps a.input old new source x) h
Says-headline a old new (status.Failed kind at) told h v = absurd v
Says-headline a old new status.NotAdmitted told h v = OfSource-map (told a.file) (SaysOf a old new status.NotAdmitted) (λ source. Verifies a.command → IsHeadline source) (λ source x. unadmitted_headline a.command a.input old new source x) h
Says-headline a old new (status.Unproved countered undecided) told h v = absurd v
Says-headline a old new (status.Undecided undecided) told h v = absurd v
Says-headline a old new (status.SourceRefused rule at) told h v = absurd v
Says-headline a old new status.WriteFault told h v = absurd v
Says-headline a old new status.Memory told h v = absurd v
Says-headline a old new status.BadWords told h v = absurd v
Says-headline a old new status.ReadFault told h v = absurd v

ended_verify : (c : Command) (steps : ℕ) (input : List ℤ) (old new : Option (List ℕ)) (source : List ℕ) → HasEnded c steps input old new source → IsVerify c → IsToldVerified old new source
ended_verify command.Verify steps input old new source x v = x
ended_verify command.Run steps input old new source x v = absurd v
ended_verify command.RunUnverified steps input old new source x v = absurd v
ended_verify command.Expand steps input old new source x v = absurd v

ended_run : (c : Command) (steps : ℕ) (input : List ℤ) (old new : Option (List ℕ)) (source : List ℕ) → HasEnded c steps input old new source → IsRun c → IsHeadline source × HasRun steps input old new source
ended_run command.Verify steps input old new source x v = absurd v
ended_run command.Run steps input old new source x v = x
ended_run command.RunUnverified steps input old new source x v = absurd v
ended_run command.Expand steps input old new source x v = absurd v

ended_run_unverified : (c : Command) (steps : ℕ) (input : List ℤ) (old new : Option (List ℕ)) (source : List ℕ) → HasEnded c steps input old new source → IsRunUnverified c → HasRun steps input old new source
ended_run_unverified command.Verify steps input old new source x v = absurd v
ended_run_unverified command.Run steps input old new source x v = absurd v
ended_run_unverified command.RunUnverified steps input old new source x v = x
ended_run_unverified command.Expand steps input old new source x v = absurd v

ended_expand : (c : Command) (steps : ℕ) (input : List ℤ) (old new : Option (List ℕ)) (source : List ℕ) → HasEnded c steps input old new source → IsExpand c → IsExpanded old new source
ended_expand command.Verify steps input old new source x v = absurd v
ended_expand command.Run steps input old new source x v = absurd v
ended_expand command.RunUnverified steps input old new source x v = absurd v
ended_expand command.Expand steps input old new source x v = x

pub Says-verified : (a : Asked) (old new : Option (List ℕ)) (st : Status) (told : List ℕ → Told) → OfSource (told a.file) (SaysOf a old new st) → st ≡ status.Ended
    → OfFile (Some a) told (λ asked source. IsVerify asked.command → IsToldVerified old new source)
Says-verified a old new st told h e =
    OfSource-map (told a.file) (HasEnded a.command a.steps a.input old new) (λ source. IsVerify a.command → IsToldVerified old new source) (λ source x. ended_verify a.command a.steps a.input old new source x) (subst (λ x. OfSource (told a.file) (SaysOf a old new x)) e h)

pub Says-ended : (a : Asked) (old new : Option (List ℕ)) (st : Status) (told : List ℕ → Told) → OfSource (told a.file) (SaysOf a old new st) → st ≡ status.Ended
    → OfFile (Some a) told (λ asked source. IsRun asked.command → IsHeadline source × HasRun asked.steps asked.input old new source)
Says-ended a old new st told h e =
    OfSource-map (told a.file) (HasEnded a.command a.steps a.input old new) (λ source. IsRun a.command → IsHeadline source × HasRun a.steps a.input old new source) (λ source x. ended_run a.command a.steps a.input old new source x) (subst (λ x. OfSource (told a.file) (SaysOf a old new x)) e h)

pub Says-ran : (a : Asked) (old new : Option (List ℕ)) (st : Status) (told : List ℕ → Told) → OfSource (told a.file) (SaysOf a old new st) → st ≡ status.Ended
    → OfFile (Some a) told (λ asked source. IsRunUnverified asked.command → HasRun asked.steps asked.input old new source)
Says-ran a old new st told h e =
    OfSource-map (told a.file) (HasEnded a.command a.steps a.input old new) (λ source. IsRunUnverified a.command → HasRun a.steps a.input old new source) (λ source x. ended_run_unverified a.command a.steps a.input old new source x) (subst (λ x. OfSource (told a.file) (SaysOf a old new x)) e h)

pub Says-expanded : (a : Asked) (old new : Option (List ℕ)) (st : Status) (told : List ℕ → Told) → OfSource (told a.file) (SaysOf a old new st) → st ≡ status.Ended
    → OfFile (Some a) told (λ asked source. IsExpand asked.command → IsExpanded old new source)
Says-expanded a old new st told h e =
    OfSource-map (told a.file) (HasEnded a.command a.steps a.input old new) (λ source. IsExpand a.command → IsExpanded old new source) (λ source x. ended_expand a.command a.steps a.input old new source x) (subst (λ x. OfSource (told a.file) (SaysOf a old new x)) e h)

pub Says-steps_spent : (a : Asked) (old new : Option (List ℕ)) (st : Status) (told : List ℕ → Told) → OfSource (told a.file) (SaysOf a old new st) → st ≡ status.StepsSpent
    → OfFile (Some a) told (λ asked source. IsSpent asked.command asked.steps asked.input old new source)
Says-steps_spent a old new st told h e = subst (λ x. OfSource (told a.file) (SaysOf a old new x)) e h

pub Says-not_admitted : (a : Asked) (old new : Option (List ℕ)) (st : Status) (told : List ℕ → Told) → OfSource (told a.file) (SaysOf a old new st) → st ≡ status.NotAdmitted
    → OfFile (Some a) told (λ asked source. IsUnadmitted asked.command asked.input old new source)
Says-not_admitted a old new st told h e = subst (λ x. OfSource (told a.file) (SaysOf a old new x)) e h

pub Says-stopped : (a : Asked) (old new : Option (List ℕ)) (st : Status) (told : List ℕ → Told) → OfSource (told a.file) (SaysOf a old new st)
    → IfStopped st (λ at. OfFile (Some a) told (λ asked source. IsStopped at asked.command asked.steps asked.input old new source))
Says-stopped a old new status.Ended told h = tt
Says-stopped a old new status.StepsSpent told h = tt
Says-stopped a old new (status.Stopped at) told h = h
Says-stopped a old new (status.Failed kind at) told h = tt
Says-stopped a old new status.NotAdmitted told h = tt
Says-stopped a old new (status.Unproved countered undecided) told h = tt
Says-stopped a old new (status.Undecided undecided) told h = tt
Says-stopped a old new (status.SourceRefused rule at) told h = tt
Says-stopped a old new status.WriteFault told h = tt
Says-stopped a old new status.Memory told h = tt
Says-stopped a old new status.BadWords told h = tt
Says-stopped a old new status.ReadFault told h = tt

pub Says-failed : (a : Asked) (old new : Option (List ℕ)) (st : Status) (told : List ℕ → Told) → OfSource (told a.file) (SaysOf a old new st)
    → IfFailed st (λ kind at. OfFile (Some a) told (λ asked source. IsRunUnverified asked.command × FailsAt kind at asked.steps asked.input old new source))
Says-failed a old new status.Ended told h = tt
Says-failed a old new status.StepsSpent told h = tt
Says-failed a old new (status.Stopped at) told h = tt
Says-failed a old new (status.Failed kind at) told h = h
Says-failed a old new status.NotAdmitted told h = tt
Says-failed a old new (status.Unproved countered undecided) told h = tt
Says-failed a old new (status.Undecided undecided) told h = tt
Says-failed a old new (status.SourceRefused rule at) told h = tt
Says-failed a old new status.WriteFault told h = tt
Says-failed a old new status.Memory told h = tt
Says-failed a old new status.BadWords told h = tt
Says-failed a old new status.ReadFault told h = tt

pub Says-unproved : (a : Asked) (old new : Option (List ℕ)) (st : Status) (told : List ℕ → Told) → OfSource (told a.file) (SaysOf a old new st)
    → IfUnproved st (λ countered undecided. OfFile (Some a) told (λ asked source. Verifies asked.command × IsToldUnproved asked.limits countered undecided old new source))
Says-unproved a old new status.Ended told h = tt
Says-unproved a old new status.StepsSpent told h = tt
Says-unproved a old new (status.Stopped at) told h = tt
Says-unproved a old new (status.Failed kind at) told h = tt
Says-unproved a old new status.NotAdmitted told h = tt
Says-unproved a old new (status.Unproved countered undecided) told h = h
Says-unproved a old new (status.Undecided undecided) told h = tt
Says-unproved a old new (status.SourceRefused rule at) told h = tt
Says-unproved a old new status.WriteFault told h = tt
Says-unproved a old new status.Memory told h = tt
Says-unproved a old new status.BadWords told h = tt
Says-unproved a old new status.ReadFault told h = tt

pub Says-undecided : (a : Asked) (old new : Option (List ℕ)) (st : Status) (told : List ℕ → Told) → OfSource (told a.file) (SaysOf a old new st)
    → IfUndecided st (λ undecided. OfFile (Some a) told (λ asked source. Verifies asked.command × IsToldUndecided asked.limits undecided old new source))
Says-undecided a old new status.Ended told h = tt
Says-undecided a old new status.StepsSpent told h = tt
Says-undecided a old new (status.Stopped at) told h = tt
Says-undecided a old new (status.Failed kind at) told h = tt
Says-undecided a old new status.NotAdmitted told h = tt
Says-undecided a old new (status.Unproved countered undecided) told h = tt
Says-undecided a old new (status.Undecided undecided) told h = h
Says-undecided a old new (status.SourceRefused rule at) told h = tt
Says-undecided a old new status.WriteFault told h = tt
Says-undecided a old new status.Memory told h = tt
Says-undecided a old new status.BadWords told h = tt
Says-undecided a old new status.ReadFault told h = tt

-- ---- what isn't said where the program is within reach

spent_of_run : (c : Command) (steps : ℕ) (input : List ℤ) (old new : Option (List ℕ)) (source : List ℕ) → IsSpent c steps input old new source → IsVerify c → ⊥
spent_of_run command.Verify steps input old new source x v = x
spent_of_run command.Run steps input old new source x v = v
spent_of_run command.RunUnverified steps input old new source x v = v
spent_of_run command.Expand steps input old new source x v = v

stopped_of_run : (at : Place) (c : Command) (steps : ℕ) (input : List ℤ) (old new : Option (List ℕ)) (source : List ℕ) → IsStopped at c steps input old new source → IsVerify c → ⊥
stopped_of_run at command.Verify steps input old new source x v = x
stopped_of_run at command.Run steps input old new source x v = v
stopped_of_run at command.RunUnverified steps input old new source x v = v
stopped_of_run at command.Expand steps input old new source x v = v

failed_of_run : (c : Command) → IsRunUnverified c → IsVerify c → ⊥
failed_of_run command.Verify x v = x
failed_of_run command.Run x v = v
failed_of_run command.RunUnverified x v = v
failed_of_run command.Expand x v = v

unadmitted_of_run : (c : Command) (input : List ℤ) (old new : Option (List ℕ)) (source : List ℕ) → IsUnadmitted c input old new source → IsVerify c → ⊥
unadmitted_of_run command.Verify input old new source x v = x
unadmitted_of_run command.Run input old new source x v = v
unadmitted_of_run command.RunUnverified input old new source x v = v
unadmitted_of_run command.Expand input old new source x v = v

-- the obligations of whatever program the source means are such
all_within : (l : Limits) (source : List ℕ) (c : CoreTree) → Means source c → IsWithinReach l source → AllHaveNoModelWithin c.classes (options_of l) (obligations c)
all_within l source c m reach = subst (λ (d : CoreTree). AllHaveNoModelWithin d.classes (options_of l) (obligations d)) (one_core source reach.program c reach.means m) reach.within

concludes : (l : Limits) (steps : ℕ) (input : List ℤ) (old new : Option (List ℕ)) (st : Status) (c : Command) (source : List ℕ) → Says l steps input old new st c source → IsWithinReach l source → Concludes st c
concludes l steps input old new status.Ended c source h reach = tt
concludes l steps input old new status.StepsSpent c source h reach = spent_of_run c steps input old new source h
concludes l steps input old new (status.Stopped at) c source h reach = stopped_of_run at c steps input old new source h
concludes l steps input old new (status.Failed kind at) c source h reach = failed_of_run c h.0
concludes l steps input old new status.NotAdmitted c source h reach = unadmitted_of_run c input old new source h
concludes l steps input old new (status.Unproved ms us) c source h reach =
    let x = h.1 in not_unproved (x.program).classes (options_of l) (obligations x.program) ms.items us.items (all_within l source x.program x.means reach) x.unproved
concludes l steps input old new (status.Undecided us) c source h reach =
    let x = h.1 in not_undecided (x.program).classes (options_of l) (obligations x.program) us.items (all_within l source x.program x.means reach) x.verdict
concludes l steps input old new (status.SourceRefused rule at) c source h reach = no_fault source reach.program rule at reach.means h.0
concludes l steps input old new status.WriteFault c source h reach = tt
concludes l steps input old new status.Memory c source h reach = tt
concludes l steps input old new status.BadWords c source h reach = tt
concludes l steps input old new status.ReadFault c source h reach = tt

pub Says-complete : (a : Asked) (old new : Option (List ℕ)) (st : Status) (told : List ℕ → Told) (words : Option Asked) → words ≡ Some a → OfSource (told a.file) (SaysOf a old new st) → WhereWithinReach words told (Concludes st)
Says-complete a old new st told words named h = λ b source asks holds reach.
    let both : Some b ≡ Some a = sym asks ∙ named in
    let same : b ≡ a = cc in
    let here : told a.file ≡ Some (Some source) = subst (λ (x : Asked). told x.file ≡ Some (Some source)) same holds in
    let said : SaysOf a old new st source = subst (λ (t : Told). OfSource t (SaysOf a old new st)) here h in
    let within : IsWithinReach a.limits source = subst (λ (x : Asked). IsWithinReach x.limits source) same reach in
    subst (λ (x : Asked). Concludes st x.command) (sym same) (concludes a.limits a.steps a.input old new st a.command source said within)

nothing_in : (told : Told) (P : List ℕ → Type 0) (Q : Type 0) → ((source : List ℕ) → P source → Q) → OfSource told P → Q
nothing_in None P Q f h = f h.0 h.1
nothing_in (Some None) P Q f h = absurd h
nothing_in (Some (Some source)) P Q f h = f source h

unadmitted_nothing : (c : Command) (input : List ℤ) (old new : Option (List ℕ)) (source : List ℕ) → IsUnadmitted c input old new source → Grew old new []
unadmitted_nothing command.Verify input old new source x = absurd x
unadmitted_nothing command.Run input old new source x = (x.1).nothing
unadmitted_nothing command.RunUnverified input old new source x = x.nothing
unadmitted_nothing command.Expand input old new source x = absurd x

pub Says-silent : (a : Asked) (old new : Option (List ℕ)) (st : Status) (told : List ℕ → Told) → OfSource (told a.file) (SaysOf a old new st) → IsSilent st → Grew old new []
Says-silent a old new status.Ended told h v = absurd v
Says-silent a old new status.StepsSpent told h v = absurd v
Says-silent a old new (status.Stopped at) told h v = absurd v
Says-silent a old new (status.Failed kind at) told h v = absurd v
Says-silent a old new status.NotAdmitted told h v = nothing_in (told a.file) (SaysOf a old new status.NotAdmitted) (Grew old new []) (λ source x. unadmitted_nothing a.command a.input old new source x) h
Says-silent a old new (status.Unproved countered undecided) told h v = absurd v
Says-silent a old new (status.Undecided undecided) told h v = absurd v
Says-silent a old new (status.SourceRefused rule at) told h v = nothing_in (told a.file) (SaysOf a old new (status.SourceRefused rule at)) (Grew old new []) (λ source x. x.1) h
Says-silent a old new status.WriteFault told h v = absurd v
Says-silent a old new status.Memory told h v = absurd v
Says-silent a old new status.BadWords told h v = nothing_in (told a.file) (SaysOf a old new status.BadWords) (Grew old new []) (λ source x. absurd x) h
Says-silent a old new status.ReadFault told h v = nothing_in (told a.file) (SaysOf a old new status.ReadFault) (Grew old new []) (λ source x. absurd x) h

-- of nothing or something of the source, where something can't be told without a source
either : (told : Told) (A : Type 0) (P : List ℕ → Type 0) → OfSource told (λ source. A ⊎ P source) → A ⊎ OfSource told P
either None A P h = ⊎_elim (λ a. inl a) (λ p. inr (h.0, p)) h.1
either (Some None) A P h = absurd h
either (Some (Some source)) A P h = h

pub Says-written : (a : Asked) (old new : Option (List ℕ)) (st : Status) (told : List ℕ → Told) → OfSource (told a.file) (SaysOf a old new st) → st ≡ status.WriteFault
    → OfFile (Some a) told (λ asked source. IsWrittenInPart asked.limits asked.steps asked.input old new asked.command source)
Says-written a old new st told h e = subst (λ x. OfSource (told a.file) (SaysOf a old new x)) e h

pub Says-memory : (a : Asked) (old new : Option (List ℕ)) (st : Status) (told : List ℕ → Told) → OfSource (told a.file) (SaysOf a old new st) → st ≡ status.Memory
    → Grew old new [] ⊎ OfFile (Some a) told (λ asked source. IsWrittenInPart asked.limits asked.steps asked.input old new asked.command source)
Says-memory a old new st told h e = either (told a.file) (Grew old new []) (IsWrittenInPart a.limits a.steps a.input old new a.command) (subst (λ x. OfSource (told a.file) (SaysOf a old new x)) e h)

-- a read leaves the counts of all names but its own
pub reads_only : {T : Type 0} (before now : List ℕ → ℕ) (file : Option (List ℕ)) (name : List ℕ) (r : Result T ReadStop) → file ≡ Some name → ReadCounts before now name r → ReadsOnly file before now
reads_only before now file name r named h = record {
  others = λ other differs. h.others other (λ e. differs (named ∙ ap Some (sym e)));
  later = λ other. ⊎_elim (λ less. absurd (falls other less)) (λ le. le) (cases_lt (now other) (before other));
}
  where
    differs_from : (other : List ℕ) → now other < before other → other ≢ name
    differs_from other less e = let l : before other ≤ now other = subst (λ n. before n ≤ now n) (sym e) h.later in omega arith

    falls : (other : List ℕ) → now other < before other → ⊥
    falls other less = let same : now other ≡ before other = h.others other (differs_from other less) in omega arith

pub reads_nothing : (before : List ℕ → ℕ) (file : Option (List ℕ)) → ReadsOnly file before before
reads_nothing before file = record { others = λ name differs. refl; later = λ name. omega arith }

pub Says-not : (a : Asked) (old new : Option (List ℕ)) (st : Status) (told : List ℕ → Told) → OfSource (told a.file) (SaysOf a old new st) → (st ≡ status.BadWords → ⊥) × (st ≡ status.ReadFault → ⊥)
Says-not a old new st told h = (
  λ e. nothing_in (told a.file) (SaysOf a old new status.BadWords) ⊥ (λ source x. x) (subst (λ x. OfSource (told a.file) (SaysOf a old new x)) e h),
  λ e. nothing_in (told a.file) (SaysOf a old new status.ReadFault) ⊥ (λ source x. x) (subst (λ x. OfSource (told a.file) (SaysOf a old new x)) e h),
)
