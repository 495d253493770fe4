-- What is said of the bytes that were read is so of the whole file.
use Rattle.std.proofs.Common.{◌≡◌, ℕ, ℤ, ◌+◌, ◌<◌, ◌≤◌, ◌⊎◌, inl, inr, ⊎_elim, List, [], length, take, Option, Some, None, Ok, Err, sym, ◌∙◌, subst, arith}
use Rattle.std.specs.Prelude.{MatchBool}
use Rattle.std.proofs.lemmas.Bool.{cases_lt, lt-ltb}
use Rattle.std.proofs.lemmas.Grind.{common_steps}
use Rattle.ss_io.specs.Outside.{Told, IsFront}
use Rattle.ss_core.specs.declared.names.Place.{Place}
use Rattle.ss_core.specs.Tree.{CoreTree}
use Rattle.ss_ast.specs.Tokens.{Tok}
use Rattle.ss_lexer.specs.Pieces.{too_long}
use Rattle.ss_lexer.specs.Reading.{Answer, Reads, start, without_mark, IsReadAs, HasTokens}
use Rattle.ss_report.specs.declared.status.Status.{Status}
use Rattle.ss_report.specs.declared.status.Status.TheVariants as status
use Rattle.ss_top_words.specs.declared.Limits.{Limits}
use Rattle.ss_top_words.specs.declared.Command.{Command}
use Rattle.ss_top_words.specs.declared.Command.TheVariants as command
use Rattle.ss_top_sources.specs.Sources.{IsNoProgram, IsFaulty, IsRefused}
use Rattle.ss_top_sources.specs.CoreSources.{Means}
use Rattle.ss_top.specs.Runs.{HasRun, RunsOn, StopsAt, FailsAt, IsNotAdmitted, RunsInPart}
use Rattle.ss_top.specs.Answers.{OfSource, IsHeadline, IsToldVerified, IsToldUnproved, IsToldUndecided, IsExpanded, IsVerifiedInPart, IsToldInPart, IsExpandedInPart, IsWrittenInPart, HasEnded, IsSpent, IsStopped, IsUnadmitted, Says}

-- a front that is shorter than it may be is the whole
front_is_whole : (n : ℕ) (file : List ℕ) → length (take (n + 1) file) ≤ n → take (n + 1) file ≡ file
front_is_whole n file h = grind (arith, common_steps)

front_is_shorter : (n : ℕ) (file : List ℕ) → length (take n file) ≤ length file
front_is_shorter n file = grind (arith, common_steps)

whole : (bytes file : List ℕ) → bytes ≡ take 1048577 file → length bytes ≤ 1048576 → bytes ≡ file
whole bytes file e h = e ∙ front_is_whole 1048576 file (subst (λ b. length b ≤ 1048576) e h)

-- ---- what is too long

long_is : (bytes : List ℕ) (a : Answer) → 1048576 < length bytes → IsReadAs bytes a → a ≡ Err (too_long, start)
long_is bytes a long h = subst (λ b. MatchBool b (a ≡ Err (too_long, start)) (Reads start [] (without_mark bytes) a)) (lt-ltb 1048576 (length bytes) long) h

long_reads : (bytes : List ℕ) (a : Answer) → 1048576 < length bytes → a ≡ Err (too_long, start) → IsReadAs bytes a
long_reads bytes a long h = subst (λ b. MatchBool b (a ≡ Err (too_long, start)) (Reads start [] (without_mark bytes) a)) (sym (lt-ltb 1048576 (length bytes) long)) h

pub IsReadAs-whole : (bytes file : List ℕ) (a : Answer) → bytes ≡ take 1048577 file → IsReadAs bytes a → IsReadAs file a
IsReadAs-whole bytes file a e h = ⊎_elim
    (λ long. let shorter : length bytes ≤ length file = subst (λ b. length b ≤ length file) (sym e) (front_is_shorter 1048577 file) in
    let above : 1048576 < length file = omega arith in long_reads file a above (long_is bytes a long h))
    (λ short. subst (λ b. IsReadAs b a) (whole bytes file e short) h)
    (cases_lt 1048576 (length bytes))

-- bytes with tokens are the whole file
pub HasTokens-whole : (bytes file : List ℕ) (tokens : List Tok) → bytes ≡ take 1048577 file → HasTokens bytes tokens → bytes ≡ file
HasTokens-whole bytes file tokens e h = ⊎_elim
    (λ long. let none : Ok tokens ≡ Err (too_long, start) = long_is bytes (Ok tokens) long h in absurd (cc))
    (λ short. whole bytes file e short)
    (cases_lt 1048576 (length bytes))

-- ---- what is said of a source

module _ (bytes file : List ℕ) (e : bytes ≡ take 1048577 file) where
  -- bytes with a program are the whole file
  same : (c : CoreTree) → Means bytes c → bytes ≡ file
  same c x = HasTokens-whole bytes file x.tokens e (x.accepted).reads

  refused_whole : (rule : ℕ) (at : Place) → IsRefused bytes rule at → IsRefused file rule at
  refused_whole rule at h = ⊎_elim
      (λ fault. inl (IsReadAs-whole bytes file (Err (rule, at)) e fault))
      (λ others. inr (⊎_elim
      (λ none. inl (subst (λ b. IsNoProgram b rule at) (HasTokens-whole bytes file none.tokens e none.reads) none))
      (λ faulty. inr (subst (λ b. IsFaulty b rule at) (HasTokens-whole bytes file faulty.tokens e faulty.reads) faulty))
      others))
      h

  module _ (limits : Limits) (steps : ℕ) (input : List ℤ) (old new : Option (List ℕ)) where
    ended_whole : (c : Command) → HasEnded c steps input old new bytes → HasEnded c steps input old new file
    ended_whole command.Verify h = subst (IsToldVerified old new) (same h.program h.means) h
    ended_whole command.Run h = subst (λ s. IsHeadline s × HasRun steps input old new s) (same (h.1).program (h.1).means) h
    ended_whole command.RunUnverified h = subst (HasRun steps input old new) (same h.program h.means) h
    ended_whole command.Expand h = subst (IsExpanded old new) (same h.program h.means) h

    spent_whole : (c : Command) → IsSpent c steps input old new bytes → IsSpent c steps input old new file
    spent_whole command.Verify h = h
    spent_whole command.Run h = subst (λ s. IsHeadline s × RunsOn steps input old new s) (same (h.1).program (h.1).means) h
    spent_whole command.RunUnverified h = subst (RunsOn steps input old new) (same h.program h.means) h
    spent_whole command.Expand h = h

    stopped_whole : (at : Place) (c : Command) → IsStopped at c steps input old new bytes → IsStopped at c steps input old new file
    stopped_whole at command.Verify h = h
    stopped_whole at command.Run h = subst (λ s. IsHeadline s × StopsAt at steps input old new s) (same (h.1).program (h.1).means) h
    stopped_whole at command.RunUnverified h = subst (StopsAt at steps input old new) (same h.program h.means) h
    stopped_whole at command.Expand h = h

    unadmitted_whole : (c : Command) → IsUnadmitted c input old new bytes → IsUnadmitted c input old new file
    unadmitted_whole command.Verify h = h
    unadmitted_whole command.Run h = subst (λ s. IsHeadline s × IsNotAdmitted input old new s) (same (h.1).program (h.1).means) h
    unadmitted_whole command.RunUnverified h = subst (IsNotAdmitted input old new) (same h.program h.means) h
    unadmitted_whole command.Expand h = h

    told_whole : IsToldInPart limits old new bytes → IsToldInPart limits old new file
    told_whole h = subst (IsToldInPart limits old new) (same h.program h.means) h

    in_part_whole : (c : Command) → IsWrittenInPart limits steps input old new c bytes → IsWrittenInPart limits steps input old new c file
    in_part_whole command.Verify h = ⊎_elim (λ x. inl (subst (IsVerifiedInPart old new) (same x.program x.means) x)) (λ told. inr (told_whole told)) h
    in_part_whole command.Run h = ⊎_elim (λ x. inl (subst (λ s. IsHeadline s × RunsInPart steps input old new s) (same (x.1).program (x.1).means) x)) (λ told. inr (told_whole told)) h
    in_part_whole command.RunUnverified h = subst (RunsInPart steps input old new) (same h.program h.means) h
    in_part_whole command.Expand h = subst (IsExpandedInPart old new) (same h.program h.means) h

    says_whole : (st : Status) (c : Command) → Says limits steps input old new st c bytes → Says limits steps input old new st c file
    says_whole status.Ended c h = ended_whole c h
    says_whole status.StepsSpent c h = spent_whole c h
    says_whole (status.Stopped at) c h = stopped_whole at c h
    says_whole (status.Failed kind at) c h = (h.0, subst (FailsAt kind at steps input old new) (same (h.1).program (h.1).means) h.1)
    says_whole status.NotAdmitted c h = unadmitted_whole c h
    says_whole (status.Unproved countered undecided) c h = (h.0, subst (IsToldUnproved limits countered.items undecided.items old new) (same (h.1).program (h.1).means) h.1)
    says_whole (status.Undecided undecided) c h = (h.0, subst (IsToldUndecided limits undecided.items old new) (same (h.1).program (h.1).means) h.1)
    says_whole (status.SourceRefused rule at) c h = (refused_whole rule at h.0, h.1)
    says_whole status.WriteFault c h = in_part_whole c h
    says_whole status.Memory c h = ⊎_elim (λ nothing. inl nothing) (λ some. inr (in_part_whole c some)) h
    says_whole status.BadWords c h = absurd h
    says_whole status.ReadFault c h = absurd h

-- what the answer says of the bytes that were read, it says of the source
pub Says-source : (limits : Limits) (steps : ℕ) (input : List ℤ) (old new : Option (List ℕ)) (st : Status) (c : Command) (told : Told) (bytes : List ℕ) → IsFront told 1048577 bytes → Says limits steps input old new st c bytes → OfSource told (Says limits steps input old new st c)
Says-source limits steps input old new st c None bytes front h = (bytes, h)
Says-source limits steps input old new st c (Some None) bytes front h = front
Says-source limits steps input old new st c (Some (Some file)) bytes front h = says_whole bytes file front limits steps input old new st c h

pub OfSource-map : (told : Told) (P Q : List ℕ → Type 0) → ((source : List ℕ) → P source → Q source) → OfSource told P → OfSource told Q
OfSource-map None P Q f h = (h.0, f h.0 h.1)
OfSource-map (Some None) P Q f h = h
OfSource-map (Some (Some source)) P Q f h = f source h
