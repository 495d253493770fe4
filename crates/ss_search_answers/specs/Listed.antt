-- Lists of obligations that aren't proved, and the lists of a verdict.
use Rattle.std.specs.Prelude.{ℕ, ◌+◌, ◌≤◌, List, [], ◌∷◌, map}
use Rattle.ss_search_answers.specs.declared.answers.Countered.{Countered}
use Rattle.ss_search_answers.specs.declared.answers.Undecided.{Undecided}
use Rattle.ss_search_answers.specs.declared.answers.Verdict.{Verdict}
use Rattle.ss_search_answers.specs.declared.answers.Verdict.TheVariants as verdict

-- the numbers of the obligations that a model refutes
abbrev pub countered_numbers : List Countered → List ℕ
countered_numbers ls = map (λ l. l.obligation) ls

-- the numbers of those that aren't decided
abbrev pub undecided_numbers : List Undecided → List ℕ
undecided_numbers ls = map (λ l. l.obligation) ls

-- each number is at least `low`, and above the one before it
abbrev pub AreRisingFrom : ℕ → List ℕ → Type 0
AreRisingFrom low [] = Unit {0}
AreRisingFrom low (n ∷ ns) = (low ≤ n) × AreRisingFrom (n + 1) ns

-- those of a verdict that a model refutes
abbrev pub countered_of : Verdict → List Countered
countered_of (verdict.Unproved countered undecided) = countered.items
countered_of _ = []

-- those of a verdict for which a budget isn't enough
abbrev pub undecided_of : Verdict → List Undecided
undecided_of (verdict.Unproved countered undecided) = undecided.items
undecided_of (verdict.Undecided undecided) = undecided.items
undecided_of _ = []
