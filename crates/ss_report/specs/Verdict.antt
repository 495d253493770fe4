-- The text of a verdict.
use Rattle.std.specs.Prelude.{ℕ, ◌+◌, List, [], ◌∷◌, ◌++◌, Bool, true, false, ◌==◌, Option, Some, None, slice_get, if◌then◌else◌}
use Rattle.std.specs.List.{list_any}
use Rattle.ss_core.specs.Tree.{BodyTree, CoreTree}
use Rattle.ss_report_names.specs.Names.{declared_name, name_of_body}
use Rattle.ss_vcgen_heaps.specs.Positions.{Obligation}
use Rattle.ss_search_answers.specs.declared.answers.Countered.{Countered}
use Rattle.ss_search_answers.specs.declared.answers.Undecided.{Undecided}
use Rattle.ss_search_answers.specs.declared.answers.Budget.{Budget}
use Rattle.ss_search_answers.specs.declared.answers.Verdict.{Verdict}
use Rattle.ss_search_answers.specs.declared.answers.Verdict.TheVariants as verdict
use Rattle.ss_report.specs.Texts.{verified_line, not_proved_line, undecided_line}

-- ---- what is listed, by the number of the obligation

abbrev pub is_countered : List Countered → ℕ → Bool
is_countered cs k = list_any (λ c. c.obligation == k) cs

abbrev pub budget_of : List Undecided → ℕ → Option Budget
budget_of [] k = None
budget_of (u ∷ us) k = if u.obligation == k then Some u.cause else budget_of us k

-- ---- lines

abbrev pub class_of_body : CoreTree → Option BodyTree → List ℕ
class_of_body c None = []
class_of_body c (Some b) = declared_name c.classes b.class

-- the line of an obligation that a model refutes, or for which a budget wasn't enough; nothing of another
abbrev pub line_of : CoreTree → Obligation → Bool → Option Budget → List ℕ
line_of c o true over = not_proved_line o.kind o.place (class_of_body c (slice_get c.bodies o.body)) (name_of_body (slice_get c.bodies o.body))
line_of c o false (Some over) = undecided_line o.kind o.place (class_of_body c (slice_get c.bodies o.body)) (name_of_body (slice_get c.bodies o.body)) over
line_of c o false None = []

-- the lines of obligations that are numbered from k
abbrev pub lines_from : CoreTree → List Countered → List Undecided → ℕ → List Obligation → List ℕ
lines_from c cs us k [] = []
lines_from c cs us k (o ∷ os) = line_of c o (is_countered cs k) (budget_of us k) ++ lines_from c cs us (k + 1) os

-- a line for each listed obligation, in order of number
abbrev pub listed_text : CoreTree → List Obligation → List Countered → List Undecided → List ℕ
listed_text c os cs us = lines_from c cs us 0 os

-- The text of a verdict: that the program is verified, or what is listed. Want of memory has no text, and nothing is written for it.
abbrev pub verdict_text : CoreTree → List Obligation → Verdict → List ℕ
verdict_text c os (verdict.Verified ds) = verified_line
verdict_text c os (verdict.Unproved countered undecided) = listed_text c os countered.items undecided.items
verdict_text c os (verdict.Undecided undecided) = listed_text c os [] undecided.items
verdict_text c os verdict.Memory = []
