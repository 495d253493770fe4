-- Tests with what the front of a chain tells.
use Rattle.std.proofs.Common.{◌≡◌, Bool, List, Bor, sym, ap, ◌∙◌}
use Rattle.ss_core.specs.Tree.{ExprTree}
use Rattle.ss_store_rules.specs.NonNull as rules
use Rattle.ss_vcgen_types.specs.declared.told.Told.{Told}
use Rattle.ss_vcgen_known.specs.declared.tests.Tests.{Tests}
use Rattle.ss_vcgen_known.specs.declared.tests.Tests.TheVariants as tests
use Rattle.ss_vcgen_known.specs.declared.tests.Tests.TheFolds.{fold-roll-Tests}
use Rattle.ss_vcgen_known.specs.declared.tests.Tests.TheOpen as shape
use Rattle.ss_vcgen_types.specs.Told.{told_by, with_told}
use Rattle.ss_vcgen_known.specs.Views.{tests_step, tested}
use Rattle.ss_vcgen_types.proofs.Telling.{told_of_front}

-- one list more
told_is : (r : Bor Tests) (l : Bor (List Told)) (k : rules.Known) → tested (tests.Told r l) k ≡ with_told l.now (tested r.now k)
told_is r l k = ap (λ x. tested x k) (sym (tests.rolls-Told r l)) ∙ ap (λ (f : rules.Known → rules.Known). f k) (fold-roll-Tests (rules.Known → rules.Known) tests_step (shape.Told r l))

pub told_side : (r : Bor Tests) (l : Bor (List Told)) (k : rules.Known) (e : ExprTree) (v : Bool) → l.now ≡ told_by e v → tested (tests.Told r l) k ≡ rules.known_tested e v (tested r.now k)
told_side r l k e v h = told_is r l k ∙ told_of_front l.now e v (tested r.now k) h
