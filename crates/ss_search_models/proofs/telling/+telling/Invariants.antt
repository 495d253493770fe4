use Rattle.std.proofs.Common.{◌+◌, ◌*◌, take}
use Rattle.std.specs.Prelude.{flat_map}
use Rattle.ss_logic.specs.Occurring.{with_formulas}
use Rattle.ss_logic_countermodels.specs.Refuting.{told_in}
use Rattle.ss_terms.specs.Forms.{formulas_at}
use Rattle.ss_rules_occurring.specs.Found.{formulas_of}
use Rattle.ss_search_models.specs.Tellings.{Tells}
use Rattle.ss_search_models.proofs.telling.+telling.Given as goal

abbrev pub decreases-add : goal.decreases-add
decreases-add l = 3 * l.f.0 + 2

abbrev pub decreases-add_new : goal.decreases-add_new
decreases-add_new l = 3 * l.f.0 + 1

abbrev pub decreases-add_all : goal.decreases-add_all
decreases-add_all l = 3 * l.bound

abbrev pub invariant-add_all-loop-f : goal.invariant-add_all-loop-f
invariant-add_all-loop-f l = Tells l.bank l.telling (with_formulas (formulas_of l.bank l.initial.telling.found) (flat_map told_in (formulas_at l.bank (take l.f-index l.fs))))
