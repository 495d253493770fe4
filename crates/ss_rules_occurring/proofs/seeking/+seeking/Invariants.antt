use Rattle.std.proofs.Common.{◌+◌, ◌*◌, take}
use Rattle.std.specs.Prelude.{flat_map}
use Rattle.ss_logic.specs.Occurring.{with_formulas}
use Rattle.ss_terms.specs.Forms.{formulas_at}
use Rattle.ss_rules_occurring.specs.Found.{formulas_of, Holds}
use Rattle.ss_rules_occurring.specs.Sought.{found_in}
use Rattle.ss_rules_occurring.proofs.seeking.+seeking.Given as goal

abbrev pub decreases-add_in : goal.decreases-add_in
decreases-add_in l = 2 * l.f.0 + 1

abbrev pub decreases-add_quantified : goal.decreases-add_quantified
decreases-add_quantified l = 2 * l.f.0

abbrev pub decreases-add_in_all : goal.decreases-add_in_all
decreases-add_in_all l = 2 * l.bound

abbrev pub invariant-add_in_all-loop-f : goal.invariant-add_in_all-loop-f
invariant-add_in_all-loop-f l = Holds l.bank l.found (with_formulas (formulas_of l.bank l.initial.found) (flat_map (found_in l.sought) (formulas_at l.bank (take l.f-index l.fs))))
