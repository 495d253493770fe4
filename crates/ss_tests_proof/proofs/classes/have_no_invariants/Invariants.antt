use Rattle.std.proofs.Common.{◌≡◌, drop, length}
use Rattle.std.specs.Prelude.{◌==◌, map}
use Rattle.std.specs.List.{list_all}
use Rattle.ss_core.specs.View.{class_of}
use Rattle.ss_tests_proof.proofs.classes.have_no_invariants.Given as goal

abbrev pub invariant-loop-class : goal.invariant-loop-class
invariant-loop-class l = list_all (λ c. length c.invariants == 0) (map class_of (drop l.class-index l.classes.list.items)) ≡ list_all (λ c. length c.invariants == 0) (map class_of l.classes.list.items)
