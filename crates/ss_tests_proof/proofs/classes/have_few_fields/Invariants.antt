use Rattle.std.proofs.Common.{◌≡◌, drop, length}
use Rattle.std.specs.Prelude.{nat_le, map}
use Rattle.std.specs.List.{list_all}
use Rattle.ss_core.specs.View.{class_of}
use Rattle.ss_tests_proof.proofs.classes.have_few_fields.Given as goal

abbrev pub invariant-loop-class : goal.invariant-loop-class
invariant-loop-class l = list_all (λ c. nat_le (length c.fields) 16) (map class_of (drop l.class-index l.classes.list.items)) ≡ list_all (λ c. nat_le (length c.fields) 16) (map class_of l.classes.list.items)
