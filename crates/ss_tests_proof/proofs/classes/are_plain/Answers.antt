use Rattle.std.proofs.Common.{map, sym, ◌∙◌}
use Rattle.ss_core.specs.View.{class_of}
use Rattle.ss_tests_proof.proofs.Plain.{plain_invariants}
use Rattle.ss_tests_proof.proofs.classes.are_plain.Goals as goal

pub returns : goal.returns
returns c = λ h. plain_invariants (map class_of c.args.classes.now.list.items) (sym c.have_no_invariants.ensures ∙ h)
