use Rattle.std.proofs.lemmas.List.{length-map}
use Rattle.std.proofs.Common.{map, sym, ◌∙◌, arith}
use Rattle.ss_core.specs.View.{class_of}
use Rattle.ss_tests_proof.proofs.Few.{few_within}
use Rattle.ss_tests_proof.proofs.classes.are_few.Goals as goal

pub returns-then-len-le4096 : goal.returns-then-len-le4096
returns-then-len-le4096 c = λ h.
    let size = length-map c.args.classes.now.list.items class_of in
    let held = c.args.classes.now.list.ok.0 in
    few_within (map class_of c.args.classes.now.list.items) (omega (arith, size, held)) (sym c.have_few_fields.ensures ∙ h)
