use Rattle.std.proofs.Common.{List, ap}
use Rattle.ss_core.specs.declared.names.Ty.{Ty}
use Rattle.ss_core.specs.View as view
use Rattle.ss_terms.specs.Forms.{Forms}
use Rattle.ss_vcgen_heaps.specs.Obligations.{enter_arguments}
use Rattle.ss_vcgen_builder.specs.Builder.{position_at}
use Rattle.ss_vcgen_statements.proofs.Steps.{then, so}
use Rattle.ss_vcgen.specs.Bodies.{locals_entered, result_entered, entered}
use Rattle.ss_vcgen.proofs.bodies.enter.Goals as goal

pub returns : goal.returns
returns c =
    let s = c.args.builder.now in
    let body = view.body c.args.body.now in
    let F0 = λ (b : Forms). position_at b s in
    let t1 = c.enter_arguments.new.builder in
    let F1 = λ (b : Forms). enter_arguments c.args.types.now (F0 b) in
    let t2 = c.enter_locals.new.builder in
    let F2 = λ (b : Forms). locals_entered body (F1 b) in
    let p2 = then s t1 t2 F1 (λ b k. locals_entered body k) c.in_ok-enter_arguments.ensures c.in_ok-enter_locals.ensures in
    let t3 = c.enter_result.new.builder in
    so s t3 (λ b. result_entered body.result (F2 b)) (λ b. entered body (F0 b)) (λ b k. ap (λ (ts : List Ty). result_entered body.result (locals_entered body (enter_arguments ts (F0 b)))) c.requires.types)
    (then s t2 t3 F2 (λ b k. result_entered body.result k) p2 c.in_ok-enter_result.ensures)
