use Rattle.std.proofs.Common.{ap, sym, ◌∙◌, map}
use Rattle.ss_core.specs.View.{local_of}
use Rattle.ss_core.specs.declared.body.Local.{Local}
use Rattle.ss_vcgen_contracts.specs.Owned.{captured_among}
use Rattle.ss_vcgen_contracts.proofs.Owning.{captured_more, captured_same}
use Rattle.ss_vcgen_contracts.proofs.captured.captured_among.Goals.{then-param+in_ok-push, else-param}
use Rattle.ss_vcgen_contracts.proofs.captured.captured_among.Goals as goal

pub loop-i-preserved : goal.loop-i-preserved
loop-i-preserved c =
    let params = c.args.params.now in
    let arguments = c.args.arguments.now in
    let p = c.index-params-i.result in
    let whole = captured_among (map local_of params) arguments in
    let here = ap (λ (x : Local). x.captured) (sym c.index-params-i.is) in
    elim c.if-param.branch [
      | then-param+in_ok-push w ↦ rw (w.captured-is, w.in_ok-push.ensures.items) (captured_more params arguments c.loop-i.i p (record { 0 = 0 }) c.loop-i.captured.items whole c.loop-i-test.true c.if-i-arguments.false (here ∙ w.if-param.true) c.loop-i.invariant)
      | else-param w ↦ rw w.captured-is (captured_same params arguments c.loop-i.i p (record { 0 = 0 }) c.loop-i.captured.items whole c.loop-i-test.true c.if-i-arguments.false (here ∙ w.if-param.false) c.loop-i.invariant)
    ]
