use Rattle.std.proofs.Common.{ap, sym, ◌∙◌, map, pos}
use Rattle.ss_store_rules.specs.declared.Value.TheVariants as value
use Rattle.ss_core.specs.View.{local_of}
use Rattle.ss_core.specs.declared.body.Local.{Local}
use Rattle.ss_machine_rules.specs.Frame.{captured_among}
use Rattle.ss_machine_stores.proofs.Gathered.{captured_more, captured_same}
use Rattle.ss_machine_stores.proofs.named.captured_among.Goals.{then-param+in_ok-push, else-param}
use Rattle.ss_machine_stores.proofs.named.captured_among.Goals as goal

pub loop-i-preserved : goal.loop-i-preserved
loop-i-preserved c =
    let params = c.args.params.now in
    let values = c.args.values.now in
    let p = c.index-params-i.result in
    let whole = captured_among (map local_of params) values in
    let here = ap (λ (x : Local). x.captured) (sym c.index-params-i.is) in
    elim c.if-param.branch [
      | then-param+in_ok-push w ↦ rw (w.captured-is, w.in_ok-push.ensures.items) (captured_more params values c.loop-i.i p _ c.loop-i.captured.items whole c.loop-i-test.true c.if-i-values.false (here ∙ w.if-param.true) c.loop-i.invariant)
      | else-param w ↦ rw w.captured-is (captured_same params values c.loop-i.i p (value.Int (pos 0)) c.loop-i.captured.items whole c.loop-i-test.true c.if-i-values.false (here ∙ w.if-param.false) c.loop-i.invariant)
    ]
