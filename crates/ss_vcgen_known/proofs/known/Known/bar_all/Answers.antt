use Rattle.std.proofs.Common.{◌+◌, ◌∙◌, sym, ap, drop}
use Rattle.std.proofs.lemmas.List.{drop_more}
use Rattle.std.proofs.Math.ListN.{drop_of_length-le}
use Rattle.ss_vcgen_known.specs.Steps.{all_barred}
use Rattle.ss_vcgen_known.specs.Views.{known_of}
use Rattle.ss_vcgen_types.proofs.Walking.{no_told}
use Rattle.ss_vcgen_known.proofs.known.Known.bar_all.Goals as goal

pub loop-told-preserved : goal.loop-told-preserved
loop-told-preserved c =
    let i = c.loop-told.told-index in
    let all = c.args.list.now in
    ap (all_barred (drop (i + 1) all)) c.in_ok-bar.ensures
    ∙ ap (λ ts. all_barred ts (known_of c.loop-told.self)) (sym (drop_more all i no_told c.loop-told-test.true))
    ∙ c.loop-told.invariant

pub returns : goal.returns
returns c =
    ap (λ ts. all_barred ts (known_of c.loop-told.self)) (sym (drop_of_length-le c.args.list.now c.loop-told-test.false))
    ∙ c.loop-told.invariant
