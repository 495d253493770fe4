use Rattle.std.proofs.Common.{◌+◌, ◌∙◌, sym, drop, get_or}
use Rattle.std.proofs.lemmas.List.{drop_more}
use Rattle.std.proofs.Math.ListN.{drop_of_length-le}
use Rattle.ss_vcgen_types.proofs.Walking.{no_told, tell_here, tell_not_here, tell_none}
use Rattle.ss_vcgen_known.proofs.tests.all_tell.Goals as goal

pub returns-then-tells : goal.returns-then-tells
returns-then-tells c =
    let i = c.loop-told.told-index in
    let all = c.args.list.now in
    tell_here c.args.local c.args.outcome (drop i all) (drop (i + 1) all) (get_or all i no_told) (drop_more all i no_told c.loop-told-test.true) (sym c.tells.ensures ∙ c.if-tells.true) ∙ c.loop-told.invariant

pub loop-told-preserved : goal.loop-told-preserved
loop-told-preserved c =
    let i = c.loop-told.told-index in
    let all = c.args.list.now in
    tell_not_here c.args.local c.args.outcome (drop i all) (drop (i + 1) all) (get_or all i no_told) (drop_more all i no_told c.loop-told-test.true) (sym c.tells.ensures ∙ c.if-tells.false) ∙ c.loop-told.invariant

pub returns : goal.returns
returns c = tell_none c.args.local c.args.outcome (drop c.loop-told.told-index c.args.list.now) (drop_of_length-le c.args.list.now c.loop-told-test.false) ∙ c.loop-told.invariant
