use Rattle.std.proofs.Common.{◌++◌, ap, ◌∙◌}
use Rattle.ss_core.specs.Chain.{levels, levels_from}
use Rattle.ss_core.specs.View.{classes}
use Rattle.ss_vcgen_defaults.proofs.Upwards.{levels_begin}
use Rattle.ss_vcgen_contracts.specs.Owned.{pairs_for}
use Rattle.ss_vcgen_contracts.proofs.Owning.{pairs_last, pairs_next, pairs_all}
use Rattle.ss_vcgen_contracts.proofs.captured.pairs_of.Goals as goal

pub loop-i-init : goal.loop-i-init
loop-i-init c =
    let cs = classes c.args.classes.now in
    ap (λ l. l ++ pairs_for c.args.object (levels_from cs 64 c.args.class.0)) c.new-pairs.ensures.items ∙ ap (pairs_for c.args.object) (levels_begin cs c.args.class.0)

pub returns-in-None : goal.returns-in-None
returns-in-None c =
    let cs = classes c.args.classes.now in
    pairs_last cs c.loop-i._i c.loop-i.level c.args.object c.loop-i.pairs.items c.push.new.self.items (pairs_for c.args.object (levels cs c.args.class.0)) c.loop-i-test.true c.in_ok-push.ensures.items c.in-None.ensures c.loop-i.invariant

pub loop-i-preserved : goal.loop-i-preserved
loop-i-preserved c =
    let cs = classes c.args.classes.now in
    pairs_next cs c.loop-i._i c.loop-i.level c.args.object c.loop-i.pairs.items c.push.new.self.items (pairs_for c.args.object (levels cs c.args.class.0)) c.in-Some.above c.loop-i-test.true c.in_ok-push.ensures.items c.in-Some.ensures
    c.loop-i.invariant

pub returns : goal.returns
returns c =
    let cs = classes c.args.classes.now in
    pairs_all cs c.loop-i._i c.loop-i.level c.args.object c.loop-i.pairs.items c.loop-i.pairs.items (pairs_for c.args.object (levels cs c.args.class.0)) c.loop-i-test.false c.loop-i.invariant
