use Rattle.std.proofs.Common.{◌++◌, map, ap, ◌∙◌}
use Rattle.ss_core.specs.Chain.{levels_from}
use Rattle.ss_core.specs.View.{classes}
use Rattle.ss_vcgen_defaults.specs.Defaults.{number_of}
use Rattle.ss_vcgen_defaults.proofs.Upwards.{level_last, level_next, levels_all, levels_begin}
use Rattle.ss_vcgen_defaults.proofs.levels.all_levels.Goals as goal

pub loop-i-init : goal.loop-i-init
loop-i-init c = ap (λ l. map number_of l ++ levels_from (classes c.args.classes.now) 64 c.args.class.0) c.new-list.ensures.items ∙ levels_begin (classes c.args.classes.now) c.args.class.0

pub returns-in-None : goal.returns-in-None
returns-in-None c =
    level_last (classes c.args.classes.now) c.loop-i._i c.loop-i.level c.loop-i.list.items c.push.new.self.items _ c.loop-i-test.true c.in_ok-push.ensures.items c.in-None.ensures c.loop-i.invariant

pub loop-i-preserved : goal.loop-i-preserved
loop-i-preserved c =
    level_next (classes c.args.classes.now) c.loop-i._i c.loop-i.level c.loop-i.list.items c.push.new.self.items _ c.loop-i-test.true c.in_ok-push.ensures.items c.in-Some.above c.in-Some.ensures c.loop-i.invariant

pub returns : goal.returns
returns c = levels_all (classes c.args.classes.now) c.loop-i._i c.loop-i.level c.loop-i.list.items c.loop-i.list.items _ c.loop-i-test.false c.loop-i.invariant
