use Rattle.std.proofs.Common.{sym, ◌∙◌}
use Rattle.ss_core.specs.View.{classes}
use Rattle.ss_core.specs.Chain.{counts_as, sub}
use Rattle.ss_core.proofs.Levels.{sub-passes, found, ended, went_up, unfound}
use Rattle.ss_core.proofs.class.Classes.is_subclass.Goals as goal

pub loop-i-init : goal.loop-i-init
loop-i-init c = sub-passes (classes c.args.self.now) c.args.c.0 c.args.t.0

pub returns-then-counts_as : goal.returns-then-counts_as
returns-then-counts_as c = found (classes c.args.self.now) (counts_as (classes c.args.self.now) c.args.t.0) c.loop-i._i c.loop-i.level.0 (sub (classes c.args.self.now) c.args.c.0 c.args.t.0) c.loop-i-test.true (sym c.counts_as.ensures ∙ c.if-counts_as.true) c.loop-i.invariant

pub returns-in-None : goal.returns-in-None
returns-in-None c = ended (classes c.args.self.now) (counts_as (classes c.args.self.now) c.args.t.0) c.loop-i._i c.loop-i.level.0 (sub (classes c.args.self.now) c.args.c.0 c.args.t.0) c.loop-i-test.true (sym c.counts_as.ensures ∙ c.if-counts_as.false) c.in-None.ensures c.loop-i.invariant

pub loop-i-preserved : goal.loop-i-preserved
loop-i-preserved c = went_up (classes c.args.self.now) (counts_as (classes c.args.self.now) c.args.t.0) c.loop-i._i c.loop-i.level.0 c.in-Some.above.0 (sub (classes c.args.self.now) c.args.c.0 c.args.t.0) c.loop-i-test.true (sym c.counts_as.ensures ∙ c.if-counts_as.false) c.in-Some.ensures c.loop-i.invariant

pub returns : goal.returns
returns c = unfound (classes c.args.self.now) (counts_as (classes c.args.self.now) c.args.t.0) c.loop-i._i c.loop-i.level.0 (sub (classes c.args.self.now) c.args.c.0 c.args.t.0) c.loop-i-test.false c.loop-i.invariant
