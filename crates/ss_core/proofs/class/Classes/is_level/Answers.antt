use Rattle.std.proofs.Common.{eqb, sym, ◌∙◌}
use Rattle.ss_core.specs.View.{classes}
use Rattle.ss_core.specs.Chain.{below}
use Rattle.ss_core.proofs.Levels.{below-passes, found, ended, went_up, unfound}
use Rattle.ss_core.proofs.class.Classes.is_level.Goals as goal

pub loop-i-init : goal.loop-i-init
loop-i-init c = below-passes (classes c.args.self.now) c.args.c.0 c.args.t.0

pub returns-then-eq : goal.returns-then-eq
returns-then-eq c = found (classes c.args.self.now) (λ level. eqb level c.args.t.0) c.loop-i._i c.loop-i.reached.0 (below (classes c.args.self.now) c.args.c.0 c.args.t.0) c.loop-i-test.true (sym c.eq.ensures ∙ c.if-eq.true) c.loop-i.invariant

pub returns-in-None : goal.returns-in-None
returns-in-None c = ended (classes c.args.self.now) (λ level. eqb level c.args.t.0) c.loop-i._i c.loop-i.reached.0 (below (classes c.args.self.now) c.args.c.0 c.args.t.0) c.loop-i-test.true (sym c.eq.ensures ∙ c.if-eq.false) c.in-None.ensures c.loop-i.invariant

pub loop-i-preserved : goal.loop-i-preserved
loop-i-preserved c = went_up (classes c.args.self.now) (λ level. eqb level c.args.t.0) c.loop-i._i c.loop-i.reached.0 c.in-Some.above.0 (below (classes c.args.self.now) c.args.c.0 c.args.t.0) c.loop-i-test.true (sym c.eq.ensures ∙ c.if-eq.false) c.in-Some.ensures c.loop-i.invariant

pub returns : goal.returns
returns c = unfound (classes c.args.self.now) (λ level. eqb level c.args.t.0) c.loop-i._i c.loop-i.reached.0 (below (classes c.args.self.now) c.args.c.0 c.args.t.0) c.loop-i-test.false c.loop-i.invariant
