use Rattle.std.proofs.Common.{sym, refl, arith, true, false}
use Rattle.ss_terms.specs.Forms.{terms_at}
use Rattle.ss_rules_opened.proofs.Kept.{has_next, one_lacks}
use Rattle.ss_rules_opened.proofs.triggers.has_bound.Goals as goal

pub loop-name-preserved : goal.loop-name-preserved
loop-name-preserved c = has_next c.loop-name.name (terms_at c.args.bank.now c.args.ts.now) true c.if-not-has_one_bound.ensures refl c.loop-name.invariant

pub returns-then-not-has_one_bound : goal.returns-then-not-has_one_bound
returns-then-not-has_one_bound c = sym (one_lacks c.args.count c.loop-name.name (terms_at c.args.bank.now c.args.ts.now) false c.if-not-has_one_bound.ensures refl (omega arith))
