use Rattle.std.proofs.Common.{arith, ap}
use Rattle.std.specs.Prelude.{is_ok}
use Rattle.ss_store_lists.proofs.Held.{pushed_listed, pushed_more}
use Rattle.ss_store_lists.proofs.lists.push_at.Goals as goal

pub returns-in-Ok-clause-listed : goal.returns-in-Ok-clause-listed
returns-in-Ok-clause-listed c = λ _. pushed_listed _ c.args.held.now c.args.k c.args.q _ c.push.new.self (let l = c.if-k-held.false in omega (arith, l)) c.push.ensures.items (ap is_ok c.in-Ok.is)

pub returns-in-Ok-clause-more : goal.returns-in-Ok-clause-more
returns-in-Ok-clause-more c = pushed_more _ c.args.held.now c.args.k c.args.q _ c.push.new.self (let l = c.if-k-held.false in omega (arith, l)) c.push.ensures.items

pub returns-in-Err-clause-more : goal.returns-in-Err-clause-more
returns-in-Err-clause-more c = pushed_more _ c.args.held.now c.args.k c.args.q _ c.push.new.self (let l = c.if-k-held.false in omega (arith, l)) c.push.ensures.items
