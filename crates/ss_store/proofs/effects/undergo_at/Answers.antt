use Rattle.std.proofs.Common.{sym, arith}
use Rattle.ss_store.proofs.Undergone.{undergone_one, undergone_none}
use Rattle.ss_store.proofs.effects.undergo_at.Goals as goal

pub returns-then-q-objects : goal.returns-then-q-objects
returns-then-q-objects c = rw c.undergo.ensures (sym (undergone_one c.args.e c.args.q c.args.objects.now c.index-objects-q.result c.if-q-objects.true))

pub returns-else-q-objects : goal.returns-else-q-objects
returns-else-q-objects c = sym (undergone_none c.args.e c.args.q c.args.objects.now (let l = c.if-q-objects.false in omega (arith, l)))
