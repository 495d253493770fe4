use Rattle.ss_machine_stores.proofs.Entries.{allocated_then, allocated_else}
use Rattle.ss_machine_stores.proofs.entry.EntryBefore.allocated.Goals as goal

pub returns-then-o-count : goal.returns-then-o-count
returns-then-o-count c = allocated_then c.self.inside.journal.now c.self.inside.store.now.objects c.args.o c.count.result c.allocated.result c.args.self.now c.self.view_is c.count.ensures c.if-o-count.true c.allocated.ensures

pub returns-else-o-count : goal.returns-else-o-count
returns-else-o-count c = allocated_else c.self.inside.journal.now c.self.inside.store.now.objects c.args.o c.count.result c.args.self.now c.self.view_is c.count.ensures c.if-o-count.false
