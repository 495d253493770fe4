use Rattle.std.proofs.Common.{ap, ◌∙◌}
use Rattle.ss_machine_stores.specs.Shapes.{Timeline}
use Rattle.ss_machine_stores.proofs.Entering.{ready_made}
use Rattle.ss_machine_stores.proofs.stores.Stores.set_ready.Goals as goal

pub invariant_of-self-2 : goal.invariant_of-self-2
invariant_of-self-2 c = (ready_made c.self.inside.store.objects c.set_ready.new.self.objects c.self.inside.journal c.save_header.new.self c.self.inside.unfull.items c.args.o c.self.invariant c.save_header.ensures.more c.in_ok-save_header.ensures.saved c.set_ready.ensures.change).whole

pub returns-clause-entries : goal.returns-clause-entries
returns-clause-entries c = (ready_made c.self.inside.store.objects c.set_ready.new.self.objects c.self.inside.journal c.save_header.new.self c.self.inside.unfull.items c.args.o c.self.invariant c.save_header.ensures.more c.in_ok-save_header.ensures.saved c.set_ready.ensures.change).entries ∙ ap (λ (t : Timeline). t.entries) c.self.view_is
