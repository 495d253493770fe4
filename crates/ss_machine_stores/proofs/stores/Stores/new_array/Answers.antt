use Rattle.std.proofs.Common.{ap, ◌∙◌}
use Rattle.ss_machine_stores.specs.Shapes.{Timeline}
use Rattle.ss_machine_stores.proofs.Entering.{array_kept}
use Rattle.ss_machine_stores.proofs.stores.Stores.new_array.Goals as goal

pub invariant_of-self : goal.invariant_of-self
invariant_of-self c = (array_kept c.self.inside.store.objects c.new_array.new.self.objects c.args.t.0 _ c.new_array.result c.self.inside.journal c.self.inside.unfull.items c.self.invariant c.new_array.ensures.added c.new_array.ensures.kept).whole

pub returns-clause-entries : goal.returns-clause-entries
returns-clause-entries c = (array_kept c.self.inside.store.objects c.new_array.new.self.objects c.args.t.0 _ c.new_array.result c.self.inside.journal c.self.inside.unfull.items c.self.invariant c.new_array.ensures.added c.new_array.ensures.kept).entries ∙ ap (λ (t : Timeline). t.entries) c.self.view_is
