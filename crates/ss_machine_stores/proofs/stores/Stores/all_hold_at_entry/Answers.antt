use Rattle.std.proofs.Common.{ap}
use Rattle.ss_core.specs.View.{classes}
use Rattle.ss_machine_stores.specs.Shapes.{Timeline}
use Rattle.ss_machine_stores.proofs.Conditions.{all_hold_is}
use Rattle.ss_machine_stores.proofs.stores.Stores.all_hold_at_entry.Goals as goal

pub returns : goal.returns
returns c =
    all_hold_is (classes c.args.c.now.classes) c.self.inside.store.objects c.args.self.now.now c.args.self.now.now c.self.inside.store.objects c.args.locals.now c.args.es.now c.all_hold.result
    (ap (λ (t : Timeline). t.now) c.self.view_is)
    (ap (λ (t : Timeline). t.now) c.self.view_is)
    c.all_hold.ensures
