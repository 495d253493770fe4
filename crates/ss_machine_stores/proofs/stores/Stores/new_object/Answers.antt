use Rattle.std.proofs.Common.{◌≡◌, true, refl, ap, subst, ◌∙◌}
use Rattle.ss_core.specs.View.{classes}
use Rattle.ss_machine_stores.specs.Shapes.{Timeline}
use Rattle.ss_machine_saves.specs.Whole.{is_listed}
use Rattle.ss_machine_stores.proofs.Entering.{object_kept, objects_kept}
use Rattle.ss_machine_stores.proofs.stores.Stores.new_object.Goals as goal

pub invariant_of-self-2 : goal.invariant_of-self-2
invariant_of-self-2 c = (object_kept (classes c.args.c.now.classes) c.self.inside.store.objects c.new_object.new.self.objects c.args.t.0 c.new_object.result c.self.inside.journal c.self.inside.unfull.items c.list.new.unfull.items c.self.invariant c.list.ensures.more (subst (λ n. is_listed c.list.new.unfull.items n ≡ true) c.count-count.ensures (c.in_ok-list.ensures.listed c.count-count.result refl)) c.new_object.ensures.added (objects_kept c.new_object.result c.new_object.new.self c.self.inside.store c.new_object.ensures.kept)).whole

pub returns-clause-entries : goal.returns-clause-entries
returns-clause-entries c = (object_kept (classes c.args.c.now.classes) c.self.inside.store.objects c.new_object.new.self.objects c.args.t.0 c.new_object.result c.self.inside.journal c.self.inside.unfull.items c.list.new.unfull.items c.self.invariant c.list.ensures.more (subst (λ n. is_listed c.list.new.unfull.items n ≡ true) c.count-count.ensures (c.in_ok-list.ensures.listed c.count-count.result refl)) c.new_object.ensures.added (objects_kept c.new_object.result c.new_object.new.self c.self.inside.store c.new_object.ensures.kept)).entries ∙ ap (λ (t : Timeline). t.entries) c.self.view_is
