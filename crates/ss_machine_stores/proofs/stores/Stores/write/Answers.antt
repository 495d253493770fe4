use Rattle.std.proofs.Common.{ap, subst, ◌∙◌}
use Rattle.std.proofs.lemmas.Result.{err_from_is_err_and}
use Rattle.ss_core.specs.View.{classes}
use Rattle.ss_machine_stores.specs.Shapes.{Timeline}
use Rattle.ss_machine_saves.specs.Moved.{IsReadyForWrite}
use Rattle.ss_machine_stores.proofs.Kept.{made_kept, write_kept}
use Rattle.ss_machine_stores.proofs.stores.Stores.write.Goals as goal

pub returns-in_err-log_write-clause-change : goal.returns-in_err-log_write-clause-change
returns-in_err-log_write-clause-change c =
    let p = err_from_is_err_and c.from_residual.result c.from_residual.ensures.1 in
    rw (p.1, p.2) (ap (λ (t : Timeline). t.now) c.self.view_is)

pub invariant_of-self-2 : goal.invariant_of-self-2
invariant_of-self-2 c = (made_kept c.self.inside.store.objects c.write.new.self.objects c.self.inside.journal c.log_write.new.journal c.self.inside.unfull.items c.self.inside.unfull.items c.write.result _ c.self.invariant c.log_write.ensures.more (λ q e. e) c.write.ensures.change (write_kept (classes c.args.c.now.classes) c.self.inside.store.objects c.log_write.new.journal c.self.inside.unfull.items c.args.o c.args.f.0 c.args.v (subst (λ m. IsReadyForWrite c.self.inside.store.objects c.log_write.new.journal m c.args.o c.args.v) c.mark_of-mark.ensures c.in_ok-log_write.ensures.logged))).whole

pub returns-clause-entries : goal.returns-clause-entries
returns-clause-entries c = (made_kept c.self.inside.store.objects c.write.new.self.objects c.self.inside.journal c.log_write.new.journal c.self.inside.unfull.items c.self.inside.unfull.items c.write.result _ c.self.invariant c.log_write.ensures.more (λ q e. e) c.write.ensures.change (write_kept (classes c.args.c.now.classes) c.self.inside.store.objects c.log_write.new.journal c.self.inside.unfull.items c.args.o c.args.f.0 c.args.v (subst (λ m. IsReadyForWrite c.self.inside.store.objects c.log_write.new.journal m c.args.o c.args.v) c.mark_of-mark.ensures c.in_ok-log_write.ensures.logged))).entries ∙ ap (λ (t : Timeline). t.entries) c.self.view_is
