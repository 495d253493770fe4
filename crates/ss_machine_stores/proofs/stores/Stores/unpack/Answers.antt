use Rattle.std.proofs.Common.{ap, ◌∙◌}
use Rattle.std.proofs.lemmas.Result.{err_from_is_err_and}
use Rattle.ss_core.specs.View.{classes}
use Rattle.ss_machine_stores.specs.Shapes.{Timeline}
use Rattle.ss_machine_stores.proofs.Kept.{made_kept, unpack_kept}
use Rattle.ss_machine_stores.proofs.stores.Stores.unpack.Goals as goal

pub returns-in_err-log_level-clause-change : goal.returns-in_err-log_level-clause-change
returns-in_err-log_level-clause-change c =
    let p = err_from_is_err_and c.from_residual.result c.from_residual.ensures.1 in
    rw (p.1, p.2) (ap (λ (t : Timeline). t.now) c.self.view_is)

pub invariant_of-self-2 : goal.invariant_of-self-2
invariant_of-self-2 c = (made_kept c.self.inside.store.objects c.unpack.new.self.objects c.self.inside.journal c.log_level.new.journal c.self.inside.unfull.items c.log_level.new.unfull.items c.unpack.result _ c.self.invariant c.log_level.ensures.more c.log_level.ensures.listed c.unpack.ensures.change (unpack_kept (classes c.args.c.now.classes) c.self.inside.store.objects c.log_level.new.journal c.log_level.new.unfull.items c.args.o c.args.t.0 c.in_ok-log_level.ensures.logged)).whole

pub returns-clause-entries : goal.returns-clause-entries
returns-clause-entries c = (made_kept c.self.inside.store.objects c.unpack.new.self.objects c.self.inside.journal c.log_level.new.journal c.self.inside.unfull.items c.log_level.new.unfull.items c.unpack.result _ c.self.invariant c.log_level.ensures.more c.log_level.ensures.listed c.unpack.ensures.change (unpack_kept (classes c.args.c.now.classes) c.self.inside.store.objects c.log_level.new.journal c.log_level.new.unfull.items c.args.o c.args.t.0 c.in_ok-log_level.ensures.logged)).entries ∙ ap (λ (t : Timeline). t.entries) c.self.view_is
