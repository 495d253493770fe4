use Rattle.std.proofs.Common.{ap, ◌∙◌}
use Rattle.std.proofs.lemmas.Result.{err_from_is_err_and}
use Rattle.ss_machine_stores.specs.Shapes.{Timeline}
use Rattle.ss_machine_stores.proofs.Kept.{made_kept, element_kept}
use Rattle.ss_machine_stores.proofs.stores.Stores.write_element.Goals as goal

pub returns-in_err-log_content-clause-change : goal.returns-in_err-log_content-clause-change
returns-in_err-log_content-clause-change c =
    let p = err_from_is_err_and c.from_residual.result c.from_residual.ensures.1 in
    rw (p.1, p.2) (ap (λ (t : Timeline). t.now) c.self.view_is)

pub invariant_of-self-2 : goal.invariant_of-self-2
invariant_of-self-2 c = (made_kept c.self.inside.store.objects c.write_element.new.self.objects c.self.inside.journal c.log_content.new.journal c.self.inside.unfull.items c.self.inside.unfull.items c.write_element.result _ c.self.invariant c.log_content.ensures.more (λ q e. e) c.write_element.ensures.change (element_kept c.self.inside.store.objects c.log_content.new.journal c.self.inside.unfull.items c.args.a _ c.args.v c.in_ok-log_content.ensures.logged)).whole

pub returns-clause-entries : goal.returns-clause-entries
returns-clause-entries c = (made_kept c.self.inside.store.objects c.write_element.new.self.objects c.self.inside.journal c.log_content.new.journal c.self.inside.unfull.items c.self.inside.unfull.items c.write_element.result _ c.self.invariant c.log_content.ensures.more (λ q e. e) c.write_element.ensures.change (element_kept c.self.inside.store.objects c.log_content.new.journal c.self.inside.unfull.items c.args.a _ c.args.v c.in_ok-log_content.ensures.logged)).entries ∙ ap (λ (t : Timeline). t.entries) c.self.view_is
