use Rattle.std.proofs.Common.{ap, ◌∙◌}
use Rattle.ss_logic.specs.Occurring.{with_formulas}
use Rattle.ss_core.specs.View as view
use Rattle.ss_rules_occurring.specs.Found.{formulas_of}
use Rattle.ss_rules_opened.proofs.Adding.{instances_of_forall, ok_added}
use Rattle.ss_rules_opened.proofs.Noted.{are_instances, ok_given}
use Rattle.ss_rules_opened.proofs.instances.add_forall_instances.Goals as goal

pub returns-in_ok-sorts-in-Forall-clause-added : goal.returns-in_ok-sorts-in-Forall-clause-added
returns-in_ok-sorts-in-Forall-clause-added c =
    ok_added c.add_at_places.result c.add_at_places.new.bank c.add_at_places.new.listed.list _ _
    (ap (with_formulas (formulas_of c.args.bank.now c.args.listed.now.list))
    (instances_of_forall c.args.bank.now c.args.f c.in-Forall.sorts c.in-Forall.body c.deref-in-Forall.result.now (formulas_of c.args.bank.now c.args.listed.now.list) (c.deref-in-Forall.ensures.value ∙ c.in_ok-sorts-in-Forall.ensures.items ∙ c.deref.ensures.value) (rw c.in-Forall.is at c.formula_node.ensures)))
    c.add_at_places.ensures.added

pub returns-in_ok-sorts-in-Forall-clause-noted : goal.returns-in_ok-sorts-in-Forall-clause-noted
returns-in_ok-sorts-in-Forall-clause-noted c =
    ok_given c.add_at_places.result (view.classes c.args.classes.now) c.args.bank.now c.add_at_places.new.bank (formulas_of c.args.bank.now c.args.listed.now.list) (formulas_of c.add_at_places.new.bank c.add_at_places.new.listed.list) c.args.listed.now.origins.items c.add_at_places.new.listed.origins.items
    (are_instances (view.classes c.args.classes.now) c.args.bank.now c.args.f c.in-Forall.sorts c.in-Forall.body c.deref-in-Forall.result.now (formulas_of c.args.bank.now c.args.listed.now.list) (c.deref-in-Forall.ensures.value ∙ c.in_ok-sorts-in-Forall.ensures.items ∙ c.deref.ensures.value) (rw c.in-Forall.is at c.formula_node.ensures))
    c.add_at_places.ensures.noted
