use Rattle.std.proofs.Common.{◌≡◌, ◌∙◌, length, sym, ap}
use Rattle.ss_core.specs.View as view
use Rattle.ss_logic.specs.Ground.{closed}
use Rattle.ss_logic.specs.Matching.{forall_instances}
use Rattle.ss_terms.specs.Forms.{formula_at}
use Rattle.ss_rules_occurring.specs.Found.{formulas_of}
use Rattle.ss_rules_occurring.proofs.Sought.{holds_itself}
use Rattle.ss_rules.proofs.Again.{AreMade-grown}
use Rattle.ss_rules.proofs.Coming.{still_closed, ok_comes}
use Rattle.ss_rules.proofs.GroundNoted.{ok_after}
use Rattle.ss_rules.proofs.rounds.at_forall.Goals as goal

pub returns-then-after-before-clause-closed : goal.returns-then-after-before-clause-closed
returns-then-after-before-clause-closed c =
    let after : c.len-after.result ≡ length c.add_forall_instances.new.listed.list.list.items = c.len-after.ensures ∙ c.add_forall_instances.new.listed.list.list.ok.0 in
    let before : c.len-before.result ≡ length c.args.listed.now.list.list.items = c.len-before.ensures ∙ c.args.listed.now.list.list.ok.0 in
    still_closed (view.classes c.args.context.now.classes.now) c.args.context.now.limit c.args.bank.now c.add_forall_instances.new.bank c.args.listed.now.list c.add_forall_instances.new.listed.list (forall_instances (formulas_of c.args.bank.now c.args.listed.now.list) (formula_at c.args.bank.now c.args.f)) c.requires.was_closed c.in_ok-add_forall_instances.ensures.added (sym after ∙ c.if-after-before.true ∙ before)

pub close-requires-clause-list : goal.close-requires-clause-list
close-requires-clause-list c = holds_itself c.add_forall_instances.new.bank c.add_forall_instances.new.listed.list _ c.in_ok-add_forall_instances.ensures.added

pub returns-clause-closed : goal.returns-clause-closed
returns-clause-closed c =
    ok_comes c.close.result c.close.new.bank c.close.new.listed.list _ _ (ap (closed (view.classes c.args.context.now.classes.now) c.args.context.now.limit) c.in_ok-add_forall_instances.ensures.added.are) c.close.ensures.closed

pub close-requires-clause-made : goal.close-requires-clause-made
close-requires-clause-made c = AreMade-grown (view.classes c.args.context.now.classes.now) c.args.bank.now c.add_forall_instances.new.bank c.add_forall_instances.ensures.grown c.args.made.now c.requires.made

pub returns-then-after-before-clause-made : goal.returns-then-after-before-clause-made
returns-then-after-before-clause-made c = AreMade-grown (view.classes c.args.context.now.classes.now) c.args.bank.now c.add_forall_instances.new.bank c.add_forall_instances.ensures.grown c.args.made.now c.requires.made

pub returns-clause-noted : goal.returns-clause-noted
returns-clause-noted c =
    let a = c.args.bank.now in
    let b = c.add_forall_instances.new.bank in
    ok_after c.close.result (view.classes c.args.context.now.classes.now) a b c.close.new.bank (formulas_of a c.args.listed.now.list) (formulas_of b c.add_forall_instances.new.listed.list) _ c.args.listed.now.origins.items c.add_forall_instances.new.listed.origins.items c.close.new.listed.origins.items
    c.in_ok-add_forall_instances.ensures.noted c.close.ensures.noted
