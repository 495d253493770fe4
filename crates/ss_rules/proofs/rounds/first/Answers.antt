use Rattle.std.proofs.Common.{ap}
use Rattle.ss_core.specs.View as view
use Rattle.ss_logic.specs.Ground.{closed}
use Rattle.ss_rules_occurring.proofs.Sought.{holds_itself}
use Rattle.ss_rules.proofs.Again.{AreMade-grown}
use Rattle.ss_rules.proofs.Coming.{ok_comes}
use Rattle.ss_rules_occurring.specs.Found.{formulas_of}
use Rattle.ss_rules.proofs.GroundNoted.{ok_follows}
use Rattle.ss_rules.proofs.rounds.first.Goals as goal

pub close-requires-clause-list : goal.close-requires-clause-list
close-requires-clause-list c = holds_itself c.add_first.new.bank c.add_first.new.listed.list _ c.in_ok-add_first.ensures.added

pub returns-clause-closed : goal.returns-clause-closed
returns-clause-closed c = ok_comes c.close.result c.close.new.bank c.close.new.listed.list _ _ (ap (closed (view.classes c.args.context.now.classes.now) c.args.context.now.limit) c.in_ok-add_first.ensures.added.are) c.close.ensures.closed

pub close-requires-clause-made : goal.close-requires-clause-made
close-requires-clause-made c = AreMade-grown (view.classes c.args.context.now.classes.now) c.args.bank.now c.add_first.new.bank c.add_first.ensures.grown c.args.made.now c.requires.made

pub returns-clause-noted : goal.returns-clause-noted
returns-clause-noted c =
    let a = c.args.bank.now in
    let b = c.add_first.new.bank in
    ok_follows c.close.result (view.classes c.args.context.now.classes.now) a b c.close.new.bank (formulas_of a c.args.listed.now.list) (formulas_of b c.add_first.new.listed.list) _ c.args.listed.now.origins.items c.add_first.new.listed.origins.items c.close.new.listed.origins.items
    c.in_ok-add_first.ensures.noted c.close.ensures.noted
