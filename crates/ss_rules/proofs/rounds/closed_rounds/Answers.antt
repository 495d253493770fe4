use Rattle.ss_core.specs.View as view
use Rattle.ss_logic.specs.Ground.{rounds_of}
use Rattle.ss_rules.proofs.Coming.{stops, goes_on, ok_comes}
use Rattle.ss_rules_occurring.specs.Found.{formulas_of}
use Rattle.ss_rules.proofs.GroundNoted.{ok_follows}
use Rattle.ss_rules.proofs.rounds.closed_rounds.Goals as goal

pub rounds-requires-clause-list : goal.rounds-requires-clause-list
rounds-requires-clause-list c = c.in_ok-few.ensures.closed.has

pub returns-then-not-few-clause-done : goal.returns-then-not-few-clause-done
returns-then-not-few-clause-done c = stops c.close.new.bank c.close.new.listed.list c.in_ok-few.few _ (rounds_of (view.classes c.args.context.now.classes.now) c.args.context.now.limit c.args.count) c.in_ok-few.ensures.closed c.if-not-few.true

pub returns-clause-done : goal.returns-clause-done
returns-clause-done c =
    ok_comes c.rounds.result c.rounds.new.bank c.rounds.new.listed.list _ _ (goes_on c.close.new.bank c.close.new.listed.list c.in_ok-few.few _ (rounds_of (view.classes c.args.context.now.classes.now) c.args.context.now.limit c.args.count) c.in_ok-few.ensures.closed c.if-not-few.false) c.rounds.ensures.done

pub returns-clause-noted : goal.returns-clause-noted
returns-clause-noted c =
    let a = c.args.bank.now in
    let b = c.close.new.bank in
    ok_follows c.rounds.result (view.classes c.args.context.now.classes.now) a b c.rounds.new.bank (formulas_of a c.args.listed.now.list) (formulas_of b c.close.new.listed.list) _ c.args.listed.now.origins.items c.close.new.listed.origins.items c.rounds.new.listed.origins.items
    c.in_ok-few.ensures.noted c.rounds.ensures.noted
