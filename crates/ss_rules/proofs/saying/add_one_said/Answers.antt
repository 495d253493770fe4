use Rattle.ss_core.specs.View as view
use Rattle.ss_rules_asked.proofs.Grown.{HasRule-grown, HasArguments-grown}
use Rattle.ss_rules_occurring.proofs.Growing.{HasFound-grown}
use Rattle.ss_rules.proofs.Making.{number_is, number_has, ok_holds_in}
use Rattle.ss_rules.proofs.Noted.{ok_found_noted}
use Rattle.ss_rules.proofs.saying.add_one_said.Goals as goal

pub add_found-requires-clause-list : goal.add_found-requires-clause-list
add_found-requires-clause-list c = HasFound-grown c.args.bank.now c.say.new.bank c.args.listed.now.list c.say.ensures.grown c.requires.list

pub add_found-requires-clause-rule : goal.add_found-requires-clause-rule
add_found-requires-clause-rule c = HasRule-grown c.args.bank.now c.say.new.bank c.say.ensures.grown c.args.asked.now.rule c.requires.rule

pub add_found-requires-clause-arguments : goal.add_found-requires-clause-arguments
add_found-requires-clause-arguments c = HasArguments-grown c.args.bank.now c.say.new.bank c.say.ensures.grown c.args.asked.now.arguments.items c.requires.arguments

pub add_found-requires-clause-found : goal.add_found-requires-clause-found
add_found-requires-clause-found c = number_has c.say.new.bank _ c.in_ok-found.found c.in_ok-found.ensures.at

pub returns-clause-added : goal.returns-clause-added
returns-clause-added c =
    ok_holds_in c.add_found.result c.args.bank.now c.say.new.bank c.add_found.new.bank c.args.listed.now.list c.add_found.new.listed.list _ _ c.say.ensures.grown c.requires.list (number_is c.say.new.bank _ c.in_ok-found.found c.in_ok-found.ensures.at) c.add_found.ensures.added

pub returns-clause-noted : goal.returns-clause-noted
returns-clause-noted c =
    ok_found_noted c.add_found.result (view.classes c.args.classes.now) c.args.bank.now c.say.new.bank c.add_found.new.bank c.say.ensures.grown c.args.listed.now.list c.requires.list c.args.asked.now c.requires.rule c.requires.arguments c.in_ok-found.found c.in_ok-found.ensures.at
    c.args.listed.now.origins.items _ c.add_found.new.listed.origins.items c.add_found.ensures.noted
