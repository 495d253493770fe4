use Rattle.std.proofs.Common.{◌++◌, map, take}
use Rattle.ss_rules_asked.specs.Numbers.{rule_at, arguments_at, asked_in, asked_with, Asks}
use Rattle.ss_rules_asked_first.specs.Good.{owners_at}
use Rattle.ss_rules_asked_first.proofs.parts.ask_with_owners.Given as goal

abbrev pub invariant-loop-p : goal.invariant-loop-p
invariant-loop-p l = Asks l.context.bank.now l.asked.items (asked_in l.context.bank.now l.initial.asked.items ++ map (λ p. asked_with (rule_at l.context.bank.now l.rule) (arguments_at l.context.bank.now l.first ++ arguments_at l.context.bank.now l.middle ++ p)) (owners_at l.context.bank.now (take l.p-index l.owners)))
