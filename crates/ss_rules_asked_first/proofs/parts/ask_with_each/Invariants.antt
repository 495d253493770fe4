use Rattle.std.proofs.Common.{[], ◌∷◌, ◌++◌, map, take}
use Rattle.ss_rules_asked.specs.Numbers.{rule_at, arguments_at, asked_in, asked_with, Asks}
use Rattle.ss_rules_asked_first.proofs.parts.ask_with_each.Given as goal

abbrev pub invariant-loop-last : goal.invariant-loop-last
invariant-loop-last l = Asks l.context.bank.now l.asked.items (asked_in l.context.bank.now l.initial.asked.items ++ map (λ t. asked_with (rule_at l.context.bank.now l.rule) (arguments_at l.context.bank.now l.first ++ arguments_at l.context.bank.now l.middle ++ t ∷ [])) (arguments_at l.context.bank.now (take l.last-index l.lasts)))
