use Rattle.std.proofs.Common.{[], ◌∷◌, ◌++◌, ap}
use Rattle.std.proofs.lemmas.List.{append-nil}
use Rattle.ss_rules_asked.specs.Numbers.{rule_at, arguments_at, asked_in, asked_with}
use Rattle.ss_rules_asked_first.proofs.Joining.{ok_asks}
use Rattle.ss_rules_asked_first.proofs.parts.ask_short.Goals as goal

pub returns : goal.returns
returns c =
    ok_asks c.ask_with.result c.args.context.now.bank.now c.ask_with.new.asked.items _ _
    (ap (λ ts. asked_in c.args.context.now.bank.now c.args.asked.now.items ++ asked_with (rule_at c.args.context.now.bank.now c.args.rule) (ts ++ arguments_at c.args.context.now.bank.now c.args.last.now) ∷ []) (append-nil (arguments_at c.args.context.now.bank.now c.args.first.now)))
    c.ask_with.ensures
