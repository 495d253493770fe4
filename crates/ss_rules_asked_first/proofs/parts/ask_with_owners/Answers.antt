use Rattle.std.proofs.Common.{◌++◌}
use Rattle.ss_rules_asked.specs.Numbers.{rule_at, arguments_at, asked_in, asked_with}
use Rattle.ss_rules_asked_first.specs.Good.{owner_at}
use Rattle.ss_rules_asked_first.proofs.Gathering.{HasOwners-get}
use Rattle.ss_rules_asked_first.proofs.Joining.{one_next}
use Rattle.ss_rules_asked_first.proofs.parts.ask_with_owners.Goals as goal

pub ask_with_owner-requires-clause-owner : goal.ask_with_owner-requires-clause-owner
ask_with_owner-requires-clause-owner c = HasOwners-get c.args.context.now.bank.now c.args.owners.now c.loop-p.p-index _ c.requires.owners c.loop-p-test.true

pub loop-p-preserved : goal.loop-p-preserved
loop-p-preserved c =
    one_next c.args.context.now.bank.now (owner_at c.args.context.now.bank.now) (λ p. asked_with (rule_at c.args.context.now.bank.now c.args.rule) (arguments_at c.args.context.now.bank.now c.args.first.now ++ arguments_at c.args.context.now.bank.now c.args.middle.now ++ p))
    (asked_in c.args.context.now.bank.now c.args.asked.now.items) c.loop-p.asked.items c.ask_with_owner.new.asked.items c.args.owners.now c.loop-p.p-index _ c.loop-p-test.true c.loop-p.invariant c.in_ok-ask_with_owner.ensures
