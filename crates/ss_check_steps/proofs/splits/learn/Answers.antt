use Rattle.ss_check_steps.proofs.Stacks.{AreCases-added, state_of-learnt}
use Rattle.ss_check_steps.proofs.splits.learn.Goals as goal

pub returns-clause-fine : goal.returns-clause-fine
returns-clause-fine c = AreCases-added c.args.bank.now c.args.cases.now.known.items c.push.new.self.items c.args.cases.now.waiting.items c.args.f c.in_ok-push.ensures.items c.requires.fine c.requires.formula

pub returns-clause-state : goal.returns-clause-state
returns-clause-state c = state_of-learnt c.args.bank.now c.args.cases.now.known.items c.push.new.self.items c.args.cases.now.waiting.items c.args.f c.in_ok-push.ensures.items c.requires.fine c.args.cases.now.is_open c.requires.is_open
