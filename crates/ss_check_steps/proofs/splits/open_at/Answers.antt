use Rattle.ss_check_steps.proofs.Stacks.{AreCases-opened, state_of-opened}
use Rattle.ss_check_steps.proofs.splits.open_at.Goals as goal

pub returns-clause-fine : goal.returns-clause-fine
returns-clause-fine c =
    AreCases-opened c.args.bank.now c.args.cases.now.known.items c.open_all.new.cases.known.items c.args.fs.now c.args.cases.now.waiting.items c.open_all.new.cases.waiting.items
    c.in_ok-open_all.ensures.known c.in_ok-open_all.ensures.waiting c.requires.fine c.requires.formulas

pub returns-clause-state : goal.returns-clause-state
returns-clause-state c =
    state_of-opened c.args.bank.now c.args.cases.now.known.items c.open_all.new.cases.known.items c.args.fs.now c.args.cases.now.waiting.items c.open_all.new.cases.waiting.items
    c.in_ok-open_all.ensures.known c.in_ok-open_all.ensures.waiting c.open_all.new.cases.is_open c.in_ok-open_all.ensures.is_open
