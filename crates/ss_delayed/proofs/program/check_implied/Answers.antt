use Rattle.ss_typed.specs.View.{typed}
use Rattle.ss_delayed.proofs.Implying.{implied_found}
use Rattle.ss_delayed.proofs.program.check_implied.Goals as goal

pub returns-in_ok-check_empty-in-None : goal.returns-in_ok-check_empty-in-None
returns-in_ok-check_empty-in-None c =
    implied_found (typed c.args.program.now) c.args.place c.args.class.now c.args.found.now.items c.check_empty.new.found.items c.in-None.is c.in_ok-check_empty-in-None.ensures
