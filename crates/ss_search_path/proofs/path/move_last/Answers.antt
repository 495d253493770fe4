use Rattle.std.proofs.Common.{arith}
use Rattle.ss_search_path.proofs.path.move_last.Goals as goal

pub returns-in_default : goal.returns-in_default
returns-in_default c = absurd (omega (arith, c.requires, c.in_default.ensures.cases.0, c.args.from.now.ok.0))

pub returns : goal.returns
returns c = (c.in-Some.line, c.in-Some.ensures.items, c.in_ok-push.ensures.items)
