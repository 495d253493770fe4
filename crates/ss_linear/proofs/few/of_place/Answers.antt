use Rattle.ss_linear_network.specs.Made.{numbers_at}
use Rattle.ss_linear.proofs.Tests.{clear_without}
use Rattle.ss_linear.proofs.few.of_place.Goals as goal

pub returns-in-Some : goal.returns-in-Some
returns-in-Some c = λ cs known h e. c.of_fact.ensures cs known h (rw c.in-Some.is at e).1

pub returns-in-None : goal.returns-in-None
returns-in-None c = λ cs known h e. clear_without cs known (numbers_at c.args.context.now.bank.now c.args.numbers.now) c.args.i (rw c.in-None.is at e)
