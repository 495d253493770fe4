use Rattle.ss_linear.proofs.Tests.{first_without}
use Rattle.ss_linear.proofs.few.before.Goals as goal

pub returns-in-None : goal.returns-in-None
returns-in-None c = λ cs known h ea eb w u x y. first_without cs known c.args.i c.args.j w u (rw c.in-None.is at eb)

pub returns-in-Some : goal.returns-in-Some
returns-in-Some c = λ cs known h ea eb. c.of_facts.ensures cs known h (rw c.in-Some.is at eb).1 ea
