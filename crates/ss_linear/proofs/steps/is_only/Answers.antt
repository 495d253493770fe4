use Rattle.std.proofs.Common.{pos}
use Rattle.ss_terms.specs.Forms.{term_at}
use Rattle.ss_linear.proofs.Glue.{empty_is}
use Rattle.ss_linear.proofs.Results.{only}
use Rattle.ss_linear.proofs.steps.is_only.Goals as goal

pub returns-in-empty : goal.returns-in-empty
returns-in-empty c = λ h. only c.args.bank.now c.args.part c.args.rest.now (term_at c.args.bank.now c.args.t, pos 1) (empty_is c.args.rest.now c.in-empty.len_below) (c.is_once.ensures h)
