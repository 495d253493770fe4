use Rattle.std.proofs.Common.{arith}
use Rattle.ss_search_models.specs.Candidates.{model_at}
use Rattle.ss_search_models.proofs.Said.{fewer_than_two, more_than_two}
use Rattle.ss_search_models.proofs.agreeing.are_in_one_class.Goals as goal

pub returns-in_default : goal.returns-in_default
returns-in_default c = fewer_than_two (model_at c.args.bank.now c.args.candidate.now) c.args.bank.now c.args.ts.now (omega arith)

pub returns-in_default-2 : goal.returns-in_default-2
returns-in_default-2 c = more_than_two (model_at c.args.bank.now c.args.candidate.now) c.args.bank.now c.args.ts.now (omega arith)
