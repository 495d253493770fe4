use Rattle.ss_search_models.specs.Candidates.{model_at}
use Rattle.ss_search_models.proofs.Outcome.{nothing_known}
use Rattle.ss_search_models.proofs.outcomes.Outcomes.new.Goals as goal

pub returns : goal.returns
returns c = nothing_known c.args.bank.now (model_at c.args.bank.now c.args.candidate.now) (record { known = c.new.result; trues = c.new-2.result }) c.new.ensures
