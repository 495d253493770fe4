use Rattle.ss_search_models.specs.Candidates.{model_at}
use Rattle.ss_search_models.proofs.Outcome.{ok_found}
use Rattle.ss_search_models.proofs.outcomes.come_true.Goals as goal

pub returns : goal.returns
returns c = ok_found c.args.bank.now (model_at c.args.bank.now c.args.candidate.now) c.all_come_true.result c.all_come_true.new.outcomes _ c.all_come_true.ensures
