use Rattle.ss_search_procedure.proofs.Deciding.{decided_total}
use Rattle.ss_search_procedure.proofs.setting.Settling.model.Goals as goal

pub model-requires-clause-total : goal.model-requires-clause-total
model-requires-clause-total c = decided_total c.args.self.now c.args.reaching.now c.requires.state c.requires.decided

pub returns-clause-model : goal.returns-clause-model
returns-clause-model c = λ cs of. c.in_ok-model.ensures cs (c.requires.is_open cs of)
