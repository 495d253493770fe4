use Rattle.ss_search_models.proofs.Tellings.{nothing_told}
use Rattle.ss_search_models.proofs.telling.Telling.new.Goals as goal

pub returns : goal.returns
returns c = nothing_told c.args.bank.now (record { found = c.new.result; seen = c.new-2.result }) c.new.ensures c.new-2.ensures
