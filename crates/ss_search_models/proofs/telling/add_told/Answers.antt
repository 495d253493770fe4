use Rattle.ss_search_models.proofs.Tellings.{told_more}
use Rattle.ss_search_models.proofs.telling.add_told.Goals as goal

pub returns : goal.returns
returns c = told_more c.add.result c.args.bank.now c.args.telling.now c.add.new.self _ _ c.requires.telling c.told_of-told.ensures.told c.add.ensures
