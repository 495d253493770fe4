use Rattle.ss_expand_formed.proofs.Refusals.{refuses_no_more}
use Rattle.ss_expand_formed.proofs.admissible_laws.refuses_no_more.Goals as goal

pub returns : goal.returns
returns c = refuses_no_more
