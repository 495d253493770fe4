use Rattle.ss_vcgen_known.proofs.Listing.{empty_listed}
use Rattle.ss_vcgen_known.proofs.facts.is_none.Goals as goal

pub returns-in-empty : goal.returns-in-empty
returns-in-empty c = λ none_there. empty_listed c.args.list.now c.in-empty.len_below
