use Rattle.std.proofs.Common.{◌∙◌, ap}
use Rattle.ss_logic.specs.declared.Sort.TheVariants as sort
use Rattle.ss_logic.specs.Terms.{same_sort}
use Rattle.ss_search_models.proofs.wholes.is_whole.Goals as goal

pub returns : goal.returns
returns c = λ cs of. c.is_whole_sort.ensures ∙ ap (λ s. same_sort s sort.Whole) (c.sort.ensures cs of)
