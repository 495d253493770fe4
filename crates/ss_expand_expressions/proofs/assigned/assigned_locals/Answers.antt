use Rattle.std.proofs.Common.{ap, ◌∙◌}
use Rattle.ss_paths.specs.Sets.{Set, among}
use Rattle.ss_expand_expressions.proofs.assigned.assigned_locals.Goals as goal

pub returns : goal.returns
returns c = λ x. ap (λ (s : Set). s x) (c.in_ok-found.ensures ∙ ap among (c.deref.ensures.value ∙ c.in_ok-locals.ensures))
