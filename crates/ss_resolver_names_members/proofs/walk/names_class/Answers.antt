use Rattle.std.proofs.Common.{ap, ◌∙◌}
use Rattle.ss_resolver_names_rules.specs.Expressions.{argument_faults}
use Rattle.ss_resolver_names_members.proofs.Asked.{asked_at}
use Rattle.ss_resolver_names_members.proofs.walk.names_class.Goals as goal

pub returns-in-Some : goal.returns-in-Some
returns-in-Some c = λ s e fs. ap (λ w. argument_faults s w e fs) c.in-Some.is ∙ asked_at s c.in-Some.number e fs
