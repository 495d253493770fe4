use Rattle.std.proofs.Common.{◌∙◌}
use Rattle.ss_check_steps.proofs.Symbols.{predicate_test}
use Rattle.ss_rules_opened.proofs.matching.is_same_predicate.Goals as goal

pub returns : goal.returns
returns c = c.eq.ensures ∙ predicate_test c.args.p c.args.q
