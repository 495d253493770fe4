use Rattle.std.proofs.Common.{◌∙◌}
use Rattle.ss_check_steps.proofs.Symbols.{symbol_test}
use Rattle.ss_rules_opened.proofs.matching.is_same_function.Goals as goal

pub returns : goal.returns
returns c = c.eq.ensures ∙ symbol_test c.args.f c.args.g
