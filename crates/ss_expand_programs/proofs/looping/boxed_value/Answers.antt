use Rattle.std.proofs.Common.{◌≡◌, ap, ◌∙◌}
use Rattle.ss_core.specs.Tree.{ExprTree}
use Rattle.ss_expand_expressions.specs.Operands.{valued_as}
use Rattle.ss_expand_expressions.specs.Sources.{stmts_of}
use Rattle.ss_expand_programs.proofs.looping.boxed_value.Goals as goal

pub returns : goal.returns
returns c = ap (λ (v : ExprTree). valued_as (stmts_of c.value.new.code.statements) v c.value.new.made.items) c.in_ok-kept.ensures ∙ c.in_ok-value.ensures
