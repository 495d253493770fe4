use Rattle.std.proofs.Common.{◌≡◌, Ok, Some, sym, ap, ◌∙◌}
use Rattle.ss_ast.specs.declared.token.Symbol.TheVariants as symbol
use Rattle.ss_ast.specs.declared.stmt.Simple.{Simple}
use Rattle.ss_ast.specs.Statements.{simple_tree}
use Rattle.ss_grammar.specs.Reading.{◌>>=◌, take}
use Rattle.ss_grammar_expressions.specs.Heads.{the, pieces}
use Rattle.ss_grammar_expressions.specs.Parser.{below, give}
use Rattle.ss_grammar_statements.specs.Parser.{simple}
use Rattle.ss_parser.proofs.Symbols.{taken, some_of_is}
use Rattle.ss_parser.proofs.headings.parse_some_step.Goals as goal

pub returns-clause-gives : goal.returns-clause-gives
returns-clause-gives c =
    some_of_is symbol.Close (simple c.args.depth (below c.args.depth)) (pieces c.args.tokens.now)
    ∙ ap (λ r. r >>= λ a. take (the symbol.Close) (λ _. give (Some a.0)) a.1) c.in_ok-step.ensures.gives
    ∙ taken (the symbol.Close) (Some (simple_tree c.in_ok-step.step)) (pieces c.in_ok-step.rest.now) _ _ c.in_ok-rest.ensures.gives
    ∙ ap (λ (s : Simple). Ok (Some (simple_tree s), pieces c.in_ok-rest.rest.now)) (sym c.in_ok-step-2.ensures.ok)
