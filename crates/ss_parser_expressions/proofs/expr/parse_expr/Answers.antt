use Rattle.std.proofs.Common.{◌≡◌, ℕ, Ok, Err, List, drop, subst, sym, ap, ◌∙◌}
use Rattle.ss_ast.specs.declared.token.Token.{Token}
use Rattle.ss_ast.specs.Expressions.{expr_tree}
use Rattle.ss_grammar.specs.declared.fault.Stop.{Stop}
use Rattle.ss_grammar.specs.declared.fault.Stop.TheVariants as stop
use Rattle.ss_grammar.specs.Language.{Finds}
use Rattle.ss_grammar.specs.Stops.{Fails}
use Rattle.ss_grammar_expressions.specs.Heads.{pieces}
use Rattle.ss_grammar_expressions.specs.Grammar.{Expression, TheExpression}
use Rattle.ss_grammar_expressions.specs.Parser.{whole_expression, below}
use Rattle.ss_grammar_expressions.proofs.Kept.{at_level}
use Rattle.ss_grammar_expressions.proofs.Tied.{expression_finds}
use Rattle.ss_parser_expressions.specs.Answer.{PartAnswer}
use Rattle.ss_parser_expressions.proofs.Readers.{reading_is}
use Rattle.ss_parser_expressions.proofs.Suffix.{found, stays, faulty}
use Rattle.ss_parser_expressions.proofs.expr.parse_expr.Goals as goal

finds : (tokens : List Token) (at : ℕ) → Finds Expression 64 (pieces (drop at tokens)) (whole_expression 64 (below 64) (pieces (drop at tokens)))
finds tokens at = subst (λ r. Finds Expression 64 (pieces (drop at tokens)) r) (reading_is 64 TheExpression (pieces (drop at tokens))) (expression_finds 64 (pieces (drop at tokens)))

pub returns-in-Ok : goal.returns-in-Ok
returns-in-Ok c =
    let g = subst (λ (y : List Token). whole_expression 64 (below 64) (pieces y) ≡ Ok (expr_tree c.in-Ok.expr.value, pieces c.in-Ok.rest.now)) c.split_at.ensures.back c.in-Ok.ensures.gives ∙ ap (λ e. Ok (expr_tree e, pieces c.in-Ok.rest.now)) (sym c.into_inner.ensures) in
    record { exact = found Expression expr_tree (whole_expression 64 (below 64)) c.args.tokens.now c.args.at c.requires.inside (finds c.args.tokens.now c.args.at) c.into_inner.result c.in-Ok.rest.now g; end_left = stays Expression expr_tree (whole_expression 64 (below 64)) c.args.tokens.now c.args.at c.requires.inside (finds c.args.tokens.now c.args.at) c.into_inner.result c.in-Ok.rest.now g (λ d. at_level d TheExpression) }

pub returns-in-Err-Fault : goal.returns-in-Err-Fault
returns-in-Err-Fault c =
    let g = subst (λ (e : Stop). Fails e (whole_expression 64 (below 64) (pieces c.split_at.result.1.now))) c.in-Err-Fault.field-0-is c.in-Err-Fault.ensures.gives in
    let h = subst (λ (y : List Token). Fails (stop.Fault c.in-Err-Fault.fault c.in-Err-Fault.left) (whole_expression 64 (below 64) (pieces y))) c.split_at.ensures.back g in
    record { exact = subst (λ r. PartAnswer Expression expr_tree c.args.tokens.now c.args.at (Err r)) (sym c.refused.ensures) (faulty Expression expr_tree (whole_expression 64 (below 64)) c.args.tokens.now c.args.at c.requires.inside (finds c.args.tokens.now c.args.at) c.in-Err-Fault.fault c.in-Err-Fault.left h); end_left = λ ends. tt }
