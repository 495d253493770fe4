use Rattle.std.proofs.Common.{◌≡◌, List, [], ◌∷◌, ◌++◌, length, map, sym, ap, subst, ◌∙◌, arith}
use Rattle.std.proofs.lemmas.List.{map_push}
use Rattle.ss_ast.specs.declared.token.Word.TheVariants as word
use Rattle.ss_ast.specs.Expressions.{ExprTree, expr_tree}
use Rattle.ss_grammar.specs.Reading.{times}
use Rattle.ss_grammar.proofs.Turns.{Turns, turns_on, turns_last}
use Rattle.ss_grammar_expressions.specs.Heads.{the_word, pieces}
use Rattle.ss_grammar_expressions.specs.Grammar.{join_argument}
use Rattle.ss_grammar_expressions.specs.Parser.{below, whole_expression}
use Rattle.ss_grammar_statements.specs.Parser.{ended}
use Rattle.ss_parser_expressions.proofs.Loops.{fails_on, err_gives, pieces_fewer}
use Rattle.ss_parser.proofs.headings.parse_more_invariants.Goals as goal

pub loop-after-preserved : goal.loop-after-preserved
loop-after-preserved c =
    let f = the_word word.Invariant in
    let k = λ (_ : _). ended (whole_expression c.args.depth (below c.args.depth)) in
    let so_far = map expr_tree c.loop-after.conditions.items in
    let rest = pieces c.in_ok-condition.after.now in
    let s = turns_on f k join_argument so_far (pieces c.loop-after.rest.now) _ (pieces c.in-Some.after.now) (expr_tree c.in_ok-condition.condition.value) rest _ c.in-Some.ensures.sees c.in_ok-condition.ensures.gives (pieces_fewer c.in_ok-condition.after.now c.in-Some.after.now c.in_ok-condition.ensures.fewer) c.loop-after.invariant.turns in
    let e : map expr_tree c.push.new.self.items ≡ so_far ++ expr_tree c.in_ok-condition.condition.value ∷ [] = ap (λ l. map expr_tree l) c.in_ok-push.ensures.items ∙ map_push expr_tree c.loop-after.conditions.items c.into_inner.result ∙ ap (λ z. so_far ++ expr_tree z ∷ []) c.into_inner.ensures in
    record { turns = subst (λ (a : List ExprTree). Turns f k join_argument a rest (times f k join_argument (length (pieces c.args.tokens.now)) [] (pieces c.args.tokens.now))) (sym e) s; fewer = omega (arith, c.loop-after.invariant.fewer, c.in-Some.ensures.fewer, c.in_ok-condition.ensures.fewer) }

pub returns-clause-gives : goal.returns-clause-gives
returns-clause-gives c = turns_last (the_word word.Invariant) (λ _. ended (whole_expression c.args.depth (below c.args.depth))) join_argument (map expr_tree c.loop-after.conditions.items) (pieces c.loop-after.rest.now) _ c.in_default.ensures.sees c.loop-after.invariant.turns

pub returns-in_err-condition-clause-gives : goal.returns-in_err-condition-clause-gives
returns-in_err-condition-clause-gives c =
    let r = c.from_residual.ensures in
    let f = fails_on (the_word word.Invariant) (λ _. ended (whole_expression c.args.depth (below c.args.depth))) join_argument (map expr_tree c.loop-after.conditions.items) (pieces c.loop-after.rest.now) c.in-Some.field-0-0 (pieces c.in-Some.after.now) c.in_err-condition.field-0.0 _ c.in-Some.ensures.sees c.in_err-condition.ensures.gives c.loop-after.invariant.turns in
    err_gives (λ x. (map expr_tree x.0.items, pieces x.1.now)) c.from_residual.result c.in_err-condition.field-0.0 _ r.0 r.1 f
