use Rattle.std.proofs.Common.{◌≡◌, List, [], ◌∷◌, ◌++◌, length, map, sym, ap, subst, ◌∙◌, arith}
use Rattle.std.proofs.lemmas.List.{map_push}
use Rattle.ss_ast.specs.declared.token.Symbol.TheVariants as symbol
use Rattle.ss_ast.specs.Statements.{DeclaratorTree, declarator_tree}
use Rattle.ss_grammar.specs.Reading.{times}
use Rattle.ss_grammar.proofs.Turns.{Turns, turns_on, turns_last}
use Rattle.ss_grammar_expressions.specs.Heads.{the, pieces}
use Rattle.ss_grammar_expressions.specs.Parser.{below}
use Rattle.ss_grammar_statements.specs.Grammar.{join_declarator}
use Rattle.ss_grammar_statements.specs.Parser.{declarator}
use Rattle.ss_parser_expressions.proofs.Loops.{fails_on, err_gives, pieces_fewer}
use Rattle.ss_parser.proofs.declarations.parse_more_declarators.Goals as goal

pub loop-after-preserved : goal.loop-after-preserved
loop-after-preserved c =
    let f = the symbol.Comma in
    let k = λ (_ : _). declarator c.args.depth (below c.args.depth) in
    let so_far = map declarator_tree c.loop-after.declarators.items in
    let rest = pieces c.in_ok-next.after.now in
    let s = turns_on f k join_declarator so_far (pieces c.loop-after.rest.now) _ (pieces c.in-Some.after.now) (declarator_tree c.in_ok-next.next) rest _ c.in-Some.ensures.sees c.in_ok-next.ensures.gives (pieces_fewer c.in_ok-next.after.now c.in-Some.after.now c.in_ok-next.ensures.fewer) c.loop-after.invariant.turns in
    let e : map declarator_tree c.push.new.self.items ≡ so_far ++ declarator_tree c.in_ok-next.next ∷ [] = ap (λ l. map declarator_tree l) c.in_ok-push.ensures.items ∙ map_push declarator_tree c.loop-after.declarators.items c.in_ok-next.next in
    record { turns = subst (λ (a : List DeclaratorTree). Turns f k join_declarator a rest (times f k join_declarator (length (pieces c.args.tokens.now)) (map declarator_tree c.args.first.items) (pieces c.args.tokens.now))) (sym e) s; fewer = omega (arith, c.loop-after.invariant.fewer, c.in-Some.ensures.fewer, c.in_ok-next.ensures.fewer) }

pub returns-clause-gives : goal.returns-clause-gives
returns-clause-gives c = turns_last (the symbol.Comma) (λ _. declarator c.args.depth (below c.args.depth)) join_declarator (map declarator_tree c.loop-after.declarators.items) (pieces c.loop-after.rest.now) _ c.in_default.ensures.sees c.loop-after.invariant.turns

pub returns-in_err-next-clause-gives : goal.returns-in_err-next-clause-gives
returns-in_err-next-clause-gives c =
    let r = c.from_residual.ensures in
    let f = fails_on (the symbol.Comma) (λ _. declarator c.args.depth (below c.args.depth)) join_declarator (map declarator_tree c.loop-after.declarators.items) (pieces c.loop-after.rest.now) c.in-Some.field-0-0 (pieces c.in-Some.after.now) c.in_err-next.field-0.0 _ c.in-Some.ensures.sees c.in_err-next.ensures.gives c.loop-after.invariant.turns in
    err_gives (λ x. (map declarator_tree x.0.items, pieces x.1.now)) c.from_residual.result c.in_err-next.field-0.0 _ r.0 r.1 f
