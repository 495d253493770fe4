use Rattle.std.proofs.Common.{◌≡◌, List, [], ◌∷◌, ◌++◌, length, map, option_map, sym, ap, subst, ◌∙◌, arith}
use Rattle.std.specs.Prelude.{IfSome, ◌<◌}
use Rattle.std.proofs.lemmas.List.{map_push}
use Rattle.ss_ast.specs.Tokens.{tok}
use Rattle.ss_ast.specs.Statements.{StmtTree, stmt_tree}
use Rattle.ss_grammar.specs.Reading.{times, seen}
use Rattle.ss_grammar.proofs.Turns.{Turns, turns_on, turns_last}
use Rattle.ss_grammar_expressions.specs.First.{tokened}
use Rattle.ss_grammar_expressions.specs.Heads.{pieces, AToken}
use Rattle.ss_grammar_expressions.specs.Parser.{below}
use Rattle.ss_grammar_statements.specs.Heads.{stmt_head}
use Rattle.ss_grammar_statements.specs.Parser.{nested_below, one_stmt, joins_stmt}
use Rattle.ss_parser_expressions.proofs.Loops.{pieces_fewer}
use Rattle.ss_parser_statement_trees.specs.View.{stmt_start_of}
use Rattle.ss_parser.proofs.+stmt.Goals as goal

pub statements::parse_stmts-loop-stmts-preserved : goal.statements::parse_stmts-loop-stmts-preserved
statements::parse_stmts-loop-stmts-preserved t c =
    let f = tokened stmt_head in
    let k = one_stmt c.args.depth (below c.args.depth) (nested_below c.args.depth) in
    let j = joins_stmt c.args.depth (below c.args.depth) (nested_below c.args.depth) in
    let so_far = map stmt_tree c.loop-stmts.stmts.items in
    let rest = c.loop-stmts.rest.now in
    let after = c.in_ok-stmt.after.now in
    let sees = subst (λ o. seen f (pieces rest) ≡ option_map (λ x. ((stmt_start_of x.0, AToken (tok x.1.now)), pieces x.2.now)) o) c.in-Some.is c.in_ok-start.ensures.sees in
    let lt : length c.in-Some.after.now < length rest = subst (λ o. IfSome o (λ x. length x.2.now < length rest)) c.in-Some.is c.in_ok-start.ensures.fewer in
    let s = turns_on f k j so_far (pieces rest) _ (pieces c.in-Some.after.now) (stmt_tree c.in_ok-stmt.stmt.value) (pieces after) _ sees c.in_ok-stmt.ensures.gives (pieces_fewer after c.in-Some.after.now c.in_ok-stmt.ensures.fewer) c.loop-stmts.invariant.turns in
    let e : map stmt_tree c.push.new.self.items ≡ so_far ++ stmt_tree c.in_ok-stmt.stmt.value ∷ [] = ap (λ l. map stmt_tree l) c.in_ok-push.ensures.items ∙ map_push stmt_tree c.loop-stmts.stmts.items c.into_inner.result ∙ ap (λ z. so_far ++ stmt_tree z ∷ []) c.into_inner.ensures in
    record { turns = subst (λ (a : List StmtTree). Turns f k j a (pieces after) (times f k j (length (pieces c.args.tokens.now)) [] (pieces c.args.tokens.now))) (sym e) s; fewer = omega (arith, c.loop-stmts.invariant.fewer, c.in_ok-stmt.ensures.fewer) }

pub statements::parse_stmts-returns-clause-gives : goal.statements::parse_stmts-returns-clause-gives
statements::parse_stmts-returns-clause-gives t c =
    let f = tokened stmt_head in
    let rest = c.loop-stmts.rest.now in
    let sees = subst (λ o. seen f (pieces rest) ≡ option_map (λ x. ((stmt_start_of x.0, AToken (tok x.1.now)), pieces x.2.now)) o) c.in_default.is c.in_ok-start.ensures.sees in
    turns_last f (one_stmt c.args.depth (below c.args.depth) (nested_below c.args.depth)) (joins_stmt c.args.depth (below c.args.depth) (nested_below c.args.depth)) _ (pieces rest) _ sees c.loop-stmts.invariant.turns
