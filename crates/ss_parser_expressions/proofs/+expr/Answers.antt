use Rattle.std.proofs.Common.{◌≡◌, ◌<◌, ◌-◌, ◌+◌, List, [], ◌∷◌, ◌++◌, length, map, Ok, refl, sym, ap, subst, ◌∙◌, arith}
use Rattle.std.specs.Prelude.{IfSome}
use Rattle.std.proofs.lemmas.List.{map_push}
use Rattle.ss_ast.specs.declared.token.Symbol.TheVariants as symbol
use Rattle.ss_ast.specs.Expressions.{ExprTree, expr_tree, grouped}
use Rattle.ss_grammar.specs.Reading.{◌>>=◌, times, one_more}
use Rattle.ss_grammar.specs.Stops.{Gives, GivesMore}
use Rattle.ss_grammar.proofs.Turns.{Turns, turns_on, turns_last, more_on, more_last}
use Rattle.ss_grammar_expressions.specs.First.{tokened}
use Rattle.ss_grammar_expressions.specs.Heads.{the, pieces, link_head, postfix_head}
use Rattle.ss_grammar_expressions.specs.Grammar.{TheExpression, join_argument}
use Rattle.ss_grammar_expressions.specs.Parser.{below, postfix, joins, link_after, operand}
use Rattle.ss_ast.specs.Parts.{link_after as link_tree, postfix_after as postfix_tree}
use Rattle.ss_ast.proofs.Grouping.{grouped_push}
use Rattle.ss_parser_expressions.proofs.Loops.{fails_on, err_gives, pieces_fewer, pieces_less, chain_is, postfixes_is}
use Rattle.ss_parser_expressions.proofs.+expr.Goals as goal

pub chains::parse_chain-returns-clause-gives : goal.chains::parse_chain-returns-clause-gives
chains::parse_chain-returns-clause-gives t c =
    let w = below c.args.depth in
    let e = chain_is c.args.depth w c.args.rank c.args.place (expr_tree c.args.first.value) (pieces c.args.tokens.now) (omega (arith, c.if-rank-eq0.false)) ∙ ap (λ r. r >>= λ x. times (link_head (c.args.rank - 1 + 1)) (link_after c.args.depth w (operand c.args.depth w (c.args.rank - 1))) (joins c.args.depth w c.args.place) (length x.1) x.0 x.1) c.in_ok-first.ensures.gives in
    subst (λ r. Gives (λ x. (expr_tree x.0.value, pieces x.1.now)) c.parse_links.result r) (sym e) c.parse_links.ensures.gives

pub chains::parse_links-loop-joint-preserved : goal.chains::parse_links-loop-joint-preserved
chains::parse_links-loop-joint-preserved t c =
    let w = below c.args.depth in
    let f = link_head (c.args.rank + 1) in
    let k = link_after c.args.depth w (operand c.args.depth w c.args.rank) in
    let first = expr_tree c.args.first.value in
    let p = c.args.place in
    let so_far = grouped p first (map link_tree c.loop-joint.links.items) in
    let rest = pieces c.in_ok-link.after.now in
    let s = turns_on f k (joins c.args.depth w p) so_far (pieces c.loop-joint.rest.now) _ (pieces c.in-Some.after.now) (link_tree c.in_ok-link.link) rest _ c.in-Some.ensures.sees c.in_ok-link.ensures.gives (pieces_fewer c.in_ok-link.after.now c.in-Some.after.now c.in_ok-link.ensures.fewer) c.loop-joint.invariant.turns in
    let e : grouped p first (map link_tree c.push.new.self.items) ≡ link_tree c.in_ok-link.link p so_far =
    ap (λ l. grouped p first (map link_tree l)) c.in_ok-push.ensures.items ∙ ap (λ l. grouped p first l) (map_push link_tree c.loop-joint.links.items c.in_ok-link.link) ∙ grouped_push p first (map link_tree c.loop-joint.links.items) (link_tree c.in_ok-link.link) in
    record { turns = subst (λ (a : ExprTree). Turns f k (joins c.args.depth w p) a rest (times f k (joins c.args.depth w p) (length (pieces c.args.tokens.now)) (expr_tree c.args.first.value) (pieces c.args.tokens.now))) (sym e) s; fewer = omega (arith, c.loop-joint.invariant.fewer, c.in-Some.ensures.fewer, c.in_ok-link.ensures.fewer) }

pub chains::parse_links-returns-clause-gives : goal.chains::parse_links-returns-clause-gives
chains::parse_links-returns-clause-gives t c =
    let w = below c.args.depth in
    turns_last (link_head (c.args.rank + 1)) (link_after c.args.depth w (operand c.args.depth w c.args.rank)) (joins c.args.depth w c.args.place) _ (pieces c.loop-joint.rest.now) _ c.in_default.ensures.sees c.loop-joint.invariant.turns ∙ ap (λ e. Ok (e, pieces c.loop-joint.rest.now)) (sym c.in_ok-chain.ensures)

pub paths::parse_postfixes-loop-postfixes-preserved : goal.paths::parse_postfixes-loop-postfixes-preserved
paths::parse_postfixes-loop-postfixes-preserved t c =
    let w = below c.args.depth in
    let f = tokened postfix_head in
    let k = postfix c.args.depth w in
    let first = expr_tree c.args.first.value in
    let p = c.args.place in
    let so_far = grouped p first (map postfix_tree c.loop-postfixes.postfixes.items) in
    let rest = c.loop-postfixes.rest.now in
    let after = c.in-Some.after.now in
    let g = subst (λ o. GivesMore (λ x. (postfix_tree x.0, pieces x.1.now)) (Ok o) (one_more f k (pieces rest))) c.in-Some.is c.in_ok-postfix.ensures.gives in
    let lt : length after < length rest = subst (λ o. IfSome o (λ x. length x.1.now < length rest)) c.in-Some.is c.in_ok-postfix.ensures.fewer in
    let s = more_on f k (joins c.args.depth w p) (λ a b. b p a) (λ a b r. refl) so_far (pieces rest) (postfix_tree c.in-Some.postfix) (pieces after) _ g (pieces_less after rest lt) c.loop-postfixes.invariant.turns in
    let e : grouped p first (map postfix_tree c.push.new.self.items) ≡ postfix_tree c.in-Some.postfix p so_far =
    ap (λ l. grouped p first (map postfix_tree l)) c.in_ok-push.ensures.items ∙ ap (λ l. grouped p first l) (map_push postfix_tree c.loop-postfixes.postfixes.items c.in-Some.postfix) ∙ grouped_push p first (map postfix_tree c.loop-postfixes.postfixes.items) (postfix_tree c.in-Some.postfix) in
    record { turns = subst (λ (a : ExprTree). Turns f k (joins c.args.depth w p) a (pieces after) (times f k (joins c.args.depth w p) (length (pieces c.args.tokens.now)) (expr_tree c.args.first.value) (pieces c.args.tokens.now))) (sym e) s; fewer = omega (arith, c.loop-postfixes.invariant.fewer) }

pub paths::parse_postfixes-returns-clause-gives : goal.paths::parse_postfixes-returns-clause-gives
paths::parse_postfixes-returns-clause-gives t c =
    let w = below c.args.depth in
    let rest = c.loop-postfixes.rest.now in
    let g = subst (λ o. GivesMore (λ x. (postfix_tree x.0, pieces x.1.now)) (Ok o) (one_more (tokened postfix_head) (postfix c.args.depth w) (pieces rest))) c.in_default.is c.in_ok-postfix.ensures.gives in
    postfixes_is c.args.depth w c.args.place (expr_tree c.args.first.value) (pieces c.args.tokens.now) ∙ more_last (tokened postfix_head) (postfix c.args.depth w) (joins c.args.depth w c.args.place) _ (pieces rest) _ g c.loop-postfixes.invariant.turns ∙ ap (λ e. Ok (e, pieces rest)) (sym c.in_ok-path.ensures)

pub arguments::parse_more_args-loop-after-preserved : goal.arguments::parse_more_args-loop-after-preserved
arguments::parse_more_args-loop-after-preserved t c =
    let f = the symbol.Comma in
    let k = λ (_ : _). below c.args.depth TheExpression in
    let so_far = map expr_tree c.loop-after.given.items in
    let rest = pieces c.in_ok-next.after.now in
    let s = turns_on f k join_argument so_far (pieces c.loop-after.rest.now) _ (pieces c.in-Some.after.now) (expr_tree c.in_ok-next.next.value) rest _ c.in-Some.ensures.sees c.in_ok-next.ensures.gives (pieces_fewer c.in_ok-next.after.now c.in-Some.after.now c.in_ok-next.ensures.fewer) c.loop-after.invariant.turns in
    let e : map expr_tree c.push.new.self.items ≡ so_far ++ expr_tree c.in_ok-next.next.value ∷ [] = ap (λ l. map expr_tree l) c.in_ok-push.ensures.items ∙ map_push expr_tree c.loop-after.given.items c.into_inner.result ∙ ap (λ z. so_far ++ expr_tree z ∷ []) c.into_inner.ensures in
    record { turns = subst (λ (a : List ExprTree). Turns f k join_argument a rest (times f k join_argument (length (pieces c.args.tokens.now)) (map expr_tree c.args.first.items) (pieces c.args.tokens.now))) (sym e) s; fewer = omega (arith, c.loop-after.invariant.fewer, c.in-Some.ensures.fewer, c.in_ok-next.ensures.fewer) }

pub arguments::parse_more_args-returns-clause-gives : goal.arguments::parse_more_args-returns-clause-gives
arguments::parse_more_args-returns-clause-gives t c = turns_last (the symbol.Comma) (λ _. below c.args.depth TheExpression) join_argument (map expr_tree c.loop-after.given.items) (pieces c.loop-after.rest.now) _ c.in_default.ensures.sees c.loop-after.invariant.turns

pub arguments::parse_more_args-returns-in_err-next-clause-gives : goal.arguments::parse_more_args-returns-in_err-next-clause-gives
arguments::parse_more_args-returns-in_err-next-clause-gives t c =
    let r = c.from_residual.ensures in
    let f = fails_on (the symbol.Comma) (λ _. below c.args.depth TheExpression) join_argument (map expr_tree c.loop-after.given.items) (pieces c.loop-after.rest.now) c.in-Some.field-0-0 (pieces c.in-Some.after.now) c.in_err-next.field-0.0 _ c.in-Some.ensures.sees c.in_err-next.ensures.gives c.loop-after.invariant.turns in
    err_gives (λ x. (map expr_tree x.0.items, pieces x.1.now)) c.from_residual.result c.in_err-next.field-0.0 _ r.0 r.1 f
