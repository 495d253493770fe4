use Rattle.std.proofs.Common.{length, ◌+◌, ◌*◌, ◌≤◌, map}
use Rattle.ss_ast.specs.declared.token.Symbol.TheVariants as symbol
use Rattle.ss_ast.specs.Expressions.{expr_tree, grouped}
use Rattle.ss_grammar.specs.Reading.{times}
use Rattle.ss_grammar.proofs.Turns.{Turns}
use Rattle.ss_grammar_expressions.specs.First.{tokened}
use Rattle.ss_grammar_expressions.specs.Heads.{the, pieces, link_head, postfix_head}
use Rattle.ss_grammar_expressions.specs.Grammar.{TheExpression, join_argument}
use Rattle.ss_grammar_expressions.specs.Parser.{below, postfix, joins, link_after, operand}
use Rattle.ss_ast.specs.Parts.{link_after as link_tree, postfix_after as postfix_tree}
use Rattle.ss_parser_expressions.proofs.+expr.Given as goal

abbrev pub decreases-unaries::inner_unary : goal.decreases-unaries::inner_unary
decreases-unaries::inner_unary l = 64 * l.depth + 0

abbrev pub decreases-expressions::inner_implication : goal.decreases-expressions::inner_implication
decreases-expressions::inner_implication l = 64 * l.depth + 0

abbrev pub decreases-arguments::inner_expression : goal.decreases-arguments::inner_expression
decreases-arguments::inner_expression l = 64 * l.depth + 0

abbrev pub decreases-casts::inner_named : goal.decreases-casts::inner_named
decreases-casts::inner_named l = 64 * l.depth + 0

abbrev pub decreases-quantifiers::inner_range : goal.decreases-quantifiers::inner_range
decreases-quantifiers::inner_range l = 64 * l.depth + 0

abbrev pub decreases-arguments::parse_args : goal.decreases-arguments::parse_args
decreases-arguments::parse_args l = 64 * l.depth + 2

abbrev pub decreases-arguments::parse_more_args : goal.decreases-arguments::parse_more_args
decreases-arguments::parse_more_args l = 64 * l.depth + 1

abbrev pub decreases-arguments::parse_some_args : goal.decreases-arguments::parse_some_args
decreases-arguments::parse_some_args l = 64 * l.depth + 3

abbrev pub decreases-arguments::parse_args_end : goal.decreases-arguments::parse_args_end
decreases-arguments::parse_args_end l = 64 * l.depth + 4

abbrev pub decreases-arguments::parse_index_end : goal.decreases-arguments::parse_index_end
decreases-arguments::parse_index_end l = 64 * l.depth + 1

abbrev pub decreases-arguments::parse_paren_end : goal.decreases-arguments::parse_paren_end
decreases-arguments::parse_paren_end l = 64 * l.depth + 1

abbrev pub decreases-paths::parse_postfix : goal.decreases-paths::parse_postfix
decreases-paths::parse_postfix l = 64 * l.depth + 5

abbrev pub decreases-paths::parse_postfixes : goal.decreases-paths::parse_postfixes
decreases-paths::parse_postfixes l = 64 * l.depth + 6

abbrev pub decreases-paths::parse_new : goal.decreases-paths::parse_new
decreases-paths::parse_new l = 64 * l.depth + 7

abbrev pub decreases-paths::parse_new_end : goal.decreases-paths::parse_new_end
decreases-paths::parse_new_end l = 64 * l.depth + 6

abbrev pub decreases-paths::parse_old : goal.decreases-paths::parse_old
decreases-paths::parse_old l = 64 * l.depth + 5

abbrev pub decreases-quantifiers::parse_range_high : goal.decreases-quantifiers::parse_range_high
decreases-quantifiers::parse_range_high l = 64 * l.depth + 2

abbrev pub decreases-quantifiers::parse_range_end : goal.decreases-quantifiers::parse_range_end
decreases-quantifiers::parse_range_end l = 64 * l.depth + 3

abbrev pub decreases-quantifiers::parse_range : goal.decreases-quantifiers::parse_range
decreases-quantifiers::parse_range l = 64 * l.depth + 5

abbrev pub decreases-quantifiers::parse_body : goal.decreases-quantifiers::parse_body
decreases-quantifiers::parse_body l = 64 * l.depth + 2

abbrev pub decreases-quantifiers::parse_bounds_and_body : goal.decreases-quantifiers::parse_bounds_and_body
decreases-quantifiers::parse_bounds_and_body l = 64 * l.depth + 3

abbrev pub decreases-quantifiers::parse_quantified_end : goal.decreases-quantifiers::parse_quantified_end
decreases-quantifiers::parse_quantified_end l = 64 * l.depth + 4

abbrev pub decreases-quantifiers::parse_quantified : goal.decreases-quantifiers::parse_quantified
decreases-quantifiers::parse_quantified l = 64 * l.depth + 5

abbrev pub decreases-casts::parse_cast_end : goal.decreases-casts::parse_cast_end
decreases-casts::parse_cast_end l = 64 * l.depth + 1

abbrev pub decreases-casts::parse_cast_only : goal.decreases-casts::parse_cast_only
decreases-casts::parse_cast_only l = 64 * l.depth + 2

abbrev pub decreases-casts::parse_after_paren : goal.decreases-casts::parse_after_paren
decreases-casts::parse_after_paren l = 64 * l.depth + 7

abbrev pub decreases-casts::parse_bare : goal.decreases-casts::parse_bare
decreases-casts::parse_bare l = 64 * l.depth + 8

abbrev pub decreases-casts::parse_closed : goal.decreases-casts::parse_closed
decreases-casts::parse_closed l = 64 * l.depth + 9

abbrev pub decreases-casts::parse_word_paren : goal.decreases-casts::parse_word_paren
decreases-casts::parse_word_paren l = 64 * l.depth + 9

abbrev pub decreases-casts::parse_enclosed : goal.decreases-casts::parse_enclosed
decreases-casts::parse_enclosed l = 64 * l.depth + 10

abbrev pub decreases-casts::parse_name_paren : goal.decreases-casts::parse_name_paren
decreases-casts::parse_name_paren l = 64 * l.depth + 11

abbrev pub decreases-casts::parse_other_paren : goal.decreases-casts::parse_other_paren
decreases-casts::parse_other_paren l = 64 * l.depth + 9

abbrev pub decreases-casts::parse_paren : goal.decreases-casts::parse_paren
decreases-casts::parse_paren l = 64 * l.depth + 12

abbrev pub decreases-unaries::parse_negation : goal.decreases-unaries::parse_negation
decreases-unaries::parse_negation l = 64 * l.depth + 1

abbrev pub decreases-unaries::parse_negated : goal.decreases-unaries::parse_negated
decreases-unaries::parse_negated l = 64 * l.depth + 8

abbrev pub decreases-quantifiers::parse_then_postfixes : goal.decreases-quantifiers::parse_then_postfixes
decreases-quantifiers::parse_then_postfixes l = 64 * l.depth + 9

abbrev pub decreases-unaries::parse_opening : goal.decreases-unaries::parse_opening
decreases-unaries::parse_opening l = 64 * l.depth + 13

abbrev pub decreases-unaries::parse_unary : goal.decreases-unaries::parse_unary
decreases-unaries::parse_unary l = 64 * l.depth + 14

abbrev pub decreases-chains::parse_operand : goal.decreases-chains::parse_operand
decreases-chains::parse_operand l = 64 * l.depth + (16 + 4 * l.rank)

abbrev pub decreases-chains::parse_link : goal.decreases-chains::parse_link
decreases-chains::parse_link l = 64 * l.depth + (17 + 4 * l.rank)

abbrev pub decreases-chains::parse_chain : goal.decreases-chains::parse_chain
decreases-chains::parse_chain l = 64 * l.depth + (15 + 4 * l.rank)

abbrev pub decreases-chains::parse_links : goal.decreases-chains::parse_links
decreases-chains::parse_links l = 64 * l.depth + (18 + 4 * l.rank)

abbrev pub decreases-expressions::parse_right_side : goal.decreases-expressions::parse_right_side
decreases-expressions::parse_right_side l = 64 * l.depth + 1

abbrev pub decreases-expressions::parse_implication_end : goal.decreases-expressions::parse_implication_end
decreases-expressions::parse_implication_end l = 64 * l.depth + 2

abbrev pub decreases-expressions::parse_implication_from : goal.decreases-expressions::parse_implication_from
decreases-expressions::parse_implication_from l = 64 * l.depth + 45

abbrev pub decreases-expressions::parse_implication : goal.decreases-expressions::parse_implication
decreases-expressions::parse_implication l = 64 * l.depth + 46

abbrev pub decreases-expressions::parse_iff_end : goal.decreases-expressions::parse_iff_end
decreases-expressions::parse_iff_end l = 64 * l.depth + 47

abbrev pub decreases-expressions::parse_expression_from : goal.decreases-expressions::parse_expression_from
decreases-expressions::parse_expression_from l = 64 * l.depth + 48

abbrev pub decreases-expressions::parse_expression : goal.decreases-expressions::parse_expression
decreases-expressions::parse_expression l = 64 * l.depth + 49

abbrev pub decreases-enclosed::parse_rest : goal.decreases-enclosed::parse_rest
decreases-enclosed::parse_rest l = 64 * l.depth + 49

abbrev pub decreases-enclosed::parse_element_end : goal.decreases-enclosed::parse_element_end
decreases-enclosed::parse_element_end l = 64 * l.depth + 50

abbrev pub decreases-enclosed::parse_element_or_array : goal.decreases-enclosed::parse_element_or_array
decreases-enclosed::parse_element_or_array l = 64 * l.depth + 51

abbrev pub decreases-enclosed::parse_named_rest : goal.decreases-enclosed::parse_named_rest
decreases-enclosed::parse_named_rest l = 64 * l.depth + 50

abbrev pub decreases-enclosed::parse_named : goal.decreases-enclosed::parse_named
decreases-enclosed::parse_named l = 64 * l.depth + 52

abbrev pub invariant-arguments::parse_more_args-loop-after : goal.invariant-arguments::parse_more_args-loop-after
invariant-arguments::parse_more_args-loop-after l = record {
  turns : Turns (the symbol.Comma) (λ _. below l.depth TheExpression) join_argument (map expr_tree l.given.items) (pieces l.rest) (times (the symbol.Comma) (λ _. below l.depth TheExpression) join_argument (length (pieces l.fn.tokens)) (map expr_tree l.fn.first.items) (pieces l.fn.tokens));
  fewer : length l.rest ≤ length l.fn.tokens;
}

abbrev pub decreases-arguments::parse_more_args-loop-after : goal.decreases-arguments::parse_more_args-loop-after
decreases-arguments::parse_more_args-loop-after l = length l.rest

abbrev pub invariant-chains::parse_links-loop-joint : goal.invariant-chains::parse_links-loop-joint
invariant-chains::parse_links-loop-joint l = record {
  turns : Turns (link_head (l.rank + 1)) (link_after l.depth (below l.depth) (operand l.depth (below l.depth) l.rank)) (joins l.depth (below l.depth) l.place) (grouped l.place (expr_tree l.first.value) (map link_tree l.links.items)) (pieces l.rest) (times (link_head (l.rank + 1)) (link_after l.depth (below l.depth) (operand l.depth (below l.depth) l.rank)) (joins l.depth (below l.depth) l.place) (length (pieces l.fn.tokens)) (expr_tree l.fn.first.value) (pieces l.fn.tokens));
  fewer : length l.rest ≤ length l.fn.tokens;
}

abbrev pub decreases-chains::parse_links-loop-joint : goal.decreases-chains::parse_links-loop-joint
decreases-chains::parse_links-loop-joint l = length l.rest

abbrev pub invariant-paths::parse_postfixes-loop-postfixes : goal.invariant-paths::parse_postfixes-loop-postfixes
invariant-paths::parse_postfixes-loop-postfixes l = record {
  turns : Turns (tokened postfix_head) (postfix l.depth (below l.depth)) (joins l.depth (below l.depth) l.place) (grouped l.place (expr_tree l.first.value) (map postfix_tree l.postfixes.items)) (pieces l.rest) (times (tokened postfix_head) (postfix l.depth (below l.depth)) (joins l.depth (below l.depth) l.place) (length (pieces l.fn.tokens)) (expr_tree l.fn.first.value) (pieces l.fn.tokens));
  fewer : length l.rest ≤ length l.fn.tokens;
}

abbrev pub decreases-paths::parse_postfixes-loop-postfixes : goal.decreases-paths::parse_postfixes-loop-postfixes
decreases-paths::parse_postfixes-loop-postfixes l = length l.rest
