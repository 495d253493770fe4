use Rattle.std.proofs.Common.{length, ◌+◌, ◌*◌, ◌≤◌, [], map}
use Rattle.ss_ast.specs.Statements.{stmt_tree}
use Rattle.ss_grammar.specs.Reading.{times}
use Rattle.ss_grammar.proofs.Turns.{Turns}
use Rattle.ss_grammar_expressions.specs.First.{tokened}
use Rattle.ss_grammar_expressions.specs.Heads.{pieces}
use Rattle.ss_grammar_expressions.specs.Parser.{below}
use Rattle.ss_grammar_statements.specs.Heads.{stmt_head}
use Rattle.ss_grammar_statements.specs.Parser.{nested_below, one_stmt, joins_stmt}
use Rattle.ss_parser.proofs.+stmt.Given as goal

abbrev pub decreases-governed::inner_statements : goal.decreases-governed::inner_statements
decreases-governed::inner_statements l = 16 * l.depth + 0

abbrev pub decreases-governed::inner_governed : goal.decreases-governed::inner_governed
decreases-governed::inner_governed l = 16 * l.depth + 0

abbrev pub decreases-governed::parse_block_after : goal.decreases-governed::parse_block_after
decreases-governed::parse_block_after l = 16 * l.depth + 1

abbrev pub decreases-governed::parse_inner_block : goal.decreases-governed::parse_inner_block
decreases-governed::parse_inner_block l = 16 * l.depth + 2

abbrev pub decreases-governed::parse_in_block : goal.decreases-governed::parse_in_block
decreases-governed::parse_in_block l = 16 * l.depth + 3

abbrev pub decreases-governed::parse_governed : goal.decreases-governed::parse_governed
decreases-governed::parse_governed l = 16 * l.depth + 4

abbrev pub decreases-governed::parse_other_side : goal.decreases-governed::parse_other_side
decreases-governed::parse_other_side l = 16 * l.depth + 5

abbrev pub decreases-governed::parse_else_end : goal.decreases-governed::parse_else_end
decreases-governed::parse_else_end l = 16 * l.depth + 6

abbrev pub decreases-governed::parse_if_end : goal.decreases-governed::parse_if_end
decreases-governed::parse_if_end l = 16 * l.depth + 7

abbrev pub decreases-governed::parse_if : goal.decreases-governed::parse_if
decreases-governed::parse_if l = 16 * l.depth + 8

abbrev pub decreases-loops::parse_guarded : goal.decreases-loops::parse_guarded
decreases-loops::parse_guarded l = 16 * l.depth + 5

abbrev pub decreases-loops::parse_while_body : goal.decreases-loops::parse_while_body
decreases-loops::parse_while_body l = 16 * l.depth + 6

abbrev pub decreases-loops::parse_while_end : goal.decreases-loops::parse_while_end
decreases-loops::parse_while_end l = 16 * l.depth + 7

abbrev pub decreases-loops::parse_while : goal.decreases-loops::parse_while
decreases-loops::parse_while l = 16 * l.depth + 8

abbrev pub decreases-loops::parse_for_body : goal.decreases-loops::parse_for_body
decreases-loops::parse_for_body l = 16 * l.depth + 6

abbrev pub decreases-loops::parse_for_end : goal.decreases-loops::parse_for_end
decreases-loops::parse_for_end l = 16 * l.depth + 7

abbrev pub decreases-loops::parse_for : goal.decreases-loops::parse_for
decreases-loops::parse_for l = 16 * l.depth + 8

abbrev pub decreases-exposes::parse_expose_body : goal.decreases-exposes::parse_expose_body
decreases-exposes::parse_expose_body l = 16 * l.depth + 3

abbrev pub decreases-exposes::parse_expose_end : goal.decreases-exposes::parse_expose_end
decreases-exposes::parse_expose_end l = 16 * l.depth + 4

abbrev pub decreases-exposes::parse_expose : goal.decreases-exposes::parse_expose
decreases-exposes::parse_expose l = 16 * l.depth + 5

abbrev pub decreases-statements::parse_word : goal.decreases-statements::parse_word
decreases-statements::parse_word l = 16 * l.depth + 9

abbrev pub decreases-statements::parse_other : goal.decreases-statements::parse_other
decreases-statements::parse_other l = 16 * l.depth + 10

abbrev pub decreases-statements::parse_stmt : goal.decreases-statements::parse_stmt
decreases-statements::parse_stmt l = 16 * l.depth + 10

abbrev pub decreases-statements::parse_stmts : goal.decreases-statements::parse_stmts
decreases-statements::parse_stmts l = 16 * l.depth + 11

abbrev pub decreases-statements::parse_statements : goal.decreases-statements::parse_statements
decreases-statements::parse_statements l = 16 * l.depth + 12

abbrev pub invariant-statements::parse_stmts-loop-stmts : goal.invariant-statements::parse_stmts-loop-stmts
invariant-statements::parse_stmts-loop-stmts l = record {
  turns : Turns (tokened stmt_head) (one_stmt l.depth (below l.depth) (nested_below l.depth)) (joins_stmt l.depth (below l.depth) (nested_below l.depth)) (map stmt_tree l.stmts.items) (pieces l.rest) (times (tokened stmt_head) (one_stmt l.depth (below l.depth) (nested_below l.depth)) (joins_stmt l.depth (below l.depth) (nested_below l.depth)) (length (pieces l.fn.tokens)) [] (pieces l.fn.tokens));
  fewer : length l.rest ≤ length l.fn.tokens;
}

abbrev pub decreases-statements::parse_stmts-loop-stmts : goal.decreases-statements::parse_stmts-loop-stmts
decreases-statements::parse_stmts-loop-stmts l = length l.rest
