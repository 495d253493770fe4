use Rattle.std.proofs.Common.{length, ◌≤◌, [], map}
use Rattle.ss_ast.specs.declared.token.Word.TheVariants as word
use Rattle.ss_ast.specs.Expressions.{expr_tree}
use Rattle.ss_grammar.specs.Reading.{times}
use Rattle.ss_grammar.proofs.Turns.{Turns}
use Rattle.ss_grammar_expressions.specs.Heads.{the_word, pieces}
use Rattle.ss_grammar_expressions.specs.Grammar.{join_argument}
use Rattle.ss_grammar_expressions.specs.Parser.{below, whole_expression}
use Rattle.ss_grammar_statements.specs.Parser.{ended}
use Rattle.ss_parser.proofs.headings.parse_more_invariants.Given as goal

abbrev pub invariant-loop-after : goal.invariant-loop-after
invariant-loop-after l = record {
  turns : Turns (the_word word.Invariant) (λ _. ended (whole_expression l.depth (below l.depth))) join_argument (map expr_tree l.conditions.items) (pieces l.rest) (times (the_word word.Invariant) (λ _. ended (whole_expression l.depth (below l.depth))) join_argument (length (pieces l.fn.tokens)) [] (pieces l.fn.tokens));
  fewer : length l.rest ≤ length l.fn.tokens;
}

abbrev pub decreases-loop-after : goal.decreases-loop-after
decreases-loop-after l = length l.rest
