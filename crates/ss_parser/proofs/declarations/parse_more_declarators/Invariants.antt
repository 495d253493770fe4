use Rattle.std.proofs.Common.{length, ◌≤◌, map}
use Rattle.ss_ast.specs.declared.token.Symbol.TheVariants as symbol
use Rattle.ss_ast.specs.Statements.{declarator_tree}
use Rattle.ss_grammar.specs.Reading.{times}
use Rattle.ss_grammar.proofs.Turns.{Turns}
use Rattle.ss_grammar_expressions.specs.Heads.{the, pieces}
use Rattle.ss_grammar_expressions.specs.Parser.{below}
use Rattle.ss_grammar_statements.specs.Grammar.{join_declarator}
use Rattle.ss_grammar_statements.specs.Parser.{declarator}
use Rattle.ss_parser.proofs.declarations.parse_more_declarators.Given as goal

abbrev pub invariant-loop-after : goal.invariant-loop-after
invariant-loop-after l = record {
  turns : Turns (the symbol.Comma) (λ _. declarator l.depth (below l.depth)) join_declarator (map declarator_tree l.declarators.items) (pieces l.rest) (times (the symbol.Comma) (λ _. declarator l.depth (below l.depth)) join_declarator (length (pieces l.fn.tokens)) (map declarator_tree l.fn.first.items) (pieces l.fn.tokens));
  fewer : length l.rest ≤ length l.fn.tokens;
}

abbrev pub decreases-loop-after : goal.decreases-loop-after
decreases-loop-after l = length l.rest
