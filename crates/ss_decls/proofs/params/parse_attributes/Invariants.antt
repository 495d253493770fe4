use Rattle.std.proofs.Common.{length, map, ◌≤◌, []}
use Rattle.ss_ast.specs.declared.token.Symbol.TheVariants as symbol
use Rattle.ss_ast.specs.Expressions.{name_tree}
use Rattle.ss_grammar.specs.Reading.{times}
use Rattle.ss_grammar.proofs.Turns.{Turns}
use Rattle.ss_grammar_expressions.specs.First.{tokened}
use Rattle.ss_grammar_expressions.specs.Heads.{the, pieces}
use Rattle.ss_grammar_programs.specs.Grammar.{push_after}
use Rattle.ss_grammar_programs.specs.Parser.{attribute}
use Rattle.ss_decls.proofs.params.parse_attributes.Given as goal

abbrev pub invariant-loop-names : goal.invariant-loop-names
invariant-loop-names l = record {
  turns : Turns (tokened (the symbol.OpenBracket)) (attribute l.depth) push_after (map name_tree l.names.items) (pieces l.rest) (times (tokened (the symbol.OpenBracket)) (attribute l.depth) push_after (length (pieces l.fn.tokens)) [] (pieces l.fn.tokens));
  fewer : length l.rest ≤ length l.fn.tokens;
}

abbrev pub decreases-loop-names : goal.decreases-loop-names
decreases-loop-names l = length l.rest
