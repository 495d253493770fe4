use Rattle.std.proofs.Common.{length, map, ◌≤◌}
use Rattle.ss_ast.specs.declared.token.Symbol.TheVariants as symbol
use Rattle.ss_grammar_expressions.specs.Heads.{the, pieces}
use Rattle.ss_core.specs.declared.names.Place.{Place}
use Rattle.ss_grammar_programs.specs.Parser.{modified_term}
use Rattle.ss_ast.specs.Programs.{modified_tree}
use Rattle.ss_grammar.specs.Reading.{times}
use Rattle.ss_grammar.proofs.Turns.{Turns}
use Rattle.ss_grammar_programs.specs.Grammar.{push_after}
use Rattle.ss_decls.proofs.modified.parse_more_modified.Given as goal

abbrev pub invariant-loop-terms : goal.invariant-loop-terms
invariant-loop-terms l = record {
  turns : Turns (the symbol.Comma) (λ (_ : Place). modified_term l.depth) push_after (map modified_tree l.terms.items) (pieces l.rest) (times (the symbol.Comma) (λ (_ : Place). modified_term l.depth) push_after (length (pieces l.fn.tokens)) (map modified_tree l.fn.first.items) (pieces l.fn.tokens));
  fewer : length l.rest ≤ length l.fn.tokens;
}

abbrev pub decreases-loop-terms : goal.decreases-loop-terms
decreases-loop-terms l = length l.rest
