use Rattle.std.proofs.Common.{length, map, ◌≤◌}
use Rattle.ss_ast.specs.declared.token.Symbol.TheVariants as symbol
use Rattle.ss_grammar_expressions.specs.Heads.{the, pieces}
use Rattle.ss_core.specs.declared.names.Place.{Place}
use Rattle.ss_grammar_programs.specs.Parser.{parameter}
use Rattle.ss_ast.specs.Programs.{param_tree}
use Rattle.ss_grammar.specs.Reading.{times}
use Rattle.ss_grammar.proofs.Turns.{Turns}
use Rattle.ss_grammar_programs.specs.Grammar.{push_after}
use Rattle.ss_decls.proofs.params.parse_more_params.Given as goal

abbrev pub invariant-loop-params : goal.invariant-loop-params
invariant-loop-params l = record {
  turns : Turns (the symbol.Comma) (λ (_ : Place). parameter l.depth) push_after (map param_tree l.params.items) (pieces l.rest) (times (the symbol.Comma) (λ (_ : Place). parameter l.depth) push_after (length (pieces l.fn.tokens)) (map param_tree l.fn.first.items) (pieces l.fn.tokens));
  fewer : length l.rest ≤ length l.fn.tokens;
}

abbrev pub decreases-loop-params : goal.decreases-loop-params
decreases-loop-params l = length l.rest
