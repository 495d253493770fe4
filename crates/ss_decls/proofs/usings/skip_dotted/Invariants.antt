use Rattle.std.proofs.Common.{length, ◌≤◌}
use Rattle.ss_core.specs.declared.names.Place.{Place}
use Rattle.ss_ast.specs.declared.token.Symbol.TheVariants as symbol
use Rattle.ss_grammar.specs.Reading.{times}
use Rattle.ss_grammar.proofs.Turns.{Turns}
use Rattle.ss_grammar_expressions.specs.Heads.{the, pieces}
use Rattle.ss_grammar_programs.specs.Grammar.{dropped}
use Rattle.ss_grammar_programs.specs.Parser.{skipped_name}
use Rattle.ss_decls.proofs.usings.skip_dotted.Given as goal

abbrev pub invariant-loop-after : goal.invariant-loop-after
invariant-loop-after l = record {
  turns : Turns (the symbol.Dot) (λ (_ : Place). skipped_name) dropped tt (pieces l.rest) (times (the symbol.Dot) (λ (_ : Place). skipped_name) dropped (length (pieces l.fn.tokens)) tt (pieces l.fn.tokens));
  fewer : length l.rest ≤ length l.fn.tokens;
}

abbrev pub decreases-loop-after : goal.decreases-loop-after
decreases-loop-after l = length l.rest
