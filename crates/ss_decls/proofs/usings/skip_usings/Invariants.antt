use Rattle.std.proofs.Common.{length, ◌≤◌}
use Rattle.ss_core.specs.declared.names.Place.{Place}
use Rattle.ss_ast.specs.declared.token.Word.TheVariants as word
use Rattle.ss_grammar.specs.Reading.{times}
use Rattle.ss_grammar.proofs.Turns.{Turns}
use Rattle.ss_grammar_expressions.specs.Heads.{the_word, pieces}
use Rattle.ss_grammar_programs.specs.Grammar.{dropped}
use Rattle.ss_grammar_programs.specs.Parser.{using_end}
use Rattle.ss_decls.proofs.usings.skip_usings.Given as goal

abbrev pub invariant-loop-after : goal.invariant-loop-after
invariant-loop-after l = record {
  turns : Turns (the_word word.Using) (λ (_ : Place). using_end) dropped tt (pieces l.rest) (times (the_word word.Using) (λ (_ : Place). using_end) dropped (length (pieces l.fn.tokens)) tt (pieces l.fn.tokens));
  fewer : length l.rest ≤ length l.fn.tokens;
}

abbrev pub decreases-loop-after : goal.decreases-loop-after
decreases-loop-after l = length l.rest
