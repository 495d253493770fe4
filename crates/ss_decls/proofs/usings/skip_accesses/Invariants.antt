use Rattle.std.proofs.Common.{length, ◌≤◌}
use Rattle.ss_grammar_expressions.specs.Heads.{is, pieces}
use Rattle.ss_grammar.specs.Reading.{take}
use Rattle.ss_grammar_expressions.specs.Parser.{give}
use Rattle.ss_core.specs.declared.names.Place.{Place}
use Rattle.ss_grammar_programs.specs.Again.{again}
use Rattle.ss_grammar_programs.specs.Heads.{an_access}
use Rattle.ss_grammar_programs.proofs.Rounds.{Rounds}
use Rattle.ss_decls.proofs.usings.skip_accesses.Given as goal

abbrev pub invariant-loop-after : goal.invariant-loop-after
invariant-loop-after l = record {
  turns : Rounds (λ (_ : Unit {0}). is an_access) (take an_access give) (λ a (_ : Place). a) tt (pieces l.rest) (again (λ (_ : Unit {0}). is an_access) (take an_access give) (λ a (_ : Place). a) (length (pieces l.fn.tokens)) tt (pieces l.fn.tokens));
  fewer : length l.rest ≤ length l.fn.tokens;
}

abbrev pub decreases-loop-after : goal.decreases-loop-after
decreases-loop-after l = length l.rest
