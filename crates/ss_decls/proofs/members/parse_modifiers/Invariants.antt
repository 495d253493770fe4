use Rattle.std.proofs.Common.{length, ◌≤◌, List, []}
use Rattle.ss_ast.specs.declared.class.Modifier.{Modifier}
use Rattle.ss_grammar.specs.Reading.{take}
use Rattle.ss_grammar_expressions.specs.Heads.{is, pieces}
use Rattle.ss_grammar_expressions.specs.Parser.{give}
use Rattle.ss_grammar_programs.specs.Again.{again}
use Rattle.ss_grammar_programs.specs.Heads.{member_word}
use Rattle.ss_grammar_programs.specs.Grammar.{join_word}
use Rattle.ss_grammar_programs.proofs.Rounds.{Rounds}
use Rattle.ss_decls.proofs.members.parse_modifiers.Given as goal

abbrev pub invariant-loop-said : goal.invariant-loop-said
invariant-loop-said l = record {
  turns : Rounds (λ (_ : List Modifier). is member_word) (take member_word give) join_word l.modifiers.items (pieces l.rest) (again (λ (_ : List Modifier). is member_word) (take member_word give) join_word (length (pieces l.fn.tokens)) [] (pieces l.fn.tokens));
  fewer : length l.rest ≤ length l.fn.tokens;
}

abbrev pub decreases-loop-said : goal.decreases-loop-said
decreases-loop-said l = length l.rest
