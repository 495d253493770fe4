use Rattle.std.proofs.Common.{length, map, ◌≤◌, [], List}
use Rattle.ss_grammar_expressions.specs.Heads.{pieces}
use Rattle.ss_grammar_programs.specs.Heads.{begins_class}
use Rattle.ss_grammar_programs.specs.Parser.{class_decl}
use Rattle.ss_ast.specs.Programs.{class_tree}
use Rattle.ss_ast.specs.Programs.{ClassTree}
use Rattle.ss_grammar_programs.specs.Again.{again}
use Rattle.ss_grammar_programs.proofs.Rounds.{Rounds}
use Rattle.ss_grammar_programs.specs.Grammar.{push}
use Rattle.ss_decls.proofs.classes.parse_classes.Given as goal

abbrev pub invariant-loop-list : goal.invariant-loop-list
invariant-loop-list l = record {
  turns : Rounds (λ (_ : List ClassTree). begins_class) (class_decl l.depth) push (map class_tree l.list.items) (pieces l.rest) (again (λ (_ : List ClassTree). begins_class) (class_decl l.depth) push (length (pieces l.fn.tokens)) [] (pieces l.fn.tokens));
  fewer : length l.rest ≤ length l.fn.tokens;
}

abbrev pub decreases-loop-list : goal.decreases-loop-list
decreases-loop-list l = length l.rest
