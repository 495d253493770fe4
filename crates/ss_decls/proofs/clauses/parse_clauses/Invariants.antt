use Rattle.std.proofs.Common.{length, map, ◌≤◌, []}
use Rattle.ss_grammar_expressions.specs.Heads.{pieces}
use Rattle.ss_grammar_programs.specs.Heads.{clause_head}
use Rattle.ss_grammar_programs.specs.Parser.{clause_after}
use Rattle.ss_ast.specs.Programs.{clause_tree}
use Rattle.ss_grammar.specs.Reading.{times}
use Rattle.ss_grammar.proofs.Turns.{Turns}
use Rattle.ss_grammar_programs.specs.Grammar.{push_after}
use Rattle.ss_decls.proofs.clauses.parse_clauses.Given as goal

abbrev pub invariant-loop-list : goal.invariant-loop-list
invariant-loop-list l = record {
  turns : Turns clause_head (clause_after l.depth) push_after (map clause_tree l.list.items) (pieces l.rest) (times clause_head (clause_after l.depth) push_after (length (pieces l.fn.tokens)) [] (pieces l.fn.tokens));
  fewer : length l.rest ≤ length l.fn.tokens;
}

abbrev pub decreases-loop-list : goal.decreases-loop-list
decreases-loop-list l = length l.rest
