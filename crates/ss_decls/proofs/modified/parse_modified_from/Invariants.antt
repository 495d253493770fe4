use Rattle.std.proofs.Common.{length, map, ◌≤◌}
use Rattle.ss_ast.specs.Expressions.{expr_tree, grouped}
use Rattle.ss_ast.specs.Parts.{postfix_after}
use Rattle.ss_grammar_expressions.specs.Heads.{pieces}
use Rattle.ss_grammar_programs.specs.Grammar.{Path, path_goes, stepped}
use Rattle.ss_grammar_programs.specs.Parser.{step, steps}
use Rattle.ss_grammar_programs.proofs.Rounds.{Rounds}
use Rattle.ss_decls.proofs.modified.parse_modified_from.Given as goal

abbrev pub invariant-loop-postfixes : goal.invariant-loop-postfixes
invariant-loop-postfixes l = record {
  turns : Rounds path_goes (step l.depth) (stepped l.place) (Path (grouped l.place (expr_tree l.first.value) (map postfix_after l.postfixes.items))) (pieces l.rest) (steps l.place l.depth (expr_tree l.fn.first.value) (pieces l.fn.tokens));
  fewer : length l.rest ≤ length l.fn.tokens;
}

abbrev pub decreases-loop-postfixes : goal.decreases-loop-postfixes
decreases-loop-postfixes l = length l.rest
