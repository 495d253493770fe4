use Rattle.std.proofs.Common.{length, map, ◌≤◌, [], List}
use Rattle.ss_grammar_expressions.specs.Heads.{pieces}
use Rattle.ss_grammar_programs.specs.Heads.{begins_member}
use Rattle.ss_grammar_programs.specs.Parser.{member}
use Rattle.ss_ast.specs.Programs.{member_tree}
use Rattle.ss_ast.specs.Programs.{MemberTree}
use Rattle.ss_grammar_programs.specs.Again.{again}
use Rattle.ss_grammar_programs.proofs.Rounds.{Rounds}
use Rattle.ss_grammar_programs.specs.Grammar.{push}
use Rattle.ss_decls.proofs.members.parse_members.Given as goal

abbrev pub invariant-loop-list : goal.invariant-loop-list
invariant-loop-list l = record {
  turns : Rounds (λ (_ : List MemberTree). begins_member) (member l.depth) push (map member_tree l.list.items) (pieces l.rest) (again (λ (_ : List MemberTree). begins_member) (member l.depth) push (length (pieces l.fn.tokens)) [] (pieces l.fn.tokens));
  fewer : length l.rest ≤ length l.fn.tokens;
}

abbrev pub decreases-loop-list : goal.decreases-loop-list
decreases-loop-list l = length l.rest
