use Rattle.std.proofs.Common.{◌≡◌, map, drop}
use Rattle.std.specs.Prelude.{◌&&◌}
use Rattle.ss_typed.specs.Tree.{stmt_trees}
use Rattle.ss_typed.specs.View.{stmt_of}
use Rattle.ss_expand_rules.specs.Code.{after}
use Rattle.ss_expand_rules.specs.Ends.{all_can_end}
use Rattle.ss_expand_rules.specs.Statements.{stmts}
use Rattle.ss_expand_expressions.specs.Sources.{stmts_of}
use Rattle.ss_expand_lifting.specs.Contexts.{context_of}
use Rattle.ss_expand_programs.proofs.Codes.{stmts_where}
use Rattle.ss_expand_programs.proofs.statements.+statements.Given as goal

abbrev pub invariant-add_stmts-loop-stmt : goal.invariant-add_stmts-loop-stmt
invariant-add_stmts-loop-stmt l =
    let rest = stmt_trees (map stmt_of (drop l.stmt-index l.stmts)) in
    let all = stmt_trees (map stmt_of l.stmts) in
    record {
      code : after (stmts_of l.code.statements) (stmts_where l.reached (context_of l.context) rest l.made.items) ≡ after (stmts_of l.fn.code.statements) (stmts (context_of l.context) all l.fn.made.items);
      ends : (l.reached && all_can_end rest) ≡ all_can_end all;
    }
