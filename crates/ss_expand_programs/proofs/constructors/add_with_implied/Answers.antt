use Rattle.std.proofs.Common.{map, take, drop, sym, ap, ◌∙◌}
use Rattle.std.specs.Prelude.{◌&&◌}
use Rattle.ss_typed.specs.Tree.{StmtTrees, Before, stmt_trees}
use Rattle.ss_typed.specs.View as typed
use Rattle.ss_expand_rules.specs.Code.{after}
use Rattle.ss_expand_rules.specs.Constructors.{before_all, base_alone}
use Rattle.ss_expand_rules.specs.Ends.{all_can_end}
use Rattle.ss_expand_rules.specs.Statements.{stmts}
use Rattle.ss_expand_expressions.specs.Sources.{stmts_of}
use Rattle.ss_expand_lifting.specs.Contexts.{context_of}
use Rattle.ss_expand_programs.proofs.Lists.{ends_all, rest_of}
use Rattle.ss_expand_programs.proofs.constructors.add_with_implied.Goals as goal

pub returns-clause-coded : goal.returns-clause-coded
returns-clause-coded c =
    let s = context_of c.args.context.now in
    let n = c.in_ok-length.length in
    let front = stmt_trees (map typed.stmt_of (take n c.args.stmts.now)) in
    c.in_ok-reached.ensures.coded
    ∙ ap (λ xs. after (stmts_of c.args.code.now.statements) (stmts s (before_all front (Before (base_alone s.body) (stmt_trees (map typed.stmt_of xs)))) c.args.made.now.items)) (rest_of n c.args.stmts.now)
    ∙ ap (λ (ss : StmtTrees). after (stmts_of c.args.code.now.statements) (stmts s ss c.args.made.now.items)) (sym (c.in_ok-length.ensures.split (base_alone s.body)))

pub returns-clause-ends : goal.returns-clause-ends
returns-clause-ends c =
    let s = context_of c.args.context.now in
    let n = c.in_ok-length.length in
    let front = stmt_trees (map typed.stmt_of (take n c.args.stmts.now)) in
    let others = stmt_trees (map typed.stmt_of (drop n c.args.stmts.now)) in
    let whole = Before (base_alone s.body) others in
    c.in_ok-reached.ensures.ends
    ∙ ap (λ xs. all_can_end (stmt_trees (map typed.stmt_of xs))) (rest_of n c.args.stmts.now)
    ∙ sym (ap all_can_end (c.in_ok-length.ensures.split (base_alone s.body)) ∙ ends_all front whole ∙ ap (λ b. b && all_can_end whole) c.in_ok-length.ensures.ends)
