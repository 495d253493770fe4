use Rattle.std.proofs.Common.{◌≡◌, ◌++◌, ℕ, map, ap, sym, ◌∙◌, List}
use Rattle.std.specs.Prelude.{option_map}
use Rattle.std.proofs.lemmas.Result.{IfOk-weaker, on_ok_weaker}
use Rattle.ss_typed.specs.declared.stmt.TypedStmt.{TypedStmt}
use Rattle.ss_typed.specs.Tree.{StmtTree, BlockTree, IfOf, IfElseOf, WhileOf, ForOf, stmt_trees}
use Rattle.ss_typed.specs.View.{expr, exprs, simple_of, init_of, block, stmt_of, stmt_step, block_step}
use Rattle.ss_typed.specs.declared.stmt.TypedBlock.{out-TypedBlock}
use Rattle.ss_typed.specs.declared.stmt.TypedStmt.TheFolds.{fold_out-TypedBlock}
use Rattle.ss_nonnull_rules.specs.Faults.{inside}
use Rattle.ss_nonnull_seen.proofs.Seeing.{joined}
use Rattle.ss_paths.specs.Sets.{among}
use Rattle.ss_nonnull_seen.specs.Codes.{path_of, context_of, seen_of}
use Rattle.ss_nonnull_seen.specs.Paths.{told, left_by}
use Rattle.ss_nonnull.specs.Walks.{known_behind, known_after_block, known_at_end, stmt_faults, block_faults}
use Rattle.ss_nonnull.proofs.Shapes.{if_shape, else_shape, while_shape, for_shape, expose_shape}
use Rattle.ss_nonnull.proofs.Statements.{block_is, if_noted, else_noted, while_known, while_noted, for_known, for_noted, one_known, one_noted, all_known, all_noted}
use Rattle.ss_nonnull.proofs.stmts.+stmt.Goals as goal

pub check_while-returns : goal.check_while-returns
check_while-returns t c =
    let s = context_of c.args.context.now in
    let k = path_of c.args.known in
    let f = c.args.found.now.items in
    let e = expr c.args.test.now in
    let st = stmt_of c.args.body.now in
    let head = path_of c.in_ok-head.head in
    let v = seen_of c.in_ok-seen.seen in
    record {
      known = λ p es.
          while_known s p e es st v k head _ c.in_ok-head.ensures c.in_ok-seen.ensures.seen
          (c.in_ok-behind.ensures ∙ ap (λ (xs : List ℕ). left_by v.is_true (among xs) head) c.deref-2.ensures.value);
      noted = λ p es.
          while_noted s p e es st v k head _ f _ _ c.in_ok-head.ensures c.in_ok-seen.ensures.seen
          (c.in_ok-repeated.ensures ∙ ap (λ (xs : List ℕ). option_map (told (among xs)) head) c.deref.ensures.value)
          c.in_ok-seen.ensures.noted c.in_ok-check_stmt.ensures.noted;
    }

pub check_stmt-returns-in-While : goal.check_stmt-returns-in-While
check_stmt-returns-in-While t c =
    let a = c.in-While in
    let s = context_of c.args.context.now in
    let k = path_of c.args.known in
    let f = c.args.found.now.items in
    let es = exprs a.field-2.items in
    let whole : WhileOf a.field-0 (expr a.test) es (stmt_of c.deref-in-While.result.now) ≡ stmt_of c.args.stmt.now =
    ap (λ (b : TypedStmt). WhileOf a.field-0 (expr a.test) es (stmt_of b)) c.deref-in-While.ensures ∙ sym (ap stmt_of a.is ∙ while_shape a.field-0 a.test a.field-2 a.body) in
    record {
      known = IfOk-weaker c.check_while.result _ (λ r. path_of r ≡ known_behind s (stmt_of c.args.stmt.now) k) (λ r h. h ∙ ap (λ (x : StmtTree). known_behind s x k) whole) (c.check_while.ensures.known a.field-0 es);
      noted = on_ok_weaker c.check_while.result (λ h. h ∙ ap (λ (x : StmtTree). f ++ stmt_faults s x k) whole) (c.check_while.ensures.noted a.field-0 es);
    }

pub check_for-returns : goal.check_for-returns
check_for-returns t c =
    let s = context_of c.args.context.now in
    let k = path_of c.args.known in
    let f = c.args.found.now.items in
    let p = c.args.place in
    let first = option_map init_of c.args.heading.first.now in
    let e = option_map expr c.args.heading.test.now in
    let step = option_map simple_of c.args.heading.step.now in
    let st = stmt_of c.args.body.now in
    let begun = path_of c.in_ok-begun.begun in
    let head = path_of c.in_ok-head.head in
    let repeated = path_of c.in_ok-repeated.repeated in
    let v = seen_of c.in_ok-seen.seen in
    record {
      known = λ es.
          for_known s p first e step es st v k begun head _ c.in_ok-begun.ensures.known c.in_ok-head.ensures c.in_ok-seen.ensures.seen
          (c.in_ok-behind.ensures ∙ ap (λ (xs : List ℕ). left_by v.is_true (among xs) head) c.deref-2.ensures.value);
      noted = λ es.
          for_noted s p first e step es st v k begun head repeated _ f _ _ _ _ c.in_ok-begun.ensures.known c.in_ok-head.ensures c.in_ok-seen.ensures.seen
          (c.in_ok-repeated.ensures ∙ ap (λ (xs : List ℕ). option_map (told (among xs)) head) c.deref.ensures.value)
          c.in_ok-end.ensures.known c.in_ok-begun.ensures.noted c.in_ok-seen.ensures.noted c.in_ok-end.ensures.noted c.in_ok-check_step.ensures;
    }

pub check_stmt-returns-in-For : goal.check_stmt-returns-in-For
check_stmt-returns-in-For t c =
    let a = c.in-For in
    let s = context_of c.args.context.now in
    let k = path_of c.args.known in
    let f = c.args.found.now.items in
    let first = option_map init_of a.first in
    let e = option_map expr a.test in
    let step = option_map simple_of a.step in
    let es = exprs a.invariants.items in
    let whole : ForOf a.place first e step es (stmt_of c.deref-in-For.result.now) ≡ stmt_of c.args.stmt.now =
    ap (λ (b : TypedStmt). ForOf a.place first e step es (stmt_of b)) c.deref-in-For.ensures ∙ sym (ap stmt_of a.is ∙ for_shape a.place a.first a.test a.step a.invariants a.body) in
    record {
      known = IfOk-weaker c.check_for.result _ (λ r. path_of r ≡ known_behind s (stmt_of c.args.stmt.now) k) (λ r h. h ∙ ap (λ (x : StmtTree). known_behind s x k) whole) (c.check_for.ensures.known es);
      noted = on_ok_weaker c.check_for.result (λ h. h ∙ ap (λ (x : StmtTree). f ++ stmt_faults s x k) whole) (c.check_for.ensures.noted es);
    }

pub check_stmt-returns-in-If-clause-noted : goal.check_stmt-returns-in-If-clause-noted
check_stmt-returns-in-If-clause-noted t c =
    let a = c.in-If in
    let s = context_of c.args.context.now in
    let k = path_of c.args.known in
    let f = c.args.found.now.items in
    let e = expr a.test in
    let st = stmt_of a.first.value in
    let holding = path_of c.in_ok-holding-in-If.holding in
    let whole : stmt_of c.args.stmt.now ≡ IfOf a.field-0 e st = ap stmt_of a.is ∙ if_shape a.field-0 a.test a.first a.second c.in-None.is in
    let holds = c.in_ok-holding-in-If.ensures ∙ ap (λ (xs : List ℕ). option_map (told (among xs)) k) c.deref-in-If.ensures.value in
    if_noted s a.field-0 e st (seen_of c.in_ok-seen-in-If.seen) k holding f _ _ c.in_ok-seen-in-If.ensures.seen holds c.in_ok-seen-in-If.ensures.noted
    (c.in_ok-one-in-If.ensures.noted ∙ ap (λ (b : TypedStmt). c.check.new.found.items ++ stmt_faults s (stmt_of b) holding) c.deref-in-If-3.ensures)
    ∙ ap (λ (x : StmtTree). f ++ stmt_faults s x k) (sym whole)

pub check_stmt-returns-in-Some-clause-noted : goal.check_stmt-returns-in-Some-clause-noted
check_stmt-returns-in-Some-clause-noted t c =
    let a = c.in-If in
    let s = context_of c.args.context.now in
    let k = path_of c.args.known in
    let f = c.args.found.now.items in
    let e = expr a.test in
    let x = stmt_of a.first.value in
    let y = stmt_of c.in-Some.second.value in
    let holding = path_of c.in_ok-holding-in-If.holding in
    let failing = path_of c.in_ok-failing-in-If.failing in
    let whole : stmt_of c.args.stmt.now ≡ IfElseOf a.field-0 e x y = ap stmt_of a.is ∙ else_shape a.field-0 a.test a.first c.in-Some.second a.second c.in-Some.is in
    let holds = c.in_ok-holding-in-If.ensures ∙ ap (λ (xs : List ℕ). option_map (told (among xs)) k) c.deref-in-If.ensures.value in
    let fails = c.in_ok-failing-in-If.ensures ∙ ap (λ (xs : List ℕ). option_map (told (among xs)) k) c.deref-in-If-2.ensures.value in
    else_noted s a.field-0 e x y (seen_of c.in_ok-seen-in-If.seen) k holding failing f _ _ _ c.in_ok-seen-in-If.ensures.seen holds fails c.in_ok-seen-in-If.ensures.noted
    (c.in_ok-one-in-If.ensures.noted ∙ ap (λ (b : TypedStmt). c.check.new.found.items ++ stmt_faults s (stmt_of b) holding) c.deref-in-If-3.ensures)
    (c.in_ok-check_stmt-in-Some.ensures.noted ∙ ap (λ (b : TypedStmt). c.check_stmt.new.found.items ++ stmt_faults s (stmt_of b) failing) c.deref-in-Some.ensures)
    ∙ ap (λ (z : StmtTree). f ++ stmt_faults s z k) (sym whole)

pub check_stmt-returns-in-Expose-clause-noted : goal.check_stmt-returns-in-Expose-clause-noted
check_stmt-returns-in-Expose-clause-noted t c =
    let a = c.in-Expose in
    let s = context_of c.args.context.now in
    let k = path_of c.args.known in
    let f = c.args.found.now.items in
    joined f _ _ (inside s k (expr a.e)) (block_faults s (block a.inner) k) c.in_ok-check-in-Expose.ensures.noted c.in_ok-behind-in-Expose.ensures.noted
    ∙ ap (λ (x : StmtTree). f ++ stmt_faults s x k) (sym (ap stmt_of a.is ∙ expose_shape a.field-0 a.e a.field-2 a.inner))

pub check_block-returns-clause-known : goal.check_block-returns-clause-known
check_block-returns-clause-known t c =
    let s = context_of c.args.context.now in
    let k = path_of c.args.known in
    let b = c.args.inner.now in
    c.in_ok-behind.ensures.known
    ∙ ap (λ (xs : List TypedStmt). known_at_end s (stmt_trees (map stmt_of xs)) k) c.deref.ensures.value
    ∙ block_is s (out-TypedBlock b).place (out-TypedBlock b).end (stmt_trees (map stmt_of (out-TypedBlock b).statements.items)) k
    ∙ ap (λ (x : BlockTree). known_after_block s x k) (sym (fold_out-TypedBlock StmtTree BlockTree stmt_step block_step b))

pub check_all-loop-stmt-preserved : goal.check_all-loop-stmt-preserved
check_all-loop-stmt-preserved t c =
    let s = context_of c.args.context.now in
    let l = c.loop-stmt in
    record {
      known = one_known s c.args.stmts.now l.stmt-index c.stmt-item.result (path_of l.reached) _ _ c.loop-stmt-test.true c.stmt-item.is c.in_ok-reached.ensures.known l.invariant.known;
      noted =
          one_noted s c.args.stmts.now l.stmt-index c.stmt-item.result (path_of l.reached) _ l.found.items _ _ c.loop-stmt-test.true c.stmt-item.is
          c.in_ok-reached.ensures.known c.in_ok-reached.ensures.noted l.invariant.noted;
    }

pub check_all-returns : goal.check_all-returns
check_all-returns t c =
    let s = context_of c.args.context.now in
    let l = c.loop-stmt in
    record {
      known = all_known s c.args.stmts.now l.stmt-index (path_of l.reached) _ c.loop-stmt-test.false l.invariant.known;
      noted = all_noted s c.args.stmts.now l.stmt-index (path_of l.reached) l.found.items _ c.loop-stmt-test.false l.invariant.noted;
    }
