use Rattle.std.proofs.Common.{◌≡◌, suc, map, drop, option_map, sym, ap, ◌∙◌, add-one}
use Rattle.std.specs.Prelude.{◌&&◌}
use Rattle.ss_core.specs.View as core
use Rattle.ss_typed.specs.Tree.{Before, stmt_trees}
use Rattle.ss_typed.specs.View as typed
use Rattle.ss_expand_rules.specs.Code.{Coded, nothing, after}
use Rattle.ss_expand_rules.specs.Ends.{all_can_end}
use Rattle.ss_expand_rules.specs.Lifting.{value}
use Rattle.ss_expand_rules.specs.Statements.{begin, loop_while, stmt}
use Rattle.ss_expand_expressions.specs.Sources.{stmts_of}
use Rattle.ss_ast.proofs.Loops.{drop_item}
use Rattle.ss_expand_bodies.specs.Exposes.{opened_of}
use Rattle.ss_expand_lifting.specs.Contexts.{context_of}
use Rattle.ss_expand_programs.specs.Loops.{tested, turn_of}
use Rattle.ss_expand_programs.proofs.Codes.{coded, one_then, after_new, value_after_new, branched, looped, loop_tested, turned, exposed_by, stmts_where, next_stmt, ends_next}
use Rattle.ss_expand_programs.proofs.statements.+statements.Goals as goal

pub add_if-returns-clause-coded : goal.add_if-returns-clause-coded
add_if-returns-clause-coded t c =
    let s = context_of c.args.context.now in
    let f = stmt s (typed.stmt_of c.args.first.now) in
    let m1 = c.boxed_value.new.made.items in
    let m2 = c.add_stmt.new.made.items in
    let one = stmts_of c.add_stmt.new.code.statements in
    branched c.args.place (stmts_of c.args.code.now.statements) (stmts_of c.boxed_value.new.code.statements) (stmts_of c.add_branch.new.code.statements) one (stmts_of c.new-other.result.statements)
    (core.expr c.in_ok-test.test.value) m1 m2 m2 (value s (typed.expr c.args.e.now) c.args.made.now.items) f nothing
    c.in_ok-test.ensures
    (after_new (stmts_of c.new-one.result.statements) one m2 (f m1) c.new-one.ensures c.in_ok-add_stmt.ensures.coded)
    (ap (λ x. coded x m2) c.new-other.ensures)
    c.in_ok-add_branch.ensures

pub add_while-returns : goal.add_while-returns
add_while-returns t c =
    let s = context_of c.args.context.now in
    let f = stmt s (typed.stmt_of c.args.turn.now) in
    let v = value s (typed.expr c.args.guard.test.now) c.args.made.now.items in
    let m1 = c.boxed_value.new.made.items in
    let m2 = c.add_stmt.new.made.items in
    let prelude = stmts_of c.boxed_value.new.code.statements in
    let inner = stmts_of c.add_stmt.new.code.statements in
    let test = core.expr c.in_ok-test.test.value in
    looped s c.args.place (typed.exprs c.args.guard.invariants.now) (stmts_of c.args.code.now.statements) (stmts_of c.add_loop.new.code.statements) prelude inner test m1 m2 v f
    (value_after_new (stmts_of c.new-prelude.result.statements) prelude test m1 v c.new-prelude.ensures c.in_ok-test.ensures)
    (after_new (stmts_of c.new-inner.result.statements) inner m2 (f m1) c.new-inner.ensures c.in_ok-add_stmt.ensures.coded)
    c.in_ok-add_loop.ensures

pub add_turns-returns : goal.add_turns-returns
add_turns-returns t c =
    let s = context_of c.args.context.now in
    let a = typed.stmt_of c.args.turn.now in
    let x = option_map typed.simple_of c.args.heading.step.now in
    let e = option_map typed.expr c.args.heading.test.now in
    let p = c.args.written.place.now in
    let is = typed.exprs c.args.written.invariants.now in
    let before = stmts_of c.args.code.now.statements in
    let v = tested s p e c.args.made.now.items in
    let m1 = c.test_of.new.made.items in
    let m2 = c.add_stmt.new.made.items in
    let m3 = c.advance_where.new.made.items in
    let prelude = stmts_of c.test_of.new.code.statements in
    let inner = stmts_of c.advance_where.new.code.statements in
    let test = core.expr c.in_ok-test.test.value in
    looped s p is before (stmts_of c.add_loop.new.code.statements) prelude inner test m1 m3 v (turn_of s a x)
    (value_after_new (stmts_of c.new-prelude.result.statements) prelude test m1 v c.new-prelude.ensures c.in_ok-test.ensures)
    (turned s a x (stmts_of c.new-inner.result.statements) (stmts_of c.add_stmt.new.code.statements) inner m1 m2 m3 c.in_ok-reached.reached c.new-inner.ensures c.in_ok-reached.ensures.coded c.in_ok-reached.ensures.ends c.in_ok-advance_where.ensures)
    c.in_ok-add_loop.ensures
    ∙ ap (λ (y : Coded). after before y) (loop_tested s p is e (turn_of s a x) c.args.made.now.items)

pub add_for-returns : goal.add_for-returns
add_for-returns t c =
    let s = context_of c.args.context.now in
    let p = c.args.written.place.now in
    let i = option_map typed.init_of c.args.heading.first.now in
    let e = option_map typed.expr c.args.heading.test.now in
    let f = turn_of s (typed.stmt_of c.args.turn.now) (option_map typed.simple_of c.args.heading.step.now) in
    one_then (stmts_of c.args.code.now.statements) (stmts_of c.begin.new.code.statements) (stmts_of c.add_turns.new.code.statements) c.begin.new.made.items c.add_turns.new.made.items
    (begin s i c.args.made.now.items) (loop_while s p (typed.exprs c.args.written.invariants.now) e f) c.in_ok-begin.ensures c.in_ok-add_turns.ensures

pub add_expose-returns-clause-coded : goal.add_expose-returns-clause-coded
add_expose-returns-clause-coded t c =
    let s = context_of c.args.context.now in
    exposed_by s c.args.exposed.at.now (typed.expr c.args.exposed.object.now) (option_map (λ u. u.0) c.args.exposed.class.now) (typed.block c.args.block.now)
    (stmts_of c.args.code.now.statements) (stmts_of c.open.new.code.statements) (stmts_of c.add_block.new.code.statements) (stmts_of c.close.new.code.statements)
    c.args.made.now.items c.open.new.made.items c.add_block.new.made.items (opened_of c.in_ok-opened.opened) (context_of c.in_ok-inner.inner) c.in_ok-reached.reached
    c.in_ok-opened.ensures.coded c.in_ok-opened.ensures.opened
    c.in_ok-inner.ensures
    c.in_ok-reached.ensures.coded c.in_ok-reached.ensures.ends c.in_ok-close.ensures

pub add_stmts-loop-stmt-preserved : goal.add_stmts-loop-stmt-preserved
add_stmts-loop-stmt-preserved t c =
    let s = context_of c.args.context.now in
    let all = c.args.stmts.now in
    let i = c.loop-stmt.stmt-index in
    let x = c.stmt-item.result in
    let x' = typed.stmt_of x in
    let rest = stmt_trees (map typed.stmt_of (drop (suc i) all)) in
    let before = c.loop-stmt.reached in
    let here : stmt_trees (map typed.stmt_of (drop i all)) ≡ Before x' rest = ap (λ xs. stmt_trees (map typed.stmt_of xs)) (drop_item all i x c.loop-stmt-test.true c.stmt-item.is) in
    let code = stmts_of c.add_where.new.code.statements in
    let made = c.add_where.new.made.items in
    record {
      code =
          ap (λ k. after code (stmts_where c.in_ok-reached.reached s (stmt_trees (map typed.stmt_of (drop k all))) made)) (add-one i)
          ∙ ap (λ b. after code (stmts_where b s rest made)) c.in_ok-reached.ensures.ends
          ∙ next_stmt s x' rest (stmts_of c.loop-stmt.code.statements) code c.loop-stmt.made.items made before c.in_ok-reached.ensures.coded
          ∙ ap (λ xs. after (stmts_of c.loop-stmt.code.statements) (stmts_where before s xs c.loop-stmt.made.items)) (sym here)
          ∙ c.loop-stmt.invariant.code;
      ends =
          ap (λ k. c.in_ok-reached.reached && all_can_end (stmt_trees (map typed.stmt_of (drop k all)))) (add-one i)
          ∙ ap (λ b. b && all_can_end rest) c.in_ok-reached.ensures.ends
          ∙ ends_next x' rest before
          ∙ ap (λ xs. before && all_can_end xs) (sym here)
          ∙ c.loop-stmt.invariant.ends;
    }
