use Rattle.std.proofs.Common.{arith, rules, ◌++◌, List, map, drop, refl, sym, subst, ap, ◌∙◌, ◌+◌, true, false}
use Rattle.std.proofs.lemmas.List.{drop_all}
use Rattle.std.specs.Prelude.{option_map}
use Rattle.ss_core.specs.declared.expr.Expr.{Expr}
use Rattle.ss_core.specs.declared.names.ClassId.{ClassId}
use Rattle.ss_core.specs.declared.names.FieldId.{FieldId}
use Rattle.ss_core.specs.declared.names.Kind.TheVariants as kind
use Rattle.ss_core.specs.declared.names.Mark.{Mark}
use Rattle.ss_core.specs.declared.names.Place.{Place}
use Rattle.ss_core.specs.declared.stmt.Exposed.{Exposed}
use Rattle.ss_core.specs.declared.stmt.Loop.{out-Loop}
use Rattle.ss_core.specs.declared.stmt.Stmt.{Stmt, the_lemmas}
use Rattle.ss_core.specs.Tree.{CodeTree, StmtTree}
use Rattle.ss_core.specs.View.{block, callee_tree, expr, exprs, exposed_tree, stmt_of}
use Rattle.ss_store_rules.specs.Locals.{receiver}
use Rattle.ss_store_rules.specs.NonNull.{known_tested, known_met}
use Rattle.ss_terms.specs.Forms.{Forms}
use Rattle.ss_terms.proofs.Grown.{IsGrown-then}
use Rattle.ss_vcgen_heaps.specs.Positions.{Position, Guard, When, assume, check, evaluate, holds_at, if_reached, join, second_side}
use Rattle.ss_vcgen_heaps.specs.Obligations as spec
use Rattle.ss_vcgen_heaps.specs.Obligations.{behind, behind_all, with_known}
use Rattle.ss_vcgen_builder.specs.Builder.{at_spot, guard_of, position_at, walk_at}
use Rattle.ss_vcgen_builder.proofs.Builds.{HasSpot-grown, IsSpot-grown, IsWalk-grown, join_spot, on_ok}
use Rattle.ss_vcgen_statements.proofs.Evaluated.{drop_next}
use Rattle.ss_vcgen_known.proofs.Assigning.{if_is}
use Rattle.ss_vcgen_statements.proofs.Going.{here, none_gone, gone_on, all_gone, never_gone}
use Rattle.ss_vcgen_statements.proofs.Steps.{Along, then, so, stays}
use Rattle.ss_vcgen_bodies.specs.Words.{other_side, exit_side, head_checked, head_reached, turned}
use Rattle.ss_vcgen_bodies.proofs.Spots.{spot_so, spot_gone}
use Rattle.ss_vcgen.specs.Behind.{place_of, assigned, written, element_written, made_ready, branched, gone_round, gone_if_reached, looped}
use Rattle.ss_vcgen_bodies.proofs.Arms.{arm, is_reached, never}
use Rattle.ss_vcgen.proofs.Trees.{assign_is, write_is, write_element_is, new_is, new_array_is, call_is, ready_is, unpack_is, pack_is, assert_is, assume_is, print_is, print_text_is, return_is, looped_is}
use Rattle.ss_vcgen.proofs.behind.+statements.Goals as goal

pub behind-returns-in-Assign : goal.behind-returns-in-Assign
behind-returns-in-Assign t c =
    let a = c.in-Assign in
    let s = c.args.builder.now in
    let w = λ (b : Forms). walk_at b c.args.walk.now in
    let P = λ (b : Forms). position_at b s in
    let T = stmt_of c.args.stmt.now in
    let is = ap stmt_of a.is ∙ assign_is a.field-0 a.x a.e in
    arm c.assign.result s c.assign.new.builder (λ b. with_known (w b) T (P b).known (assigned (w b) a.x (expr a.e) (P b))) (λ b. behind (w b) T (P b))
    (λ b. ap (λ (st : StmtTree). with_known (w b) st (P b).known (assigned (w b) a.x (expr a.e) (P b))) is ∙ sym (ap (λ (st : StmtTree). behind (w b) st (P b)) is)) c.assign.ensures

pub behind-returns-in-Write : goal.behind-returns-in-Write
behind-returns-in-Write t c =
    let a = c.in-Write in
    let s = c.args.builder.now in
    let w = λ (b : Forms). walk_at b c.args.walk.now in
    let P = λ (b : Forms). position_at b s in
    let T = stmt_of c.args.stmt.now in
    let is = ap stmt_of a.is ∙ write_is a.place a.object a.field a.mark a.class a.value in
    let target = c.new-target.result in
    let made = c.new-target.ensures in
    let wrote = λ (b : Forms) (p : Place) (o : Expr) (f : FieldId) (m : Mark) (k : ClassId). with_known (w b) T (P b).known (written (w b) p (expr o) f.0 m k.0 (expr a.value) (P b)) in
    arm c.write.result s c.write.new.builder (λ b. wrote b target.place target.object.now target.field target.mark target.class) (λ b. behind (w b) T (P b))
    (λ b.
    ap (λ (p : Place). wrote b p target.object.now target.field target.mark target.class) made.place
    ∙ ap (λ (o : Expr). wrote b a.place o target.field target.mark target.class) made.object
    ∙ ap (λ (f : FieldId). wrote b a.place a.object f target.mark target.class) made.field
    ∙ ap (λ (m : Mark). wrote b a.place a.object a.field m target.class) made.mark
    ∙ ap (λ (k : ClassId). wrote b a.place a.object a.field a.mark k) made.class
    ∙ ap (λ (st : StmtTree). with_known (w b) st (P b).known (written (w b) a.place (expr a.object) a.field.0 a.mark a.class.0 (expr a.value) (P b))) is
    ∙ sym (ap (λ (st : StmtTree). behind (w b) st (P b)) is)) c.write.ensures

pub behind-returns-in-WriteElement : goal.behind-returns-in-WriteElement
behind-returns-in-WriteElement t c =
    let a = c.in-WriteElement in
    let s = c.args.builder.now in
    let w = λ (b : Forms). walk_at b c.args.walk.now in
    let P = λ (b : Forms). position_at b s in
    let T = stmt_of c.args.stmt.now in
    let is = ap stmt_of a.is ∙ write_element_is a.field-0 a.a a.i a.value in
    arm c.write_element.result s c.write_element.new.builder (λ b. with_known (w b) T (P b).known (element_written (w b) (place_of T) (expr a.a) (expr a.i) (expr a.value) (P b))) (λ b. behind (w b) T (P b))
    (λ b. ap (λ (st : StmtTree). with_known (w b) st (P b).known (element_written (w b) (place_of st) (expr a.a) (expr a.i) (expr a.value) (P b))) is ∙ sym (ap (λ (st : StmtTree). behind (w b) st (P b)) is)) c.write_element.ensures

pub behind-returns-in-New : goal.behind-returns-in-New
behind-returns-in-New t c =
    let a = c.in-New in
    let s = c.args.builder.now in
    let w = λ (b : Forms). walk_at b c.args.walk.now in
    let P = λ (b : Forms). position_at b s in
    let T = stmt_of c.args.stmt.now in
    let is = ap stmt_of a.is ∙ new_is a.field-0 a.x a.class a.es in
    arm c.create.result s c.create.new.builder (λ b. with_known (w b) T (P b).known (spec.construct (w b) (place_of T) a.x a.class.0 (exprs c.deref.result.now) (P b))) (λ b. behind (w b) T (P b))
    (λ b. ap (λ (ys : List Expr). with_known (w b) T (P b).known (spec.construct (w b) (place_of T) a.x a.class.0 (exprs ys) (P b))) c.deref.ensures.value ∙ ap (λ (st : StmtTree). with_known (w b) st (P b).known (spec.construct (w b) (place_of st) a.x a.class.0 (exprs a.es.items) (P b))) is ∙ sym (ap (λ (st : StmtTree). behind (w b) st (P b)) is)) c.create.ensures

pub behind-returns-in-NewArray : goal.behind-returns-in-NewArray
behind-returns-in-NewArray t c =
    let a = c.in-NewArray in
    let s = c.args.builder.now in
    let w = λ (b : Forms). walk_at b c.args.walk.now in
    let P = λ (b : Forms). position_at b s in
    let T = stmt_of c.args.stmt.now in
    let is = ap stmt_of a.is ∙ new_array_is a.field-0 a.x a.class a.e in
    arm c.create_array.result s c.create_array.new.builder (λ b. with_known (w b) T (P b).known (spec.new_array (w b) (place_of T) a.x a.class.0 (expr a.e) (P b))) (λ b. behind (w b) T (P b))
    (λ b. ap (λ (st : StmtTree). with_known (w b) st (P b).known (spec.new_array (w b) (place_of st) a.x a.class.0 (expr a.e) (P b))) is ∙ sym (ap (λ (st : StmtTree). behind (w b) st (P b)) is)) c.create_array.ensures

pub behind-returns-in-Call : goal.behind-returns-in-Call
behind-returns-in-Call t c =
    let a = c.in-Call in
    let s = c.args.builder.now in
    let w = λ (b : Forms). walk_at b c.args.walk.now in
    let P = λ (b : Forms). position_at b s in
    let T = stmt_of c.args.stmt.now in
    let is = ap stmt_of a.is ∙ call_is a.field-0 a.x a.callee a.es in
    arm c.call.result s c.call.new.builder (λ b. with_known (w b) T (P b).known (spec.call_with (w b) (place_of T) a.x (callee_tree a.callee) (receiver (callee_tree a.callee) ++ exprs c.deref-in-Call.result.now) (P b))) (λ b. behind (w b) T (P b))
    (λ b. ap (λ (ys : List Expr). with_known (w b) T (P b).known (spec.call_with (w b) (place_of T) a.x (callee_tree a.callee) (receiver (callee_tree a.callee) ++ exprs ys) (P b))) c.deref-in-Call.ensures.value ∙ ap (λ (st : StmtTree). with_known (w b) st (P b).known (spec.call_with (w b) (place_of st) a.x (callee_tree a.callee) (receiver (callee_tree a.callee) ++ exprs a.es.items) (P b))) is ∙ sym (ap (λ (st : StmtTree). behind (w b) st (P b)) is)) c.call.ensures

pub behind-returns-in-Ready : goal.behind-returns-in-Ready
behind-returns-in-Ready t c =
    let a = c.in-Ready in
    let s = c.args.builder.now in
    let w = λ (b : Forms). walk_at b c.args.walk.now in
    let P = λ (b : Forms). position_at b s in
    let T = stmt_of c.args.stmt.now in
    let is = ap stmt_of a.is ∙ ready_is a.field-0 in
    arm c.ready.result s c.ready.new.builder (λ b. with_known (w b) T (P b).known (made_ready (P b))) (λ b. behind (w b) T (P b))
    (λ b. ap (λ (st : StmtTree). with_known (w b) st (P b).known (made_ready (P b))) is ∙ sym (ap (λ (st : StmtTree). behind (w b) st (P b)) is)) c.ready.ensures

pub behind-returns-in-Unpack : goal.behind-returns-in-Unpack
behind-returns-in-Unpack t c =
    let a = c.in-Unpack in
    let s = c.args.builder.now in
    let w = λ (b : Forms). walk_at b c.args.walk.now in
    let P = λ (b : Forms). position_at b s in
    let T = stmt_of c.args.stmt.now in
    let is = ap stmt_of a.is ∙ unpack_is a.at a.x a.class in
    arm c.unpack.result s c.unpack.new.builder (λ b. spec.unpack (w b) a.at a.x a.class.0 (P b)) (λ b. behind (w b) T (P b)) (λ b. sym (ap (λ (st : StmtTree). behind (w b) st (P b)) is)) c.unpack.ensures

pub behind-returns-in-Pack : goal.behind-returns-in-Pack
behind-returns-in-Pack t c =
    let a = c.in-Pack in
    let s = c.args.builder.now in
    let w = λ (b : Forms). walk_at b c.args.walk.now in
    let P = λ (b : Forms). position_at b s in
    let T = stmt_of c.args.stmt.now in
    let is = ap stmt_of a.is ∙ pack_is a.at a.x a.class in
    arm c.pack.result s c.pack.new.builder (λ b. spec.pack (w b) a.at a.x a.class.0 (P b)) (λ b. behind (w b) T (P b)) (λ b. sym (ap (λ (st : StmtTree). behind (w b) st (P b)) is)) c.pack.ensures

pub behind-returns-in-Assert : goal.behind-returns-in-Assert
behind-returns-in-Assert t c =
    let a = c.in-Assert in
    let s = c.args.builder.now in
    let w = λ (b : Forms). walk_at b c.args.walk.now in
    let P = λ (b : Forms). position_at b s in
    let T = stmt_of c.args.stmt.now in
    let is = ap stmt_of a.is ∙ assert_is a.at a.e in
    arm c.check_condition.result s c.check_condition.new.builder (λ b. check (w b) kind.Assert a.at (holds_at (w b) (P b) (expr a.e)) (P b)) (λ b. behind (w b) T (P b)) (λ b. sym (ap (λ (st : StmtTree). behind (w b) st (P b)) is)) c.check_condition.ensures

pub behind-returns-in-Assume : goal.behind-returns-in-Assume
behind-returns-in-Assume t c =
    let a = c.in-Assume in
    let s = c.args.builder.now in
    let w = λ (b : Forms). walk_at b c.args.walk.now in
    let P = λ (b : Forms). position_at b s in
    let T = stmt_of c.args.stmt.now in
    let is = ap stmt_of a.is ∙ assume_is a.field-0 a.e in
    arm c.assume_condition.result s c.assume_condition.new.builder (λ b. assume (holds_at (w b) (P b) (expr a.e)) (P b)) (λ b. behind (w b) T (P b)) (λ b. sym (ap (λ (st : StmtTree). behind (w b) st (P b)) is)) c.assume_condition.ensures

pub behind-returns-in-Print : goal.behind-returns-in-Print
behind-returns-in-Print t c =
    let a = c.in-Print in
    let s = c.args.builder.now in
    let w = λ (b : Forms). walk_at b c.args.walk.now in
    let P = λ (b : Forms). position_at b s in
    let T = stmt_of c.args.stmt.now in
    let is = ap stmt_of a.is ∙ print_is a.field-0 a.e a.field-2 in
    arm c.print.result s c.print.new.builder (λ b. spec.evaluate_result (w b) (option_map expr a.e) (P b)) (λ b. behind (w b) T (P b)) (λ b. sym (ap (λ (st : StmtTree). behind (w b) st (P b)) is)) c.print.ensures

pub behind-returns-in-Return : goal.behind-returns-in-Return
behind-returns-in-Return t c =
    let a = c.in-Return in
    let s = c.args.builder.now in
    let w = λ (b : Forms). walk_at b c.args.walk.now in
    let P = λ (b : Forms). position_at b s in
    let T = stmt_of c.args.stmt.now in
    let is = ap stmt_of a.is ∙ return_is a.at a.e in
    arm c.return_with.result s c.return_with.new.builder (λ b. spec.return_with (w b) a.at (option_map expr a.e) (P b)) (λ b. behind (w b) T (P b)) (λ b. sym (ap (λ (st : StmtTree). behind (w b) st (P b)) is)) c.return_with.ensures

pub behind-returns-in-PrintText : goal.behind-returns-in-PrintText
behind-returns-in-PrintText t c =
    let a = c.in-PrintText in
    let s = c.args.builder.now in
    let is = ap stmt_of a.is ∙ print_text_is a.field-0 a.field-1 a.field-2 in
    so s s (λ (b : Forms). position_at b s) (λ b. behind (walk_at b c.args.walk.now) (stmt_of c.args.stmt.now) (position_at b s)) (λ b k. sym (ap (λ (st : StmtTree). behind (walk_at b c.args.walk.now) st (position_at b s)) is)) (stays s c.requires.fine)

pub behind-after_loop-requires : goal.behind-after_loop-requires
behind-after_loop-requires t c = (search (rules, the_lemmas), assumption (c.in_ok-enter_loop-in-Loop.ensures.fine, IsWalk-grown c.args.builder.now.bank c.enter_loop.new.builder.bank c.in_ok-enter_loop-in-Loop.ensures.grown c.args.walk.now c.requires.walk))

pub behind-returns-in_ok-enter_loop-in-Loop : goal.behind-returns-in_ok-enter_loop-in-Loop
behind-returns-in_ok-enter_loop-in-Loop t c =
    let l = c.in-Loop.l in
    let s = c.args.builder.now in
    let w = λ (b : Forms). walk_at b c.args.walk.now in
    let P = λ (b : Forms). position_at b s in
    let T = stmt_of c.args.stmt.now in
    let is = ap stmt_of c.in-Loop.is ∙ looped_is l in
    let at = (out-Loop l).place in
    let asked = exprs (out-Loop l).invariants.items in
    let exposes = map exposed_tree (out-Loop l).exposes.items in
    let round = λ (b : Forms) (k : Position). looped (w b) at asked (block (out-Loop l).prelude.items) (expr (out-Loop l).test) (block (out-Loop l).body.items) exposes k in
    let es = c.deref-in-Loop.result.now in
    let xs = c.deref-in-Loop-2.result.now in
    let F1 = λ (b : Forms). head_reached (w b) T (exprs es) (map exposed_tree xs) (head_checked (w b) at (exprs es) (map exposed_tree xs) (P b)) in
    arm c.after_loop.result s c.after_loop.new.builder (λ b. round b (F1 b)) (λ b. behind (w b) T (P b))
    (λ b.
    ap (λ (es : List Expr). round b (head_reached (w b) T (exprs es) (map exposed_tree xs) (head_checked (w b) at (exprs es) (map exposed_tree xs) (P b)))) c.deref-in-Loop.ensures.value
    ∙ ap (λ (xs : List Exposed). round b (head_reached (w b) T asked (map exposed_tree xs) (head_checked (w b) at asked (map exposed_tree xs) (P b)))) c.deref-in-Loop-2.ensures.value
    ∙ ap (λ (st : StmtTree). round b (head_reached (w b) st asked exposes (head_checked (w b) at asked exposes (P b)))) is
    ∙ sym (ap (λ (st : StmtTree). behind (w b) st (P b)) is))
    (on_ok c.after_loop.result (then s c.enter_loop.new.builder c.after_loop.new.builder F1 round c.in_ok-enter_loop-in-Loop.ensures) c.after_loop.ensures)

pub behind-behind_all-requires : goal.behind-behind_all-requires
behind-behind_all-requires t c =
    (search (rules, the_lemmas), assumption (c.in_ok-second-in-If.ensures.becomes.fine, IsWalk-grown c.args.builder.now.bank c.enter_side.new.builder.bank c.in_ok-second-in-If.ensures.becomes.grown c.args.walk.now c.requires.walk))

pub behind-go_to-first-requires-clause-spot : goal.behind-go_to-first-requires-clause-spot
behind-go_to-first-requires-clause-spot t c = HasSpot-grown c.enter_side.new.builder.bank c.behind_all.new.builder.bank c.in_ok-behind_all-in-If.ensures.grown c.in_ok-second-in-If.second c.in_ok-second-in-If.ensures.spot.has

pub behind-behind_all-requires-in-If : goal.behind-behind_all-requires-in-If
behind-behind_all-requires-in-If t c =
    let d = c.decreases in
    let is = c.in-If.is in
    let v = c.deref-in-If-2.ensures.value in
    let s = c.args.builder.now in
    let t1 = c.enter_side.new.builder in
    let t2 = c.behind_all.new.builder in
    let t3 = c.go_to-first.new.self in
    let e3 = c.go_to-first.ensures.becomes in
    let g = IsGrown-then s.bank t2.bank t3.bank (IsGrown-then s.bank t1.bank t2.bank c.in_ok-second-in-If.ensures.becomes.grown c.in_ok-behind_all-in-If.ensures.grown) e3.grown in
    (first_of (search (rules, the_lemmas, is, v), first_of (grind (arith, the_lemmas, is, v), search (rules, the_lemmas, d, is, v) depth 8)), assumption (e3.fine, IsWalk-grown s.bank t3.bank g c.args.walk.now c.requires.walk))

pub behind-join-requires-clause-walk : goal.behind-join-requires-clause-walk
behind-join-requires-clause-walk t c =
    let s = c.args.builder.now in
    let t1 = c.enter_side.new.builder in
    let t2 = c.behind_all.new.builder in
    let t3 = c.go_to-first.new.self in
    let t4 = c.behind_all-in-If.new.builder in
    let g = IsGrown-then s.bank t2.bank t3.bank (IsGrown-then s.bank t1.bank t2.bank c.in_ok-second-in-If.ensures.becomes.grown c.in_ok-behind_all-in-If.ensures.grown) c.go_to-first.ensures.becomes.grown in
    IsWalk-grown s.bank t4.bank (IsGrown-then s.bank t3.bank t4.bank g c.in_ok-behind_all-in-If-2.ensures.grown) c.args.walk.now c.requires.walk

pub behind-join-requires-clause-first : goal.behind-join-requires-clause-first
behind-join-requires-clause-first t c = HasSpot-grown c.go_to-first.new.self.bank c.behind_all-in-If.new.builder.bank c.in_ok-behind_all-in-If-2.ensures.grown c.go_to-first.result c.go_to-first.ensures.spot.has

pub behind-returns-in_ok-behind_all-in-If-2 : goal.behind-returns-in_ok-behind_all-in-If-2
behind-returns-in_ok-behind_all-in-If-2 t c =
    let a = c.in-If in
    let s = c.args.builder.now in
    let w = λ (b : Forms). walk_at b c.args.walk.now in
    let e = expr a.e in
    let T = stmt_of c.args.stmt.now in
    let is = ap stmt_of a.is ∙ if_is a.field-0 a.e a.one a.other in
    let ones = c.deref-in-If.result.now in
    let others = c.deref-in-If-2.result.now in
    let one = block ones in
    let other = block others in
    let F0 = λ (b : Forms). position_at b s in
    let t1 = c.enter_side.new.builder in
    let F1 = λ (b : Forms). spec.into_body (w b) e (F0 b) in
    let t2 = c.behind_all.new.builder in
    let e2 = c.in_ok-behind_all-in-If.ensures in
    let F2 = λ (b : Forms). behind_all (w b) one (F1 b) in
    let p2 = then s t1 t2 F1 (λ b k. behind_all (w b) one k) c.in_ok-second-in-If.ensures.becomes e2 in
    let t3 = c.go_to-first.new.self in
    let e3 = c.go_to-first.ensures.becomes in
    let side = λ (b : Forms) (k : Position). second_side (When ((evaluate (w b) e (F0 b)).next.truths + 1)) (known_tested e false (F0 b).known) (evaluate (w b) e (F0 b)) k in
    let F3 = λ (b : Forms). side b (F2 b) in
    let p3 = so s t3 (λ b. at_spot b c.in_ok-second-in-If.second (F2 b)) F3
    (λ b k. spot_gone t1.bank c.in_ok-second-in-If.second (λ b. other_side (w b) e (F0 b)) c.in_ok-second-in-If.ensures.spot b (IsGrown-then t1.bank t2.bank b e2.grown (IsGrown-then t2.bank t3.bank b e3.grown k)) (F2 b))
    (then s t2 t3 F2 (λ b k. at_spot b c.in_ok-second-in-If.second k) p2 e3) in
    let t4 = c.behind_all-in-If.new.builder in
    let e4 = c.in_ok-behind_all-in-If-2.ensures in
    let F4 = λ (b : Forms). behind_all (w b) other (F3 b) in
    let p4 = then s t3 t4 F3 (λ b k. behind_all (w b) other k) p3 e4 in
    let first = c.go_to-first.result in
    let there = spot_so t3.bank first (λ (b : Forms). position_at b t2) c.go_to-first.ensures.spot F2 (λ b k. p2.is b (IsGrown-then t2.bank t3.bank b e3.grown k)) in
    let t5 = c.join.new.self in
    on_ok c.join.result
    (λ q.
    so s t5 (λ b. join (w b) known_met (at_spot b first (F4 b)) (F4 b)) (λ b. behind (w b) T (F0 b))
    (λ b k.
    join_spot t3.bank first F2 (w b) known_met there b (IsGrown-then t3.bank t4.bank b e4.grown (IsGrown-then t4.bank t5.bank b q.grown k)) (F4 b)
    ∙ ap (λ (ss : List Stmt). branched (w b) e (block ss) other (F0 b)) c.deref-in-If.ensures.value
    ∙ ap (λ (ss : List Stmt). branched (w b) e (block a.one.items) (block ss) (F0 b)) c.deref-in-If-2.ensures.value
    ∙ sym (ap (λ (st : StmtTree). behind (w b) st (F0 b)) is))
    (then s t4 t5 F4 (λ b k. join (w b) known_met (at_spot b first k) k) p4 q))
    c.join.ensures

pub after_loop-go_if_reached-requires : goal.after_loop-go_if_reached-requires
after_loop-go_if_reached-requires t c =
    (search (rules, the_lemmas), assumption (c.in_ok-behind_all.ensures.fine, IsWalk-grown c.args.builder.now.bank c.behind_all.new.builder.bank c.in_ok-behind_all.ensures.grown c.args.walk.now c.requires.walk))

pub after_loop-returns : goal.after_loop-returns
after_loop-returns t c =
    let s = c.args.builder.now in
    let w = λ (b : Forms). walk_at b c.args.walk.now in
    let l = out-Loop c.args.l.now in
    let F0 = λ (b : Forms). position_at b s in
    let round = λ (b : Forms) (k : Position). gone_if_reached (w b) l.place (exprs l.invariants.items) (expr l.test) (block l.body.items) (map exposed_tree l.exposes.items) k in
    let code = c.deref.result.now in
    so s c.go_if_reached.new.builder (λ b. round b (behind_all (w b) (block code) (F0 b))) (λ b. round b (behind_all (w b) (block l.prelude.items) (F0 b)))
    (λ b k. ap (λ (ss : List Stmt). round b (behind_all (w b) (block ss) (F0 b))) c.deref.ensures.value)
    (then s c.behind_all.new.builder c.go_if_reached.new.builder (λ b. behind_all (w b) (block code) (F0 b)) round c.in_ok-behind_all.ensures c.in_ok-go_if_reached.ensures)

pub after_loop-behind_all-requires : goal.after_loop-behind_all-requires
after_loop-behind_all-requires t c = (search (rules, the_lemmas), assumption (c.requires.fine, c.requires.walk))

pub go_if_reached-returns-then-is_never : goal.go_if_reached-returns-then-is_never
go_if_reached-returns-then-is_never t c =
    let s = c.args.builder.now in
    let w = λ (b : Forms). walk_at b c.args.walk.now in
    let l = out-Loop c.args.l.now in
    let F0 = λ (b : Forms). position_at b s in
    let round = λ (b : Forms) (k : Position). gone_round (w b) l.place (exprs l.invariants.items) (expr l.test) (block l.body.items) (map exposed_tree l.exposes.items) k in
    so s s F0 (λ b. gone_if_reached (w b) l.place (exprs l.invariants.items) (expr l.test) (block l.body.items) (map exposed_tree l.exposes.items) (F0 b))
    (λ b k. sym (ap (λ (g : Guard). if_reached g (round b (F0 b)) (F0 b)) (never (guard_of s.guard) (sym c.is_never.ensures ∙ c.if-is_never.true)))) (stays s c.requires.fine)

pub go_if_reached-returns-else-is_never : goal.go_if_reached-returns-else-is_never
go_if_reached-returns-else-is_never t c =
    let s = c.args.builder.now in
    let w = λ (b : Forms). walk_at b c.args.walk.now in
    let l = out-Loop c.args.l.now in
    let F0 = λ (b : Forms). position_at b s in
    let round = λ (b : Forms) (k : Position). gone_round (w b) l.place (exprs l.invariants.items) (expr l.test) (block l.body.items) (map exposed_tree l.exposes.items) k in
    arm c.go_round.result s c.go_round.new.builder (λ b. round b (F0 b)) (λ b. gone_if_reached (w b) l.place (exprs l.invariants.items) (expr l.test) (block l.body.items) (map exposed_tree l.exposes.items) (F0 b))
    (λ b. sym (here (guard_of s.guard) (round b (F0 b)) (F0 b) (is_reached (guard_of s.guard) (sym c.is_never.ensures ∙ c.if-is_never.false)))) c.go_round.ensures

pub go_round-behind_all-requires : goal.go_round-behind_all-requires
go_round-behind_all-requires t c =
    (search (rules, the_lemmas), assumption (c.in_ok-side.ensures.becomes.fine, IsWalk-grown c.args.builder.now.bank c.enter_side.new.builder.bank c.in_ok-side.ensures.becomes.grown c.args.walk.now c.requires.walk))

pub go_round-leave_loop-requires-clause-walk : goal.go_round-leave_loop-requires-clause-walk
go_round-leave_loop-requires-clause-walk t c =
    let s = c.args.builder.now in
    let t1 = c.enter_side.new.builder in
    let t2 = c.behind_all.new.builder in
    IsWalk-grown s.bank t2.bank (IsGrown-then s.bank t1.bank t2.bank c.in_ok-side.ensures.becomes.grown c.in_ok-behind_all.ensures.grown) c.args.walk.now c.requires.walk

pub go_round-leave_loop-requires-clause-spot : goal.go_round-leave_loop-requires-clause-spot
go_round-leave_loop-requires-clause-spot t c =
    let s = c.args.builder.now in
    let t1 = c.enter_side.new.builder in
    let t2 = c.behind_all.new.builder in
    let says = λ (b : Forms). other_side (walk_at b c.args.walk.now) (expr (out-Loop c.args.l.now).test) (position_at b s) in
    HasSpot-grown t1.bank t2.bank c.in_ok-behind_all.ensures.grown c.exit_spot-exit.result (c.exit_spot-exit.ensures t1.bank says c.in_ok-side.ensures.spot).has

pub go_round-returns : goal.go_round-returns
go_round-returns t c =
    let s = c.args.builder.now in
    let w = λ (b : Forms). walk_at b c.args.walk.now in
    let l = out-Loop c.args.l.now in
    let e = expr l.test in
    let asked = exprs l.invariants.items in
    let exposes = map exposed_tree l.exposes.items in
    let F0 = λ (b : Forms). position_at b s in
    let t1 = c.enter_side.new.builder in
    let F1 = λ (b : Forms). spec.into_body (w b) e (F0 b) in
    let t2 = c.behind_all.new.builder in
    let e2 = c.in_ok-behind_all.ensures in
    let code = c.deref.result.now in
    let F2 = λ (b : Forms). behind_all (w b) (block code) (F1 b) in
    let p2 = then s t1 t2 F1 (λ b k. behind_all (w b) (block code) k) c.in_ok-side.ensures.becomes e2 in
    let t3 = c.leave_loop.new.builder in
    let e3 = c.in_ok-leave_loop.ensures in
    let exit = c.exit_spot-exit.result in
    let es = c.deref-2.result.now in
    let xs = c.deref-3.result.now in
    let says = λ (b : Forms). other_side (w b) e (F0 b) in
    let there = c.exit_spot-exit.ensures t1.bank says c.in_ok-side.ensures.spot in
    let turn = λ (b : Forms) (es : List Expr) (xs : List Exposed) (ss : List Stmt). turned (w b) l.place (exprs es) (map exposed_tree xs) (behind_all (w b) (block ss) (F1 b)) in
    so s t3 (λ b. at_spot b exit (turn b es xs code)) (λ b. gone_round (w b) l.place asked e (block l.body.items) exposes (F0 b))
    (λ b k.
    spot_gone t1.bank exit (λ b. exit_side e (says b)) there b (IsGrown-then t1.bank t2.bank b e2.grown (IsGrown-then t2.bank t3.bank b e3.grown k)) (turn b es xs code)
    ∙ ap (λ (es : List Expr). second_side (exit_side e (says b)).guard (says b).known (says b) (turn b es xs code)) c.deref-2.ensures.value
    ∙ ap (λ (xs : List Exposed). second_side (exit_side e (says b)).guard (says b).known (says b) (turn b l.invariants.items xs code)) c.deref-3.ensures.value
    ∙ ap (λ (ss : List Stmt). second_side (exit_side e (says b)).guard (says b).known (says b) (turn b l.invariants.items l.exposes.items ss)) c.deref.ensures.value)
    (then s t2 t3 F2 (λ b k. at_spot b exit (turned (w b) l.place (exprs es) (map exposed_tree xs) k)) p2 e3)

pub behind_all-loop-stmt-init : goal.behind_all-loop-stmt-init
behind_all-loop-stmt-init t c = none_gone (λ (b : Forms). walk_at b c.args.walk.now) c.args.builder.now (block c.args.code.now) c.requires.fine

pub behind_all-behind-requires : goal.behind_all-behind-requires
behind_all-behind-requires t c =
    (search (rules, the_lemmas), assumption (c.loop-stmt.invariant.fine, IsWalk-grown c.args.builder.now.bank c.loop-stmt.builder.bank c.loop-stmt.invariant.grown c.args.walk.now c.requires.walk))

pub behind_all-loop-stmt-preserved : goal.behind_all-loop-stmt-preserved
behind_all-loop-stmt-preserved t c =
    let s = c.args.builder.now in
    let u = c.loop-stmt.builder in
    let w = λ (b : Forms). walk_at b c.args.walk.now in
    let code = c.args.code.now in
    let i = c.loop-stmt.stmt-index in
    let x = c.stmt-item.result in
    let along = subst (λ (ss : List Stmt). Along s u (λ b k. behind_all (w b) (block code) k) (λ b k. behind_all (w b) (block ss) k)) (drop_next code i x c.loop-stmt-test.true c.stmt-item.is) c.loop-stmt.invariant in
    gone_on w s (block code) u c.behind.new.builder (stmt_of x) (block (drop (i + 1) code)) (is_reached (guard_of u.guard) (sym c.is_never.ensures ∙ c.if-is_never.false)) along c.in_ok-behind.ensures

pub behind_all-returns : goal.behind_all-returns
behind_all-returns t c =
    let s = c.args.builder.now in
    let u = c.loop-stmt.builder in
    let w = λ (b : Forms). walk_at b c.args.walk.now in
    let code = c.args.code.now in
    all_gone w s (block code) u (subst (λ (ss : List Stmt). Along s u (λ b k. behind_all (w b) (block code) k) (λ b k. behind_all (w b) (block ss) k)) (drop_all c.loop-stmt.stmt-index code c.loop-stmt-test.false) c.loop-stmt.invariant)

pub behind_all-returns-then-is_never : goal.behind_all-returns-then-is_never
behind_all-returns-then-is_never t c =
    let u = c.loop-stmt.builder in
    never_gone (λ (b : Forms). walk_at b c.args.walk.now) c.args.builder.now (block c.args.code.now) u (block (drop c.loop-stmt.stmt-index c.args.code.now)) (never (guard_of u.guard) (sym c.is_never.ensures ∙ c.if-is_never.true)) c.loop-stmt.invariant
