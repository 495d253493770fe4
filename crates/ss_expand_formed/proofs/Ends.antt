-- The end of elaborated code can't be reached where that of the statement can't.
use Rattle.std.proofs.Common.{◌≡◌, ℕ, List, [], ◌∷◌, ◌++◌, Bool, true, false, Option, Some, None, refl, ◌∙◌, ap, ⊎_elim}
use Rattle.std.specs.Prelude.{◌&&◌, if◌then◌else◌}
use Rattle.ss_core.specs.declared.names.Place.{Place}
use Rattle.ss_core.specs.declared.names.Ty.{Ty}
use Rattle.ss_core.specs.Tree as core
use Rattle.ss_core.specs.Tree.{ReturnStmt, UnpackStmt, IfStmt}
use Rattle.ss_core.specs.View.{code_of}
use Rattle.ss_typed.specs.Tree.{ExprTree, BoolOf, BlockTree, BlockOf, StmtTree, InBlock, DeclareOf, SimpleOf, IfOf, IfElseOf, WhileOf, ForOf, ReturnOf, AssertOf, AssumeOf, ExposeOf, EmptyOf, StmtTrees, NoMore, Before}
use Rattle.ss_store_rules.specs.Paths.{passes, reaches_end}
use Rattle.ss_expand_formed.proofs.Facts.{and_false, or_false, and_is_false, not_false}
use Rattle.ss_expand_rules.specs.Code.{Coded, nothing, then_code}
use Rattle.ss_expand_rules.specs.Ends.{is_always, can_end, block_can_end, all_can_end}
use Rattle.ss_typed.specs.Shapes.{is_true, place_of}
use Rattle.ss_typed.specs.Types.{type_of}
use Rattle.ss_expand_rules.specs.Lifting.{ElaborationContext, Opened, Valued, Lifted, next, in_temporary, temporary_type, any_object, right_side, value}
use Rattle.ss_expand_rules.specs.Statements.{packs, leave_with, kept_result, leave_value, leave, loop_while, begin, advance, exposed_class, within, opened, expose_in, expose_with, expose_lifted, stmt, block, stmts}

-- ---- lists of statements

abbrev pub Code : Type 0
Code = List core.StmtTree

-- its end can be reached
abbrev pub reached : Code → Bool
reached code = reaches_end (code_of code)

pub reached-append : (xs ys : Code) → reached (xs ++ ys) ≡ (reached xs && reached ys)
reached-append [] ys = refl
reached-append (x ∷ xs) ys = ap (λ b. passes x && b) (reached-append xs ys) ∙ assoc (passes x) (reached xs) (reached ys)
  where
    assoc : (a b c : Bool) → (a && (b && c)) ≡ ((a && b) && c)
    assoc true b c = refl
    assoc false b c = refl

-- what stands last isn't passed
pub stops_last : (xs ys : Code) → reached ys ≡ false → reached (xs ++ ys) ≡ false
stops_last xs ys h = reached-append xs ys ∙ and_false (reached xs) (reached ys) h

pub stops_first : (xs ys : Code) → reached xs ≡ false → reached (xs ++ ys) ≡ false
stops_first xs ys h = reached-append xs ys ∙ ap (λ b. b && reached ys) h

if_stops : (p : Place) (e : core.ExprTree) (one other : Code) → reached one ≡ false → reached other ≡ false → reached (IfStmt p e (code_of one) (code_of other) ∷ []) ≡ false
if_stops p e one other h k = rw (h, k) refl

-- ---- loops on the literal `true`

endless_stops : (s : ElaborationContext) (p : Place) (is : List ExprTree) (e : ExprTree) (turn : List Ty → Coded) (made : List Ty) → is_true e ≡ true → reached (loop_while s p is (Some e) turn made).code ≡ false
endless_stops s p is (BoolOf q true) turn made h = refl
endless_stops s p is (BoolOf q false) turn made h = absurd (let x : ⊥ = cc in x)
endless_stops s p is e turn made h = absurd (let x : ⊥ = cc in x)

while_stops : (s : ElaborationContext) (p : Place) (is : List ExprTree) (e : Option ExprTree) (turn : List Ty → Coded) (made : List Ty) → is_always e ≡ true → reached (loop_while s p is e turn made).code ≡ false
while_stops s p is None turn made h = refl
while_stops s p is (Some e) turn made h = endless_stops s p is e turn made h

-- ---- returns

leave_with_stops : (s : ElaborationContext) (p : Place) (v : Valued) → reached (leave_with s p v).code ≡ false
leave_with_stops s p v = stops_last (v.code ++ packs s p) (ReturnStmt p (Some v.value) ∷ []) refl

leave_value_stops : (s : ElaborationContext) (p : Place) (e : ExprTree) (os : List Opened) (made : List Ty) → reached (leave_value s p e os made).code ≡ false
leave_value_stops s p e [] made = leave_with_stops s p (value s e made)
leave_value_stops s p e (o ∷ os) made = leave_with_stops s p (kept_result s e (right_side s e made))

leave_stops : (s : ElaborationContext) (p : Place) (e : Option ExprTree) (made : List Ty) → reached (leave s p e made).code ≡ false
leave_stops s p None made = stops_last (packs s p) (ReturnStmt p None ∷ []) refl
leave_stops s p (Some e) made = leave_value_stops s p e s.exposes made

-- ---- statements

expose_in_stops : (o : Opened) (v : Valued) (ends : Bool) (inside : Coded) → ends ≡ false → reached inside.code ≡ false → reached (expose_in o v ends inside).code ≡ false
expose_in_stops o v true inside e h = absurd (let x : ⊥ = cc in x)
expose_in_stops o v false inside e h = stops_last (v.code ++ UnpackStmt o.place o.local o.class ∷ []) inside.code h

expose_with_stops : (s : ElaborationContext) (o : Opened) (v : Valued) (ends : Bool) (inner : ElaborationContext → List Ty → Coded) → ends ≡ false → ((z : ElaborationContext) (m : List Ty) → reached (inner z m).code ≡ false) → reached (expose_with s o v ends inner).code ≡ false
expose_with_stops s o v ends inner e h = expose_in_stops o v ends (inner (within s o) v.made) e (h (within s o) v.made)

expose_stops : (s : ElaborationContext) (p : Place) (e : ExprTree) (t : ℕ) (ends : Bool) (inner : ElaborationContext → List Ty → Coded) (l : Lifted) → ends ≡ false → ((z : ElaborationContext) (m : List Ty) → reached (inner z m).code ≡ false) →
    reached (expose_lifted s p e t ends inner l).code ≡ false
expose_stops s p e t ends inner l h stops = expose_with_stops s (opened p (next s.numbers l.made) t) (in_temporary s.numbers (place_of e) (temporary_type any_object (type_of e)) l) ends inner h stops

mutual
  pub stmt_stops : (s : ElaborationContext) (x : StmtTree) (made : List Ty) → can_end x ≡ false → reached (stmt s x made).code ≡ false
  stmt_stops s (InBlock b) made h = block_stops s b made h
  stmt_stops s (IfElseOf p e a b) made h =
      let both = or_false (can_end a) (can_end b) h in
      let v = value s e made in
      let one = stmt s a v.made in
      let other = stmt s b one.made in
      stops_last v.code (IfStmt p v.value (code_of one.code) (code_of other.code) ∷ []) (if_stops p v.value one.code other.code (stmt_stops s a v.made both.0) (stmt_stops s b one.made both.1))
  stmt_stops s (WhileOf p e is a) made h = endless_stops s p is e (λ m. stmt s a m) made (not_false (is_true e) h)
  stmt_stops s (ForOf p i e x is a) made h =
      let turn = λ (m : List Ty). then_code (stmt s a m) (if can_end a then advance s x else nothing) in
      let start = begin s i made in
      stops_last start.code (loop_while s p is e turn start.made).code (while_stops s p is e turn start.made (not_false (is_always e) h))
  stmt_stops s (ReturnOf p e) made h = leave_stops s p e made
  stmt_stops s (ExposeOf p e t b) made h = expose_stops s p e (exposed_class e t) (block_can_end b) (λ z m. block z b m) (right_side s e made) h (λ z m. block_stops z b m h)
  stmt_stops s (DeclareOf ds) made h = absurd (let x : ⊥ = cc in x)
  stmt_stops s (SimpleOf x) made h = absurd (let x : ⊥ = cc in x)
  stmt_stops s (IfOf p e a) made h = absurd (let x : ⊥ = cc in x)
  stmt_stops s (AssertOf p e) made h = absurd (let x : ⊥ = cc in x)
  stmt_stops s (AssumeOf p e) made h = absurd (let x : ⊥ = cc in x)
  stmt_stops s (EmptyOf p) made h = absurd (let x : ⊥ = cc in x)

  pub block_stops : (s : ElaborationContext) (b : BlockTree) (made : List Ty) → block_can_end b ≡ false → reached (block s b made).code ≡ false
  block_stops s (BlockOf p ss end) made h = stmts_stop s ss made h

  pub stmts_stop : (s : ElaborationContext) (ss : StmtTrees) (made : List Ty) → all_can_end ss ≡ false → reached (stmts s ss made).code ≡ false
  stmts_stop s NoMore made h = absurd (let x : ⊥ = cc in x)
  stmts_stop s (Before x xs) made h =
      ⊎_elim
      (λ no. stops_first (stmt s x made).code ((if can_end x then stmts s xs else nothing) (stmt s x made).made).code (stmt_stops s x made no))
      (λ yes. rw yes.0 (stops_last (stmt s x made).code (stmts s xs (stmt s x made).made).code (stmts_stop s xs (stmt s x made).made yes.1)))
      (and_is_false (can_end x) (all_can_end xs) h)
