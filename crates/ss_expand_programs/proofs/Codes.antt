-- Code after other code.
use Rattle.std.proofs.Common.{◌≡◌, ℕ, List, [], ◌∷◌, ◌++◌, map, Bool, true, false, Option, Some, None, refl, ap, sym, ◌∙◌, append_assoc}
use Rattle.std.proofs.lemmas.List.{append-nil}
use Rattle.std.specs.Prelude.{if◌then◌else◌, ◌&&◌}
use Rattle.ss_core.specs.declared.names.Place.{Place}
use Rattle.ss_core.specs.declared.names.Ty.{Ty}
use Rattle.ss_core.specs.Tree as core
use Rattle.ss_core.specs.Tree.{LocalExpr, IfStmt, LoopStmt, UnpackStmt}
use Rattle.ss_core.specs.View.{code_of}
use Rattle.ss_typed.specs.Tree.{ExprTree, SimpleTree, StmtTree, ExposeOf, BlockTree, StmtTrees, Before}
use Rattle.ss_expand_rules.specs.Numbers.{all_plain}
use Rattle.ss_typed.specs.Shapes.{place_of}
use Rattle.ss_expand_rules.specs.Code.{Coded, nothing, after, then_code}
use Rattle.ss_expand_rules.specs.Lifting.{Opened, ElaborationContext, Valued, next, right_side}
use Rattle.ss_expand_rules.specs.Ends.{can_end, block_can_end, all_can_end}
use Rattle.ss_expand_rules.specs.Statements as statements
use Rattle.ss_expand_rules.specs.Statements.{branch, exposed, exposed_class, loop_from, loop_while, pack_of, leave_with, leave_value, packs, within, stmt, stmts, block}
use Rattle.ss_expand_expressions.specs.Operands.{valued_as}
use Rattle.ss_expand_expressions.specs.Sources.{valued_after}
use Rattle.ss_expand_programs.specs.Returns.{returned_in}
use Rattle.ss_expand_programs.specs.Loops.{tested, turn_of}
use Rattle.ss_expand_programs.specs.Opening.{opened_by, object_of, opening}

abbrev pub Code : Type 0
Code = List core.StmtTree

abbrev pub coded : Code → List Ty → Coded
coded code made = record { code = code; made = made }

-- ---- one after the other

pub one_then : (c0 c1 c2 : Code) (m1 m2 : List Ty) (a : Coded) (f : List Ty → Coded) → coded c1 m1 ≡ after c0 a → coded c2 m2 ≡ after c1 (f m1) → coded c2 m2 ≡ after c0 (then_code a f)
one_then c0 c1 c2 m1 m2 a f e1 e2 =
    e2 ∙ ap (λ (x : Coded). after x.code (f x.made)) e1
    ∙ ap (λ (c : Code). coded c (f a.made).made) (append_assoc c0 a.code (f a.made).code)

pub then_more : (c0 c1 : Code) (m1 : List Ty) (a : Coded) (f : List Ty → Coded) → coded c1 m1 ≡ after c0 a → after c1 (f m1) ≡ after c0 (then_code a f)
then_more c0 c1 m1 a f e = ap (λ (x : Coded). after x.code (f x.made)) e ∙ ap (λ (c : Code). coded c (f a.made).made) (append_assoc c0 a.code (f a.made).code)

pub after_new : (c0 c1 : Code) (m1 : List Ty) (a : Coded) → c0 ≡ [] → coded c1 m1 ≡ after c0 a → coded c1 m1 ≡ a
after_new c0 c1 m1 a z e = e ∙ ap (λ (c : Code). after c a) z

pub value_after_new : (c0 c1 : Code) (x : core.ExprTree) (m1 : List Ty) (v : Valued) → c0 ≡ [] → valued_as c1 x m1 ≡ valued_after c0 v → valued_as c1 x m1 ≡ v
value_after_new c0 c1 x m1 v z e = e ∙ ap (λ (c : Code). valued_after c v) z

-- ---- `if`

pub branched : (p : Place) (c0 c1 c2 one other : Code) (t : core.ExprTree) (m1 m2 m3 : List Ty) (v : Valued) (f g : List Ty → Coded)
    → valued_as c1 t m1 ≡ valued_after c0 v → coded one m2 ≡ f m1 → coded other m3 ≡ g m2 → c2 ≡ c1 ++ IfStmt p t (code_of one) (code_of other) ∷ []
    → coded c2 m3 ≡ after c0 (branch p v f g)
branched p c0 c1 c2 one other t m1 m2 m3 v f g e1 e2 e3 e4 =
    let b2 : coded one m2 ≡ f v.made = e2 ∙ ap (λ (x : Valued). f x.made) e1 in
    let b3 : coded other m3 ≡ g (f v.made).made = e3 ∙ ap (λ (x : Coded). g x.made) b2 in
    ap (λ (c : Code). coded c m3) e4
    ∙ ap (λ (x : Valued). coded (x.code ++ IfStmt p x.value (code_of one) (code_of other) ∷ []) m3) e1
    ∙ ap (λ (x : Coded). coded ((c0 ++ v.code) ++ IfStmt p v.value (code_of x.code) (code_of other) ∷ []) m3) b2
    ∙ ap (λ (x : Coded). coded ((c0 ++ v.code) ++ IfStmt p v.value (code_of (f v.made).code) (code_of x.code) ∷ []) x.made) b3
    ∙ ap (λ (c : Code). coded c (g (f v.made).made).made) (append_assoc c0 v.code (IfStmt p v.value (code_of (f v.made).code) (code_of (g (f v.made).made).code) ∷ []))

-- ---- loops

pub looped : (s : ElaborationContext) (p : Place) (is : List ExprTree) (c0 c2 prelude inner : Code) (t : core.ExprTree) (m1 m2 : List Ty) (v : Valued) (f : List Ty → Coded)
    → valued_as prelude t m1 ≡ v → coded inner m2 ≡ f m1 → c2 ≡ c0 ++ LoopStmt p (all_plain s.numbers is) (code_of prelude) t (code_of inner) (map exposed s.exposes) ∷ []
    → coded c2 m2 ≡ after c0 (loop_from s p is v f)
looped s p is c0 c2 prelude inner t m1 m2 v f e1 e2 e3 =
    let b2 : coded inner m2 ≡ f v.made = e2 ∙ ap (λ (x : Valued). f x.made) e1 in
    ap (λ (c : Code). coded c m2) e3
    ∙ ap (λ (x : Valued). coded (c0 ++ LoopStmt p (all_plain s.numbers is) (code_of x.code) x.value (code_of inner) (map exposed s.exposes) ∷ []) m2) e1
    ∙ ap (λ (x : Coded). coded (c0 ++ LoopStmt p (all_plain s.numbers is) (code_of v.code) v.value (code_of x.code) (map exposed s.exposes) ∷ []) x.made) b2

pub loop_tested : (s : ElaborationContext) (p : Place) (is : List ExprTree) (e : Option ExprTree) (f : List Ty → Coded) (made : List Ty) → loop_from s p is (tested s p e made) f ≡ loop_while s p is e f made
loop_tested s p is None f made = refl
loop_tested s p is (Some e) f made = refl

-- a turn and its step
pub turned : (s : ElaborationContext) (a : StmtTree) (x : Option SimpleTree) (i0 i1 i2 : Code) (m1 m2 m3 : List Ty) (reached : Bool)
    → i0 ≡ [] → coded i1 m2 ≡ after i0 (stmt s a m1) → reached ≡ can_end a
    → coded i2 m3 ≡ after i1 ((if reached then statements.advance s x else nothing) m2)
    → coded i2 m3 ≡ turn_of s a x m1
turned s a x i0 i1 i2 m1 m2 m3 reached z e1 r e2 =
    after_new i0 i2 m3 (turn_of s a x m1) z
    (one_then i0 i1 i2 m2 m3 (stmt s a m1) (if can_end a then statements.advance s x else nothing) e1
    (e2 ∙ ap (λ (b : Bool). after i1 ((if b then statements.advance s x else nothing) m2)) r))

-- ---- returns

pub left_with : (s : ElaborationContext) (p : Place) (e : ExprTree) (os : List Opened) (made : List Ty) → leave_with s p (returned_in os s e made) ≡ leave_value s p e os made
left_with s p e [] made = refl
left_with s p e (o ∷ os) made = refl

pub returned : (s : ElaborationContext) (p : Place) (c0 c1 c2 : Code) (t : core.ExprTree) (m1 : List Ty) (v : Valued)
    → valued_as c1 t m1 ≡ valued_after c0 v → c2 ≡ c1 ++ (packs s p ++ core.ReturnStmt p (Some t) ∷ [])
    → coded c2 m1 ≡ after c0 (leave_with s p v)
returned s p c0 c1 c2 t m1 v e1 e2 =
    ap (λ (c : Code). coded c m1) e2
    ∙ ap (λ (x : Valued). coded (x.code ++ (packs s p ++ core.ReturnStmt p (Some x.value) ∷ [])) x.made) e1
    ∙ ap (λ (c : Code). coded c v.made) (append_assoc c0 v.code (packs s p ++ core.ReturnStmt p (Some v.value) ∷ []) ∙ ap (λ (c : Code). c0 ++ c) (sym (append_assoc v.code (packs s p) (core.ReturnStmt p (Some v.value) ∷ []))))

-- ---- `expose`

-- the pack at the end, where that can be reached
abbrev pub closing : Opened → Bool → Code
closing o reached = if reached then pack_of o ∷ [] else []

pub closed : (o : Opened) (reached : Bool) (inside : Coded) → statements.close o reached inside ≡ coded (inside.code ++ closing o reached) inside.made
closed o true inside = refl
closed o false inside = ap (λ (c : Code). coded c inside.made) (sym (append-nil inside.code))

pub exposed_by : (s : ElaborationContext) (p : Place) (e : ExprTree) (t : Option ℕ) (b : BlockTree) (c0 c1 c2 c3 : Code) (m0 m1 m2 : List Ty) (o : Opened) (inner : ElaborationContext) (reached : Bool)
    → coded c1 m1 ≡ after c0 (opening s p e t m0) → o ≡ opened_by s p e t m0 → inner ≡ within s o → coded c2 m2 ≡ after c1 (block inner b m1)
    → reached ≡ block_can_end b → c3 ≡ c2 ++ closing o reached
    → coded c3 m2 ≡ after c0 (stmt s (ExposeOf p e t b) m0)
exposed_by s p e t b c0 c1 c2 c3 m0 m1 m2 o inner reached e1 eo ei e2 r e3 =
    let u = opened_by s p e t m0 in
    let begun = opening s p e t m0 in
    let inside = block (within s u) b begun.made in
    let ends = block_can_end b in
    let b2 : coded c2 m2 ≡ after (c0 ++ begun.code) inside =
    e2 ∙ ap (λ (x : ElaborationContext). after c1 (block x b m1)) (ei ∙ ap (λ (y : Opened). within s y) eo)
    ∙ ap (λ (x : Coded). after x.code (block (within s u) b x.made)) e1 in
    let b3 : c3 ≡ c2 ++ closing u ends = e3 ∙ ap (λ (y : Opened). c2 ++ closing y reached) eo ∙ ap (λ (y : Bool). c2 ++ closing u y) r in
    ap (λ (c : Code). coded c m2) b3
    ∙ ap (λ (x : Coded). coded (x.code ++ closing u ends) x.made) b2
    ∙ ap (λ (c : Code). coded c inside.made) (append_assoc (c0 ++ begun.code) inside.code (closing u ends) ∙ append_assoc c0 begun.code (inside.code ++ closing u ends))
    ∙ ap (λ (x : Coded). after c0 (after begun.code x)) (sym (closed u ends inside))

-- ---- lists of statements

-- these statements, where they can be reached
abbrev pub stmts_where : Bool → ElaborationContext → StmtTrees → List Ty → Coded
stmts_where reached s ss made = (if reached then stmts s ss else nothing) made

pub next_stmt : (s : ElaborationContext) (x : StmtTree) (ss : StmtTrees) (c1 c2 : Code) (m1 m2 : List Ty) (reached : Bool)
    → coded c2 m2 ≡ after c1 ((if reached then stmt s x else nothing) m1)
    → after c2 (stmts_where (reached && can_end x) s ss m2) ≡ after c1 (stmts_where reached s (Before x ss) m1)
next_stmt s x ss c1 c2 m1 m2 true e =
    ap (λ (y : Coded). after y.code (stmts_where (can_end x) s ss y.made)) e
    ∙ ap (λ (c : Code). coded c (stmts_where (can_end x) s ss (stmt s x m1).made).made) (append_assoc c1 (stmt s x m1).code (stmts_where (can_end x) s ss (stmt s x m1).made).code)
next_stmt s x ss c1 c2 m1 m2 false e =
    ap (λ (y : Coded). after y.code (nothing y.made)) e ∙ ap (λ (c : Code). coded c m1) (append-nil (c1 ++ []))

pub ends_next : (x : StmtTree) (ss : StmtTrees) (reached : Bool) → (reached && can_end x) && all_can_end ss ≡ (reached && all_can_end (Before x ss))
ends_next x ss true = refl
ends_next x ss false = refl

-- ---- the beginning of an `expose`

pub opened_code : (s : ElaborationContext) (p : Place) (e : ExprTree) (t : Option ℕ) (c0 c1 c2 : Code) (m0 m1 : List Ty) (x u : ℕ)
    → valued_as c1 (LocalExpr (place_of e) x) m1 ≡ valued_after c0 (object_of s e m0) → x ≡ next s.numbers (right_side s e m0).made → u ≡ exposed_class e t
    → c2 ≡ c1 ++ UnpackStmt p x u ∷ []
    → coded c2 m1 ≡ after c0 (opening s p e t m0)
opened_code s p e t c0 c1 c2 m0 m1 x u e1 ex eu e2 =
    let v = object_of s e m0 in
    let n = next s.numbers (right_side s e m0).made in
    let k = exposed_class e t in
    ap (λ (c : Code). coded c m1) (e2 ∙ ap (λ (y : ℕ). c1 ++ UnpackStmt p y u ∷ []) ex ∙ ap (λ (y : ℕ). c1 ++ UnpackStmt p n y ∷ []) eu)
    ∙ ap (λ (y : Valued). coded (y.code ++ UnpackStmt p n k ∷ []) y.made) e1
    ∙ ap (λ (c : Code). coded c v.made) (append_assoc c0 v.code (UnpackStmt p n k ∷ []))
