-- What is made of statements, after the code before them.
use Rattle.std.proofs.Common.{◌≡◌, ℕ, Option, List, [], ◌∷◌, ◌++◌, Bool, true, false, cond, refl, ap, sym, ◌∙◌, append_assoc, true≢false}
use Rattle.std.specs.Prelude.{◌||◌, map}
use Rattle.std.proofs.lemmas.List.{append-nil}
use Rattle.ss_core.specs.declared.names.Place.{Place}
use Rattle.ss_core.specs.declared.names.Ty.{Ty}
use Rattle.ss_core.specs.Tree as core
use Rattle.ss_core.specs.Tree.{WriteElementStmt}
use Rattle.ss_typed.specs.Tree.{ExprTree, ThisOf, LocalOf, FieldOf, ElementOf, DeclaratorTree}
use Rattle.ss_typed.specs.Types.{type_of}
use Rattle.ss_expand_rules.specs.Numbers.{number, plain}
use Rattle.ss_expand_rules.specs.Program.{field_at}
use Rattle.ss_expand_rules.specs.Calls.{has_call}
use Rattle.ss_typed.specs.Shapes.{is_this, place_of}
use Rattle.ss_expand_rules.specs.Code.{Coded, nothing, after, then_code, and_then}
use Rattle.ss_expand_rules.specs.Lifting.{ElaborationContext, Source, put, Lifted, Valued, in_local, right_side, value, valued, next, temporary_type, any_object, class_of_type}
use Rattle.ss_expand_rules.specs.Simple.{into_local, write_of, write, write_value, assign_settled, Settled, settled_as, settle_lifted, settle_part, settle_both, settle, assign_after, declared_as, declare, drop_result, alone}
use Rattle.ss_expand_expressions.specs.Sources.{lifted_after, valued_after}
use Rattle.ss_expand_expressions.specs.Operands.{valued_as}
use Rattle.ss_expand_expressions.proofs.Behind.{valued_goes_after}
use Rattle.ss_expand_lifting.specs.Lefts.{may_be_left}
use Rattle.ss_expand_lifting.specs.Made.{settled_after}
use Rattle.ss_expand_lifting.proofs.Joins.{lifted_as}

abbrev pub coded_as : List core.StmtTree → List Ty → Coded
coded_as code made = record { code = code; made = made }

abbrev pub settled_as_is : List core.StmtTree → ExprTree → List Ty → Settled
settled_as_is code target made = record { code = code; target = target; made = made }

pub after_nothing : (before : List core.StmtTree) (made : List Ty) → coded_as before made ≡ after before (nothing made)
after_nothing before made = ap (λ code. coded_as code made) (sym (append-nil before))

-- ---- values of assignments

pub local_after : (p : Place) (x : ℕ) (before now : List core.StmtTree) (s : Source) (made : List Ty) (l : Lifted)
    → lifted_as now s made ≡ lifted_after before l → coded_as (now ++ put p x s ∷ []) made ≡ after before (into_local p x l)
local_after p x before now s made l h =
    ap (λ (r : Lifted). coded_as (r.code ++ put p x r.source ∷ []) r.made) h
    ∙ ap (λ code. coded_as code l.made) (append_assoc before l.code (put p x l.source ∷ []))

pub write_after : (s : ElaborationContext) (target : ExprTree) (before now : List core.StmtTree) (v : core.ExprTree) (made : List Ty) (w : Valued)
    → valued_as now v made ≡ valued_after before w → coded_as (now ++ write s target v) made ≡ after before (write_value s target w)
write_after s target before now v made w h =
    ap (λ (r : Valued). coded_as (r.code ++ write s target r.value) r.made) h
    ∙ ap (λ code. coded_as code w.made) (append_assoc before w.code (write s target w.value))

pub value_after : (s : ElaborationContext) (e : ExprTree) (before : List core.StmtTree) (types : List Ty) (v : Valued) (l : Lifted)
    → v ≡ valued s.numbers e l → l ≡ lifted_after before (right_side s e types) → v ≡ valued_after before (value s e types)
value_after s e before types v l h k = h ∙ ap (valued s.numbers e) k ∙ valued_goes_after s.numbers e before (right_side s e types)

pub assign_other : (s : ElaborationContext) (target e : ExprTree) (made : List Ty) → may_be_left target ≡ false → assign_settled s target e made ≡ write_value s target (value s e made)
assign_other s (LocalOf p x t) e made h = absurd (true≢false h)
assign_other s target e made h = refl

pub write_other : (s : ElaborationContext) (target : ExprTree) (v : core.ExprTree) → may_be_left target ≡ false → write s target v ≡ []
write_other s (FieldOf p o f t) v h = absurd (true≢false h)
write_other s (ElementOf p a i) v h = absurd (true≢false h)
write_other s target v h = refl

-- ---- settled left sides

pub settle_other : (s : ElaborationContext) (target : ExprTree) (made : List Ty) → may_be_left target ≡ false → settle s target made ≡ settled_as_is [] target made
settle_other s (FieldOf p o f t) made h = absurd (true≢false h)
settle_other s (ElementOf p a i) made h = absurd (true≢false h)
settle_other s target made h = refl

pub settled_alone : (before : List core.StmtTree) (target : ExprTree) (made : List Ty) → settled_as_is before target made ≡ settled_after before (settled_as_is [] target made)
settled_alone before target made = ap (λ code. settled_as_is code target made) (sym (append-nil before))

pub settled_as_after : (f : ExprTree → ExprTree) (before now : List core.StmtTree) (t target : ExprTree) (made : List Ty) (s : Settled)
    → settled_as_is now t made ≡ settled_after before s → target ≡ f t → settled_as_is now target made ≡ settled_after before (settled_as s f)
settled_as_after f before now t target made s h e = ap (λ x. settled_as_is now x made) e ∙ ap (λ (x : Settled). settled_as x f) h

pub settled_both_after : (f : ExprTree → ExprTree → ExprTree) (before now after : List core.StmtTree) (a i target : ExprTree) (made more : List Ty) (s : Settled) (t : List Ty → Settled)
    → settled_as_is now a made ≡ settled_after before s → settled_as_is after i more ≡ settled_after now (t made) → target ≡ f a i
    → settled_as_is after target more ≡ settled_after before (settle_both s t f)
settled_both_after f before now after a i target made more s t h k e =
    ap (λ x. settled_as_is after x more) e
    ∙ ap (λ (x : Settled). settled_as_is x.code (f a x.target) x.made) k
    ∙ ap (λ (x : Settled). settled_as_is (x.code ++ (t x.made).code) (f x.target (t x.made).target) (t x.made).made) h
    ∙ ap (λ code. settled_as_is code (f s.target (t s.made).target) (t s.made).made) (append_assoc before s.code (t s.made).code)

pub settle_lifted_after : (s : ElaborationContext) (e : ExprTree) (before now : List core.StmtTree) (x : Source) (made : List Ty) (l : Lifted) (n : ℕ)
    → lifted_as now x made ≡ lifted_after before l → n ≡ next s.numbers made
    → settled_as_is (now ++ put (place_of e) n x ∷ []) (LocalOf (place_of e) n (temporary_type any_object (type_of e))) (made ++ temporary_type any_object (type_of e) ∷ [])
    ≡ settled_after before (settle_lifted s e l)
settle_lifted_after s e before now x made l n h k =
    let t = temporary_type any_object (type_of e) in
    ap (λ m. settled_as_is (now ++ put (place_of e) m x ∷ []) (LocalOf (place_of e) m t) (made ++ t ∷ [])) k
    ∙ ap (λ (r : Lifted). settled_as_is (r.code ++ put (place_of e) (next s.numbers r.made) r.source ∷ []) (LocalOf (place_of e) (next s.numbers r.made) t) (r.made ++ t ∷ [])) h
    ∙ ap (λ code. settled_as_is code (LocalOf (place_of e) (next s.numbers l.made) t) (l.made ++ t ∷ [])) (append_assoc before l.code (put (place_of e) (next s.numbers l.made) l.source ∷ []))

pub this_settles : (s : ElaborationContext) (e : ExprTree) (made : List Ty) → is_this e ≡ true → settle_part s e made ≡ settled_as_is [] e made
this_settles s e made h = ap (λ b. cond b (settled_as_is [] e made) (settle_lifted s e (right_side s e made))) h

pub other_settles : (s : ElaborationContext) (e : ExprTree) (made : List Ty) → is_this e ≡ false → settle_part s e made ≡ settle_lifted s e (right_side s e made)
other_settles s e made h = ap (λ b. cond b (settled_as_is [] e made) (settle_lifted s e (right_side s e made))) h

pub this_again_is : (e : ExprTree) → is_this e ≡ true → ThisOf (place_of e) (class_of_type (type_of e)) ≡ e
this_again_is (ThisOf p t) h = refl
this_again_is e h = absurd (true≢false (sym h))

-- ---- statements one after the other

pub then_after : (before now : List core.StmtTree) (c : Coded) (more : List Ty → Coded) (made : List Ty) (d : Coded)
    → coded_as now made ≡ after before c → d ≡ after now (more made) → d ≡ after before (then_code c more)
then_after before now c more made d h k =
    k ∙ ap (λ (x : Coded). after x.code (more x.made)) h
    ∙ ap (λ code. coded_as code (more c.made).made) (append_assoc before c.code (more c.made).code)

pub assign_is_after : (s : ElaborationContext) (e : ExprTree) (before now : List core.StmtTree) (target : ExprTree) (made : List Ty) (t : Settled) (d : Coded)
    → settled_as_is now target made ≡ settled_after before t → d ≡ after now (assign_settled s target e made) → d ≡ after before (assign_after s e t)
assign_is_after s e before now target made t d h k =
    k ∙ ap (λ (x : Settled). after x.code (assign_settled s x.target e x.made)) h
    ∙ ap (λ code. coded_as code (assign_settled s t.target e t.made).made) (append_assoc before t.code (assign_settled s t.target e t.made).code)

pub dropped_after : (before now more : List core.StmtTree) (x : Source) (made : List Ty) (l : Lifted)
    → lifted_as now x made ≡ lifted_after before l → more ≡ now ++ drop_result x → coded_as more made ≡ after before (alone l)
dropped_after before now more x made l h k =
    ap (λ code. coded_as code made) k
    ∙ ap (λ (r : Lifted). coded_as (r.code ++ drop_result r.source) r.made) h
    ∙ ap (λ code. coded_as code l.made) (append_assoc before l.code (drop_result l.source))

-- ---- operands that settle

pub operand_settles : (s : ElaborationContext) (e u : ExprTree) (before now more : List core.StmtTree) (x : Source) (q : Place) (n : ℕ) (w t : Ty) (kind : Option Ty) (v : core.ExprTree) (types made longer : List Ty)
    → lifted_as now x made ≡ lifted_after before (right_side s e types) → q ≡ place_of e → kind ≡ type_of e → w ≡ any_object → n ≡ next s.numbers made → t ≡ temporary_type w kind
    → valued_as more v longer ≡ in_local q n t (lifted_as now x made) → u ≡ LocalOf q n t
    → settled_as_is more u longer ≡ settled_after before (settle_lifted s e (right_side s e types))
operand_settles s e u before now more x q n w t kind v types made longer h place ty any number kept k is =
    ap (λ z. settled_as_is more z longer) is
    ∙ ap (λ (r : Valued). settled_as_is r.code (LocalOf q n t) r.made) k
    ∙ ap (λ z. settled_as_is (now ++ put z n x ∷ []) (LocalOf z n t) (made ++ t ∷ [])) place
    ∙ ap (λ z. settled_as_is (now ++ put (place_of e) n x ∷ []) (LocalOf (place_of e) n z) (made ++ z ∷ [])) (kept ∙ ap (λ z. temporary_type z kind) any ∙ ap (temporary_type any_object) ty)
    ∙ settle_lifted_after s e before now x made (right_side s e types) n h number

-- `this` stays, and a target may be written otherwise
pub this_stays : (s : ElaborationContext) (e u : ExprTree) (before : List core.StmtTree) (types : List Ty) → is_this e ≡ true → u ≡ e → settled_as_is before u types ≡ settled_after before (settle_part s e types)
this_stays s e u before types this same =
    ap (λ z. settled_as_is before z types) same ∙ settled_alone before e types ∙ ap (settled_after before) (sym (this_settles s e types this))

pub field_settles : (s : ElaborationContext) (p : Place) (o target t u : ExprTree) (f : ℕ) (k : Ty) (before now : List core.StmtTree) (types made : List Ty)
    → target ≡ FieldOf p o f k → settled_as_is now t made ≡ settled_after before (settle_part s o types) → u ≡ FieldOf p t f k
    → settled_as_is now u made ≡ settled_after before (settle s target types)
field_settles s p o target t u f k before now types made is h e =
    settled_as_after (λ x. FieldOf p x f k) before now t u made (settle_part s o types) h e ∙ ap (λ z. settled_after before (settle s z types)) (sym is)

pub element_settles : (s : ElaborationContext) (p : Place) (a i target t r u : ExprTree) (before now more : List core.StmtTree) (types made longer : List Ty)
    → target ≡ ElementOf p a i → settled_as_is now t made ≡ settled_after before (settle_part s a types) → settled_as_is more r longer ≡ settled_after now (settle_part s i made) → u ≡ ElementOf p t r
    → settled_as_is more u longer ≡ settled_after before (settle s target types)
element_settles s p a i target t r u before now more types made longer is h k e =
    settled_both_after (λ x y. ElementOf p x y) before now more t r u made longer (settle_part s a types) (settle_part s i) h k e ∙ ap (λ z. settled_after before (settle s z types)) (sym is)

pub other_stays : (s : ElaborationContext) (target : ExprTree) (before : List core.StmtTree) (types : List Ty) → may_be_left target ≡ false → settled_as_is before target types ≡ settled_after before (settle s target types)
other_stays s target before types h = settled_alone before target types ∙ ap (settled_after before) (sym (settle_other s target types h))

pub local_stays : (s : ElaborationContext) (target : ExprTree) (p : Place) (x : ℕ) (k : Ty) (before : List core.StmtTree) (types : List Ty) → target ≡ LocalOf p x k → settled_as_is before target types ≡ settled_after before (settle s target types)
local_stays s target p x k before types h =
    ap (λ z. settled_as_is before z types) h ∙ settled_alone before (LocalOf p x k) types ∙ ap (λ z. settled_after before (settle s z types)) (sym h)

-- ---- writes

pub field_written : (s : ElaborationContext) (target : ExprTree) (p : Place) (o : ExprTree) (f : ℕ) (k : Ty) (before now : List core.StmtTree) (v obj : core.ExprTree)
    → target ≡ FieldOf p o f k → obj ≡ plain s.numbers o → now ≡ before ++ write_of p obj f (field_at s.program f) v → now ≡ before ++ write s target v
field_written s target p o f k before now v obj is same n =
    n ∙ ap (λ z. before ++ write_of p z f (field_at s.program f) v) same ∙ ap (λ z. before ++ write s z v) (sym is)

pub element_written : (s : ElaborationContext) (target : ExprTree) (p : Place) (a i : ExprTree) (before now : List core.StmtTree) (v array index : core.ExprTree)
    → target ≡ ElementOf p a i → array ≡ plain s.numbers a → index ≡ plain s.numbers i → now ≡ before ++ WriteElementStmt p array index v ∷ [] → now ≡ before ++ write s target v
element_written s target p a i before now v array index is one two n =
    n ∙ ap (λ z. before ++ WriteElementStmt p z index v ∷ []) one ∙ ap (λ z. before ++ WriteElementStmt p (plain s.numbers a) z v ∷ []) two ∙ ap (λ z. before ++ write s z v) (sym is)

pub local_written : (s : ElaborationContext) (target : ExprTree) (p : Place) (x : ℕ) (k : Ty) (before : List core.StmtTree) (v : core.ExprTree) → target ≡ LocalOf p x k → before ≡ before ++ write s target v
local_written s target p x k before v is = sym (append-nil before) ∙ ap (λ z. before ++ write s z v) (sym is)

pub other_written : (s : ElaborationContext) (target : ExprTree) (before : List core.StmtTree) (v : core.ExprTree) → may_be_left target ≡ false → before ≡ before ++ write s target v
other_written s target before v h = sym (append-nil before) ∙ ap (λ z. before ++ z) (sym (write_other s target v h))

pub value_written : (s : ElaborationContext) (target : ExprTree) (before now more : List core.StmtTree) (v : core.ExprTree) (made : List Ty) (w : Valued)
    → valued_as now v made ≡ valued_after before w → more ≡ now ++ write s target v → coded_as more made ≡ after before (write_value s target w)
value_written s target before now more v made w h n = ap (λ code. coded_as code made) n ∙ write_after s target before now v made w h

pub local_assigned : (s : ElaborationContext) (target : ExprTree) (p : Place) (x n : ℕ) (k : Ty) (e : ExprTree) (before now more : List core.StmtTree) (r : Source) (types made : List Ty)
    → target ≡ LocalOf p x k → n ≡ number s.numbers x → lifted_as now r made ≡ lifted_after before (right_side s e types) → more ≡ now ++ put p n r ∷ []
    → coded_as more made ≡ after before (assign_settled s target e types)
local_assigned s target p x n k e before now more r types made is same h m =
    ap (λ code. coded_as code made) (m ∙ ap (λ z. now ++ put p z r ∷ []) same)
    ∙ local_after p (number s.numbers x) before now r made (right_side s e types) h
    ∙ ap (λ z. after before (assign_settled s z e types)) (sym is)

-- what is no local gets a written value
pub field_assigned : (s : ElaborationContext) (target : ExprTree) (p : Place) (o : ExprTree) (f : ℕ) (k : Ty) (e : ExprTree) (made : List Ty) → target ≡ FieldOf p o f k → write_value s target (value s e made) ≡ assign_settled s target e made
field_assigned s target p o f k e made is = ap (λ z. write_value s z (value s e made)) is ∙ ap (λ z. assign_settled s z e made) (sym is)

pub element_assigned : (s : ElaborationContext) (target : ExprTree) (p : Place) (a i : ExprTree) (e : ExprTree) (made : List Ty) → target ≡ ElementOf p a i → write_value s target (value s e made) ≡ assign_settled s target e made
element_assigned s target p a i e made is = ap (λ z. write_value s z (value s e made)) is ∙ ap (λ z. assign_settled s z e made) (sym is)
