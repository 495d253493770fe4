-- What a test tells, as a list, is what is known where it has come out so.
use Rattle.std.proofs.Common.{◌≡◌, ℕ, Bool, true, false, List, [], ◌∷◌, ◌++◌, length, take, Option, Some, None, refl, sym, ap, ◌∙◌}
use Rattle.std.specs.Prelude.{not, ◌==◌, ◌&&◌, ◌||◌, if◌then◌else◌}
use Rattle.std.specs.Bool.{beq}
use Rattle.ss_core.specs.declared.names.Place.{Place}
use Rattle.ss_core.specs.declared.expr.Link.{Link}
use Rattle.ss_core.specs.View.{Behind, step_step}
use Rattle.ss_core.specs.declared.expr.Expr.TheOpen as shape
use Rattle.ss_core.specs.declared.expr.Expr.TheOpen.{Step-F}
use Rattle.ss_vcgen_types.proofs.Grouping.{link_shape}
use Rattle.ss_vcgen_types.proofs.Forms.{link_no_local}
use Rattle.ss_core.specs.declared.expr.Operator.{Operator}
use Rattle.ss_core.specs.declared.expr.Operator.TheVariants as op
use Rattle.ss_core.specs.Tree.{ExprTree, IntExpr, BoolExpr, NullExpr, LocalExpr, FieldExpr, ElementExpr, LengthExpr, NegateExpr, NotExpr, BinaryExpr, ImpliesExpr, IffExpr, IsExpr, AsExpr, CastExpr, OldExpr, QuantifiedExpr, StateExpr, OwnersExpr, DefaultExpr}
use Rattle.ss_core.specs.Parts.{link_after}
use Rattle.ss_store_rules.specs.NonNull.{Facts, both, Known, is_null_literal, is_local_number, operation_facts, operation_tells, learned, tells, known_tested, known_right, side_facts}
use Rattle.ss_vcgen_types.specs.declared.told.Told.{Told}
use Rattle.ss_vcgen_types.specs.Told.{local_of, not_null, told_where, told_by_operation, told_by, facts_of, all_facts, tells_of, all_tell, with_told}

-- facts with the same locals are the same
pub same_facts : {f g : Facts} → ((x : ℕ) → f x ≡ g x) → f ≡ g
same_facts h = λ i x. h x i

or_assoc : (a b c : Bool) → ((a || b) || c) ≡ (a || (b || c))
or_assoc true b c = refl
or_assoc false b c = refl

or_false : (a : Bool) → (a || false) ≡ a
or_false true = refl
or_false false = refl

-- ---- facts

pub facts_append : (k : Known) (ts us : List Told) (y : ℕ) → all_facts k (ts ++ us) y ≡ (all_facts k ts y || all_facts k us y)
facts_append k [] us y = refl
facts_append k (t ∷ ts) us y = ap (λ b. facts_of k t y || b) (facts_append k ts us y) ∙ sym (or_assoc (facts_of k t y) (all_facts k ts y) (all_facts k us y))

facts_of_local : (k : Known) (x y : ℕ) → ((x == y) || false) ≡ (x == y)
facts_of_local k x y = or_false (x == y)

facts_where : (k : Known) (e : ExprTree) (b : Bool) (y : ℕ) → all_facts k (told_where b (not_null (local_of e))) y ≡ (b && is_local_number e y)
facts_where k e false y = refl
facts_where k (LocalExpr p x) true y = or_false (x == y)
facts_where k (IntExpr p n) true y = refl
facts_where k (BoolExpr p b) true y = refl
facts_where k (NullExpr p) true y = refl
facts_where k (FieldExpr p e f) true y = refl
facts_where k (ElementExpr p a i) true y = refl
facts_where k (LengthExpr p e) true y = refl
facts_where k (NegateExpr p e) true y = refl
facts_where k (NotExpr p e) true y = refl
facts_where k (BinaryExpr p o a b) true y = refl
facts_where k (ImpliesExpr p a b) true y = refl
facts_where k (IffExpr p a b) true y = refl
facts_where k (IsExpr p e t) true y = refl
facts_where k (AsExpr p e t) true y = refl
facts_where k (CastExpr p t n e) true y = refl
facts_where k (OldExpr p e) true y = refl
facts_where k (QuantifiedExpr p q n l h e) true y = refl
facts_where k (StateExpr p w e) true y = refl
facts_where k (OwnersExpr p w a b) true y = refl
facts_where k (DefaultExpr p d) true y = refl

and_assoc : (a b c : Bool) → ((a && b) && c) ≡ (a && b && c)
and_assoc true b c = refl
and_assoc false b c = refl

facts_by_operation : (k : Known) (o : Operator) (v : Bool) (a b : ExprTree) (y : ℕ) → ((u : Bool) → all_facts k (told_by a u) y ≡ learned k a u y) → ((u : Bool) → all_facts k (told_by b u) y ≡ learned k b u y)
    → all_facts k (told_by_operation o v a b (told_by a) (told_by b)) y ≡ operation_facts o v a b (learned k a) (learned k b) y
facts_by_operation k op.And true a b y f g = facts_append k (told_by a true) (told_by b true) y ∙ ap (λ z. z || all_facts k (told_by b true) y) (f true) ∙ ap (λ z. learned k a true y || z) (g true)
facts_by_operation k op.And false a b y f g = refl
facts_by_operation k op.Or true a b y f g = refl
facts_by_operation k op.Or false a b y f g = facts_append k (told_by a false) (told_by b false) y ∙ ap (λ z. z || all_facts k (told_by b false) y) (f false) ∙ ap (λ z. learned k a false y || z) (g false)
facts_by_operation k op.NotEqual v a b y f g = facts_where k a (v && is_null_literal b) y ∙ and_assoc v (is_null_literal b) (is_local_number a y)
facts_by_operation k op.Equal v a b y f g = facts_where k a (not v && is_null_literal b) y ∙ and_assoc (not v) (is_null_literal b) (is_local_number a y)
facts_by_operation k op.Less v a b y f g = refl
facts_by_operation k op.LessEqual v a b y f g = refl
facts_by_operation k op.Greater v a b y f g = refl
facts_by_operation k op.GreaterEqual v a b y f g = refl
facts_by_operation k op.Add v a b y f g = refl
facts_by_operation k op.Subtract v a b y f g = refl
facts_by_operation k op.Multiply v a b y f g = refl
facts_by_operation k op.Divide v a b y f g = refl
facts_by_operation k op.Remainder v a b y f g = refl

facts_are : (k : Known) (e : ExprTree) (v : Bool) (y : ℕ) → all_facts k (told_by e v) y ≡ learned k e v y
facts_are k (LocalExpr p x) v y = or_false (side_facts (k.sides x v) y)
facts_are k (NotExpr p e) v y = facts_are k e (not v) y
facts_are k (BinaryExpr p o a b) v y = facts_by_operation k o v a b y (λ u. facts_are k a u y) (λ u. facts_are k b u y)
facts_are k (IsExpr p e t) v y = facts_where k e v y
facts_are k (IntExpr p n) v y = refl
facts_are k (BoolExpr p b) v y = refl
facts_are k (NullExpr p) v y = refl
facts_are k (FieldExpr p e f) v y = refl
facts_are k (ElementExpr p a i) v y = refl
facts_are k (LengthExpr p e) v y = refl
facts_are k (NegateExpr p e) v y = refl
facts_are k (ImpliesExpr p a b) v y = refl
facts_are k (IffExpr p a b) v y = refl
facts_are k (AsExpr p e t) v y = refl
facts_are k (CastExpr p t n e) v y = refl
facts_are k (OldExpr p e) v y = refl
facts_are k (QuantifiedExpr p q n l h e) v y = refl
facts_are k (StateExpr p w e) v y = refl
facts_are k (OwnersExpr p w a b) v y = refl
facts_are k (DefaultExpr p d) v y = refl

pub learned_is : (k : Known) (e : ExprTree) (v : Bool) → all_facts k (told_by e v) ≡ learned k e v
learned_is k e v = same_facts (facts_are k e v)

-- ---- truth values

tell_append : (ts us : List Told) (x : ℕ) (u : Bool) → all_tell (ts ++ us) x u ≡ (all_tell ts x u || all_tell us x u)
tell_append [] us x u = refl
tell_append (t ∷ ts) us x u = ap (λ b. tells_of t x u || b) (tell_append ts us x u) ∙ sym (or_assoc (tells_of t x u) (all_tell ts x u) (all_tell us x u))

tell_no_local : (l : Option ℕ) (b : Bool) (x : ℕ) (u : Bool) → all_tell (told_where b (not_null l)) x u ≡ false
tell_no_local l false x u = refl
tell_no_local None true x u = refl
tell_no_local (Some y) true x u = refl

tell_by_operation : (o : Operator) (v : Bool) (a b : ExprTree) (x : ℕ) (u : Bool) → ((w : Bool) → all_tell (told_by a w) x u ≡ tells a w x u) → ((w : Bool) → all_tell (told_by b w) x u ≡ tells b w x u)
    → all_tell (told_by_operation o v a b (told_by a) (told_by b)) x u ≡ operation_tells o v (tells a v x u) (tells b v x u)
tell_by_operation op.And true a b x u f g = tell_append (told_by a true) (told_by b true) x u ∙ ap (λ z. z || all_tell (told_by b true) x u) (f true) ∙ ap (λ z. tells a true x u || z) (g true)
tell_by_operation op.And false a b x u f g = refl
tell_by_operation op.Or true a b x u f g = refl
tell_by_operation op.Or false a b x u f g = tell_append (told_by a false) (told_by b false) x u ∙ ap (λ z. z || all_tell (told_by b false) x u) (f false) ∙ ap (λ z. tells a false x u || z) (g false)
tell_by_operation op.NotEqual v a b x u f g = tell_no_local (local_of a) (v && is_null_literal b) x u
tell_by_operation op.Equal v a b x u f g = tell_no_local (local_of a) (not v && is_null_literal b) x u
tell_by_operation op.Less v a b x u f g = refl
tell_by_operation op.LessEqual v a b x u f g = refl
tell_by_operation op.Greater v a b x u f g = refl
tell_by_operation op.GreaterEqual v a b x u f g = refl
tell_by_operation op.Add v a b x u f g = refl
tell_by_operation op.Subtract v a b x u f g = refl
tell_by_operation op.Multiply v a b x u f g = refl
tell_by_operation op.Divide v a b x u f g = refl
tell_by_operation op.Remainder v a b x u f g = refl

pub tells_are : (e : ExprTree) (v : Bool) (x : ℕ) (u : Bool) → all_tell (told_by e v) x u ≡ tells e v x u
tells_are (LocalExpr p y) v x u = or_false (x == y && beq u v)
tells_are (NotExpr p e) v x u = tells_are e (not v) x u
tells_are (BinaryExpr p o a b) v x u = tell_by_operation o v a b x u (λ w. tells_are a w x u) (λ w. tells_are b w x u)
tells_are (IsExpr p e t) v x u = tell_no_local (local_of e) v x u
tells_are (IntExpr p n) v x u = refl
tells_are (BoolExpr p b) v x u = refl
tells_are (NullExpr p) v x u = refl
tells_are (FieldExpr p e f) v x u = refl
tells_are (ElementExpr p a i) v x u = refl
tells_are (LengthExpr p e) v x u = refl
tells_are (NegateExpr p e) v x u = refl
tells_are (ImpliesExpr p a b) v x u = refl
tells_are (IffExpr p a b) v x u = refl
tells_are (AsExpr p e t) v x u = refl
tells_are (CastExpr p t n e) v x u = refl
tells_are (OldExpr p e) v x u = refl
tells_are (QuantifiedExpr p q n l h e) v x u = refl
tells_are (StateExpr p w e) v x u = refl
tells_are (OwnersExpr p w a b) v x u = refl
tells_are (DefaultExpr p d) v x u = refl

-- ---- what is known

pub known_told : (e : ExprTree) (v : Bool) (k : Known) → with_told (told_by e v) k ≡ known_tested e v k
known_told e v k = λ i. record k {
  facts = both k.facts (learned_is k e v i);
  sides = λ x u. if tells_are e v x (not u) i then None else k.sides x u;
}

pub told_of_front : (ts : List Told) (e : ExprTree) (v : Bool) (k : Known) → ts ≡ told_by e v → with_told ts k ≡ known_tested e v k
told_of_front ts e v k h = ap (λ us. with_told us k) h ∙ known_told e v k

-- nothing is told
pub nothing_told : (k : Known) → with_told [] k ≡ k
nothing_told k = λ i. record k { facts = λ x. or_false (k.facts x) i }

pub told_right_other : (o : Operator) (e : ExprTree) (k : Known) → k ≡ known_right o e k → with_told [] k ≡ known_right o e k
told_right_other o e k h = nothing_told k ∙ h

-- ---- along a chain

take_first : (xs ys : List Told) (n : ℕ) → n ≡ length xs → take n (xs ++ ys) ≡ xs
take_first xs ys n e = ap (λ m. take m (xs ++ ys)) e ∙ front xs ys
  where
    front : (xs ys : List Told) → take (length xs) (xs ++ ys) ≡ xs
    front [] ys = refl
    front (x ∷ xs) ys = ap (λ zs. x ∷ zs) (front xs ys)

-- one link more
pub tell_next : (before found after told_front told_next : List Told) (mark : ℕ) → mark ≡ length before → found ≡ before ++ told_front →
    (found ≡ take mark found ++ told_front → after ≡ take mark found ++ told_next) → after ≡ before ++ told_next
tell_next before found after told_front told_next mark m e next =
    let front : take mark found ≡ before = ap (take mark) e ∙ take_first before told_front mark m in
    next (e ∙ ap (λ xs. xs ++ told_front) (sym front)) ∙ ap (λ xs. xs ++ told_next) front

-- a link makes no local
pub no_local_after : (l : Link) (p : Place) (e : ExprTree) → local_of (link_after l p e) ≡ None
no_local_after l p e = ap (λ (b : Behind). local_of (b p e)) (link_shape l).is ∙ link_no_local (link_shape l).shape p e

-- a path with at least one step tells nothing
pub step_tells : (v : Bool) (s : Step-F ExprTree Behind Behind) (p : Place) (t : ExprTree) → told_by (step_step s p t) v ≡ []
step_tells v (shape.Field f) p t = refl
step_tells v (shape.Element i) p t = refl
step_tells v shape.Length p t = refl

pub append_none : (ts us : List Told) → us ≡ [] → ts ≡ ts ++ us
append_none [] us e = sym e
append_none (t ∷ ts) us e = ap (λ xs. t ∷ xs) (append_none ts us e)
