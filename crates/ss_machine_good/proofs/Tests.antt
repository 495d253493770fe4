-- What a test says of the locals is so where it has come out that way.
use Rattle.std.proofs.Common.{◌≡◌, ℕ, List, Bool, true, false, ◌&&◌, ◌||◌, not, Option, Some, None, Ok, eqb, refl, sym, ◌∙◌, ap, subst, inl, inr, ◌⊎◌, ⊎_elim}
use Rattle.std.specs.Prelude.{if◌then◌else◌}
use Rattle.std.specs.Bool.{beq}
use Rattle.std.proofs.lemmas.Bool.{false≢true, true≢false, and_parts, or_cases, eqb-true, cases_Bool}
use Rattle.ss_core.specs.declared.names.Place.{Place}
use Rattle.ss_core.specs.declared.names.Ty.{Ty}
use Rattle.ss_core.specs.declared.names.Ty.TheVariants as ty
use Rattle.ss_core.specs.declared.expr.Operator.{Operator}
use Rattle.ss_core.specs.declared.expr.Operator.TheVariants as op
use Rattle.ss_core.specs.Tree.{ClassTree, ExprTree, IntExpr, BoolExpr, NullExpr, LocalExpr, FieldExpr, ElementExpr, LengthExpr, NegateExpr, NotExpr, BinaryExpr, ImpliesExpr, IffExpr, IsExpr, AsExpr, CastExpr, OldExpr, QuantifiedExpr, StateExpr, OwnersExpr, DefaultExpr}
use Rattle.ss_store_rules.specs.declared.Value.{Value}
use Rattle.ss_store_rules.specs.declared.Value.TheVariants as value
use Rattle.ss_store_rules.specs.Store.{Object}
use Rattle.ss_store_rules.specs.Numbers.{Outcome}
use Rattle.ss_store_rules.specs.Reads.{as_bool, same_value}
use Rattle.ss_store_rules.specs.Values.{Setting, local_value, and_then, truth, is_of, decides, applied, operation, value_of}
use Rattle.ss_store_rules.specs.NonNull.{no_facts, Known, is_null_literal, is_local_number, side_facts, compared, learned, tells, known_tested}
use Rattle.ss_store_rules.specs.Types.{is_bool, where_typed, operation_type, type_of}
use Rattle.ss_store_rules.specs.Good.{has_type}
use Rattle.ss_machine_typed.specs.Settings.{IsGoodSetting}
use Rattle.ss_machine_typed.proofs.Outcomes.{and_then_ok, ok_same, where_typed_some}
use Rattle.ss_machine_typed.proofs.Sound.{value_sound}
use Rattle.ss_machine_good.specs.Known.{IsNotNull, AreNotNull, IsTrueOf}
use Rattle.ss_store_rules.proofs.Owners.{not_true}

abbrev value_ok : Value → Outcome
value_ok v = Ok v

-- the outcome is this truth value
abbrev IsSo : Outcome → Bool → Type 0
IsSo r v = r ≡ Ok (value.Bool v)

bool_same : (v w : Bool) → value.Bool v ≡ value.Bool w → v ≡ w
bool_same v w e = ap as_bool e

-- what a truth value comes from
not_so : (r : Outcome) (v : Bool) → IsSo (and_then r (λ w. truth (not (as_bool w)))) v → (w : Value) × (r ≡ Ok w) × (not (as_bool w) ≡ v)
not_so r v h =
    let a = and_then_ok r (λ w. truth (not (as_bool w))) (value.Bool v) h in
    (a.0, a.1, bool_same _ v (ok_same (value.Bool (not (as_bool a.0))) (value.Bool v) a.2))

if_cases : (b : Bool) (x y z : Outcome) → (if b then x else y) ≡ z → ((b ≡ true) × (x ≡ z)) ⊎ ((b ≡ false) × (y ≡ z))
if_cases true x y z h = inl (refl, h)
if_cases false x y z h = inr (refl, h)

not_is_false : (b : Bool) → not b ≡ false → b ≡ true
not_is_false true h = refl
not_is_false false h = absurd (true≢false h)

-- an operand as a truth value, where it has a value
abbrev Comes : Outcome → Bool → Type 0
Comes r v = (w : Value) × (r ≡ Ok w) × (as_bool w ≡ v)

and_true : (p : Place) (a b : Outcome) → IsSo (operation op.And p a b) true → Comes a true × Comes b true
and_true p a b h =
    let x = and_then_ok a (λ v. if decides op.And v then truth (as_bool v) else and_then b (λ w. applied op.And p v w)) (value.Bool true) h in
    ⊎_elim
    (λ t.
    let av : as_bool x.0 ≡ true = bool_same _ true (ok_same (value.Bool (as_bool x.0)) (value.Bool true) t.1) in
    absurd (false≢true (ap not (sym av) ∙ t.0)))
    (λ f.
    let y = and_then_ok b (λ w. applied op.And p x.0 w) (value.Bool true) f.1 in
    let both = and_parts (as_bool x.0) (as_bool y.0) (bool_same _ true (ok_same (value.Bool (as_bool x.0 && as_bool y.0)) (value.Bool true) y.2)) in
    ((x.0, x.1, both.0), (y.0, y.1, both.1)))
    (if_cases (decides op.And x.0) _ _ _ x.2)

or_parts_false : (a b : Bool) → (a || b) ≡ false → (a ≡ false) × (b ≡ false)
or_parts_false true b h = absurd (true≢false h)
or_parts_false false b h = (refl, h)

or_false : (p : Place) (a b : Outcome) → IsSo (operation op.Or p a b) false → Comes a false × Comes b false
or_false p a b h =
    let x = and_then_ok a (λ v. if decides op.Or v then truth (as_bool v) else and_then b (λ w. applied op.Or p v w)) (value.Bool false) h in
    ⊎_elim
    (λ t.
    let av : as_bool x.0 ≡ false = bool_same _ false (ok_same (value.Bool (as_bool x.0)) (value.Bool false) t.1) in
    absurd (false≢true (sym av ∙ t.0)))
    (λ f.
    let y = and_then_ok b (λ w. applied op.Or p x.0 w) (value.Bool false) f.1 in
    let both = or_parts_false (as_bool x.0) (as_bool y.0) (bool_same _ false (ok_same (value.Bool (as_bool x.0 || as_bool y.0)) (value.Bool false) y.2)) in
    ((x.0, x.1, both.0), (y.0, y.1, both.1)))
    (if_cases (decides op.Or x.0) _ _ _ x.2)

-- a comparison with null
equal_so : (p : Place) (a b : Outcome) (v : Bool) → IsSo (operation op.Equal p a b) v → (x : Value) × (y : Value) × (a ≡ Ok x) × (b ≡ Ok y) × (same_value x y ≡ v)
equal_so p a b v h =
    let x = and_then_ok a (λ z. and_then b (λ w. applied op.Equal p z w)) (value.Bool v) h in
    let y = and_then_ok b (λ w. applied op.Equal p x.0 w) (value.Bool v) x.2 in
    (x.0, y.0, x.1, y.1, bool_same _ v (ok_same (value.Bool (same_value x.0 y.0)) (value.Bool v) y.2))

not_equal_so : (p : Place) (a b : Outcome) (v : Bool) → IsSo (operation op.NotEqual p a b) v → (x : Value) × (y : Value) × (a ≡ Ok x) × (b ≡ Ok y) × (not (same_value x y) ≡ v)
not_equal_so p a b v h =
    let x = and_then_ok a (λ z. and_then b (λ w. applied op.NotEqual p z w)) (value.Bool v) h in
    let y = and_then_ok b (λ w. applied op.NotEqual p x.0 w) (value.Bool v) x.2 in
    (x.0, y.0, x.1, y.1, bool_same _ v (ok_same (value.Bool (not (same_value x.0 y.0))) (value.Bool v) y.2))

local_is : (e : ExprTree) (y : ℕ) (c : Setting) (v : Value) → is_local_number e y ≡ true → value_of e c ≡ Ok v → v ≡ local_value c y
local_is (LocalExpr p x) y c v h e = sym (ok_same (local_value c x) v e) ∙ ap (local_value c) (eqb-true x y h)
local_is (IntExpr p n) y c v h e = absurd (false≢true h)
local_is (BoolExpr p b) y c v h e = absurd (false≢true h)
local_is (NullExpr p) y c v h e = absurd (false≢true h)
local_is (FieldExpr p a f) y c v h e = absurd (false≢true h)
local_is (ElementExpr p a i) y c v h e = absurd (false≢true h)
local_is (LengthExpr p a) y c v h e = absurd (false≢true h)
local_is (NegateExpr p a) y c v h e = absurd (false≢true h)
local_is (NotExpr p a) y c v h e = absurd (false≢true h)
local_is (BinaryExpr p o a b) y c v h e = absurd (false≢true h)
local_is (ImpliesExpr p a b) y c v h e = absurd (false≢true h)
local_is (IffExpr p a b) y c v h e = absurd (false≢true h)
local_is (IsExpr p a t) y c v h e = absurd (false≢true h)
local_is (AsExpr p a t) y c v h e = absurd (false≢true h)
local_is (CastExpr p t n a) y c v h e = absurd (false≢true h)
local_is (OldExpr p a) y c v h e = absurd (false≢true h)
local_is (QuantifiedExpr p q name low high a) y c v h e = absurd (false≢true h)
local_is (StateExpr p w a) y c v h e = absurd (false≢true h)
local_is (OwnersExpr p w a b) y c v h e = absurd (false≢true h)
local_is (DefaultExpr p d) y c v h e = absurd (false≢true h)

null_is : (e : ExprTree) (c : Setting) (v : Value) → is_null_literal e ≡ true → value_of e c ≡ Ok v → v ≡ value.Null
null_is (NullExpr p) c v h e = sym (ok_same value.Null v e)
null_is (LocalExpr p x) c v h e = absurd (false≢true h)
null_is (IntExpr p n) c v h e = absurd (false≢true h)
null_is (BoolExpr p b) c v h e = absurd (false≢true h)
null_is (FieldExpr p a f) c v h e = absurd (false≢true h)
null_is (ElementExpr p a i) c v h e = absurd (false≢true h)
null_is (LengthExpr p a) c v h e = absurd (false≢true h)
null_is (NegateExpr p a) c v h e = absurd (false≢true h)
null_is (NotExpr p a) c v h e = absurd (false≢true h)
null_is (BinaryExpr p o a b) c v h e = absurd (false≢true h)
null_is (ImpliesExpr p a b) c v h e = absurd (false≢true h)
null_is (IffExpr p a b) c v h e = absurd (false≢true h)
null_is (IsExpr p a t) c v h e = absurd (false≢true h)
null_is (AsExpr p a t) c v h e = absurd (false≢true h)
null_is (CastExpr p t n a) c v h e = absurd (false≢true h)
null_is (OldExpr p a) c v h e = absurd (false≢true h)
null_is (QuantifiedExpr p q name low high a) c v h e = absurd (false≢true h)
null_is (StateExpr p w a) c v h e = absurd (false≢true h)
null_is (OwnersExpr p w a b) c v h e = absurd (false≢true h)
null_is (DefaultExpr p d) c v h e = absurd (false≢true h)

-- what differs from null isn't null
apart_from_null : (a b : ExprTree) (c : Setting) (x y : Value) (differs : Bool) → value_of a c ≡ Ok x → value_of b c ≡ Ok y → (differs ≡ true → same_value x y ≡ false) → AreNotNull (compared differs a b) c
apart_from_null a b c x y differs ea eb apart z h null =
    let p = and_parts (differs && is_null_literal b) (is_local_number a z) h in
    let q = and_parts differs (is_null_literal b) p.0 in
    let is_x : x ≡ value.Null = local_is a z c x p.1 ea ∙ null in
    let is_y : y ≡ value.Null = null_is b c y q.1 eb in
    true≢false (sym (ap (λ u. same_value u y) is_x ∙ ap (λ u. same_value value.Null u) is_y) ∙ apart q.0)

none_known : (c : Setting) → AreNotNull no_facts c
none_known c y h = absurd (false≢true h)

-- an object of a class isn't null
is_of_not_null : (c : Setting) (t : ℕ) (v : Value) → is_of c t v ≡ true → IsNotNull v
is_of_not_null c t (value.Int n) h e = cc
is_of_not_null c t (value.Bool b) h e = cc
is_of_not_null c t (value.Obj o) h e = cc
is_of_not_null c t value.Null h e = false≢true h

-- ---- what has come out

pub bool_type_is : (a : Option Ty) → is_bool a ≡ true → a ≡ Some ty.Bool
bool_type_is None h = absurd (false≢true h)
bool_type_is (Some ty.Int) h = absurd (false≢true h)
bool_type_is (Some ty.Bool) h = refl
bool_type_is (Some ty.Null) h = absurd (false≢true h)
bool_type_is (Some (ty.Ref t n)) h = absurd (false≢true h)

bool_value : (cs : List ClassTree) (s : List Object) (w : Value) (v : Bool) → has_type cs s ty.Bool w ≡ true → as_bool w ≡ v → w ≡ value.Bool v
bool_value cs s (value.Int n) v h e = absurd (false≢true h)
bool_value cs s (value.Bool b) v h e = ap value.Bool e
bool_value cs s (value.Obj o) v h e = absurd (false≢true h)
bool_value cs s value.Null v h e = absurd (false≢true h)

beq_same : (a b : Bool) → beq a b ≡ true → a ≡ b
beq_same true true h = refl
beq_same true false h = absurd (false≢true h)
beq_same false true h = absurd (false≢true h)
beq_same false false h = refl

not_not : (b : Bool) → not (not b) ≡ b
not_not true = refl
not_not false = refl

module _ (c : Setting) (tys : List Ty) (constructs : Bool) (good : IsGoodSetting c tys constructs) where
  -- an expression of truth values that counts as this one is it
  is_so : (e : ExprTree) (v : Bool) → type_of c.classes tys e ≡ Some ty.Bool → Comes (value_of e c) v → IsSo (value_of e c) v
  is_so e v t h = h.1 ∙ ap value_ok (bool_value c.classes c.store h.0 v (value_sound e c tys constructs good ty.Bool h.0 t h.1) h.2)

  operands : (o : Operator) (p : Place) (a b : ExprTree) → operation_type o (type_of c.classes tys a) (type_of c.classes tys b) ≡ where_typed (is_bool (type_of c.classes tys a) && is_bool (type_of c.classes tys b)) ty.Bool →
      type_of c.classes tys (BinaryExpr p o a b) ≡ Some ty.Bool → (type_of c.classes tys a ≡ Some ty.Bool) × (type_of c.classes tys b ≡ Some ty.Bool)
  operands o p a b is t =
      let w = where_typed_some (is_bool (type_of c.classes tys a) && is_bool (type_of c.classes tys b)) ty.Bool ty.Bool (sym is ∙ t) in
      let both = and_parts (is_bool (type_of c.classes tys a)) (is_bool (type_of c.classes tys b)) w.0 in
      (bool_type_is (type_of c.classes tys a) both.0, bool_type_is (type_of c.classes tys b) both.1)

  negated : (p : Place) (e : ExprTree) → type_of c.classes tys (NotExpr p e) ≡ Some ty.Bool → type_of c.classes tys e ≡ Some ty.Bool
  negated p e t = bool_type_is (type_of c.classes tys e) (where_typed_some (is_bool (type_of c.classes tys e)) ty.Bool ty.Bool t).0

  comes_not : (p : Place) (e : ExprTree) (v : Bool) → Comes (value_of (NotExpr p e) c) v → Comes (value_of e c) (not v)
  comes_not p e v h =
      let a = and_then_ok (value_of e c) (λ w. truth (not (as_bool w))) h.0 h.1 in
      let is : value.Bool (not (as_bool a.0)) ≡ h.0 = ok_same (value.Bool (not (as_bool a.0))) h.0 a.2 in
      (a.0, a.1, sym (not_not (as_bool a.0)) ∙ ap not (ap as_bool is ∙ h.2))

  -- ---- what it tells of locals

  tells_true : (e : ExprTree) (v : Bool) → type_of c.classes tys e ≡ Some ty.Bool → Comes (value_of e c) v → (x : ℕ) (u : Bool) → tells e v x u ≡ true → local_value c x ≡ value.Bool u
  tells_true (LocalExpr p y) v t h x u is =
      let both = and_parts (eqb x y) (beq u v) is in
      let at = ok_same (local_value c y) (value.Bool v) (is_so (LocalExpr p y) v t h) in
      ap (local_value c) (eqb-true x y both.0) ∙ at ∙ ap value.Bool (sym (beq_same u v both.1))
  tells_true (NotExpr p e) v t h x u is = tells_true e (not v) (negated p e t) (comes_not p e v h) x u is
  tells_true (BinaryExpr p op.And a b) true t h x u is =
      let ts = operands op.And p a b refl t in
      let both = and_true p (value_of a c) (value_of b c) (is_so (BinaryExpr p op.And a b) true t h) in
      ⊎_elim (λ l. tells_true a true ts.0 both.0 x u l) (λ r. tells_true b true ts.1 both.1 x u r) (or_cases (tells a true x u) (tells b true x u) is)
  tells_true (BinaryExpr p op.And a b) false t h x u is = absurd (false≢true is)
  tells_true (BinaryExpr p op.Or a b) true t h x u is = absurd (false≢true is)
  tells_true (BinaryExpr p op.Or a b) false t h x u is =
      let ts = operands op.Or p a b refl t in
      let both = or_false p (value_of a c) (value_of b c) (is_so (BinaryExpr p op.Or a b) false t h) in
      ⊎_elim (λ l. tells_true a false ts.0 both.0 x u l) (λ r. tells_true b false ts.1 both.1 x u r) (or_cases (tells a false x u) (tells b false x u) is)
  tells_true (BinaryExpr p op.Equal a b) v t h x u is = absurd (false≢true is)
  tells_true (BinaryExpr p op.NotEqual a b) v t h x u is = absurd (false≢true is)
  tells_true (BinaryExpr p op.Less a b) v t h x u is = absurd (false≢true is)
  tells_true (BinaryExpr p op.LessEqual a b) v t h x u is = absurd (false≢true is)
  tells_true (BinaryExpr p op.Greater a b) v t h x u is = absurd (false≢true is)
  tells_true (BinaryExpr p op.GreaterEqual a b) v t h x u is = absurd (false≢true is)
  tells_true (BinaryExpr p op.Add a b) v t h x u is = absurd (false≢true is)
  tells_true (BinaryExpr p op.Subtract a b) v t h x u is = absurd (false≢true is)
  tells_true (BinaryExpr p op.Multiply a b) v t h x u is = absurd (false≢true is)
  tells_true (BinaryExpr p op.Divide a b) v t h x u is = absurd (false≢true is)
  tells_true (BinaryExpr p op.Remainder a b) v t h x u is = absurd (false≢true is)
  tells_true (IntExpr p n) v t h x u is = absurd (false≢true is)
  tells_true (BoolExpr p b) v t h x u is = absurd (false≢true is)
  tells_true (NullExpr p) v t h x u is = absurd (false≢true is)
  tells_true (FieldExpr p a f) v t h x u is = absurd (false≢true is)
  tells_true (ElementExpr p a i) v t h x u is = absurd (false≢true is)
  tells_true (LengthExpr p a) v t h x u is = absurd (false≢true is)
  tells_true (NegateExpr p a) v t h x u is = absurd (false≢true is)
  tells_true (ImpliesExpr p a b) v t h x u is = absurd (false≢true is)
  tells_true (IffExpr p a b) v t h x u is = absurd (false≢true is)
  tells_true (IsExpr p a y) v t h x u is = absurd (false≢true is)
  tells_true (AsExpr p a y) v t h x u is = absurd (false≢true is)
  tells_true (CastExpr p y n a) v t h x u is = absurd (false≢true is)
  tells_true (OldExpr p a) v t h x u is = absurd (false≢true is)
  tells_true (QuantifiedExpr p q name low high a) v t h x u is = absurd (false≢true is)
  tells_true (StateExpr p w a) v t h x u is = absurd (false≢true is)
  tells_true (OwnersExpr p w a b) v t h x u is = absurd (false≢true is)
  tells_true (DefaultExpr p d) v t h x u is = absurd (false≢true is)

  -- ---- what is learned

  module _ (k : Known) (true_ : IsTrueOf constructs k c) where
    pub learned_true : (e : ExprTree) (v : Bool) → type_of c.classes tys e ≡ Some ty.Bool → Comes (value_of e c) v → AreNotNull (learned k e v) c
    learned_true (LocalExpr p x) v t h =
        let s = true_.sides x v (ok_same (local_value c x) (value.Bool v) (is_so (LocalExpr p x) v t h)) in
        subst (λ o. AreNotNull (side_facts o) c) (sym s.there) s.so
    learned_true (NotExpr p e) v t h = learned_true e (not v) (negated p e t) (comes_not p e v h)
    learned_true (BinaryExpr p op.And a b) true t h =
        let ts = operands op.And p a b refl t in
        let both_ = and_true p (value_of a c) (value_of b c) (is_so (BinaryExpr p op.And a b) true t h) in
        let one = learned_true a true ts.0 both_.0 in
        let other = learned_true b true ts.1 both_.1 in
        λ y hy. ⊎_elim (λ l. one y l) (λ r. other y r) (or_cases (learned k a true y) (learned k b true y) hy)
    learned_true (BinaryExpr p op.And a b) false t h = none_known c
    learned_true (BinaryExpr p op.Or a b) true t h = none_known c
    learned_true (BinaryExpr p op.Or a b) false t h =
        let ts = operands op.Or p a b refl t in
        let both_ = or_false p (value_of a c) (value_of b c) (is_so (BinaryExpr p op.Or a b) false t h) in
        let one = learned_true a false ts.0 both_.0 in
        let other = learned_true b false ts.1 both_.1 in
        λ y hy. ⊎_elim (λ l. one y l) (λ r. other y r) (or_cases (learned k a false y) (learned k b false y) hy)
    learned_true (BinaryExpr p op.Equal a b) v t h =
        let w = equal_so p (value_of a c) (value_of b c) v (is_so (BinaryExpr p op.Equal a b) v t h) in
        apart_from_null a b c w.0 w.1 (not v) w.2 w.3 (λ n. w.4 ∙ not_true v n)
    learned_true (BinaryExpr p op.NotEqual a b) v t h =
        let w = not_equal_so p (value_of a c) (value_of b c) v (is_so (BinaryExpr p op.NotEqual a b) v t h) in
        apart_from_null a b c w.0 w.1 v w.2 w.3 (λ n. not_true (same_value w.0 w.1) (w.4 ∙ n))
    learned_true (BinaryExpr p op.Less a b) v t h = none_known c
    learned_true (BinaryExpr p op.LessEqual a b) v t h = none_known c
    learned_true (BinaryExpr p op.Greater a b) v t h = none_known c
    learned_true (BinaryExpr p op.GreaterEqual a b) v t h = none_known c
    learned_true (BinaryExpr p op.Add a b) v t h = none_known c
    learned_true (BinaryExpr p op.Subtract a b) v t h = none_known c
    learned_true (BinaryExpr p op.Multiply a b) v t h = none_known c
    learned_true (BinaryExpr p op.Divide a b) v t h = none_known c
    learned_true (BinaryExpr p op.Remainder a b) v t h = none_known c
    learned_true (IsExpr p e u) v t h =
        let a = and_then_ok (value_of e c) (λ w. truth (is_of c u w)) h.0 h.1 in
        let is : is_of c u a.0 ≡ v = ap as_bool (ok_same (value.Bool (is_of c u a.0)) h.0 a.2) ∙ h.2 in
        λ y hy null.
        let parts = and_parts v (is_local_number e y) hy in
        is_of_not_null c u a.0 (is ∙ parts.0) (local_is e y c a.0 parts.1 a.1 ∙ null)
    learned_true (IntExpr p n) v t h = none_known c
    learned_true (BoolExpr p b) v t h = none_known c
    learned_true (NullExpr p) v t h = none_known c
    learned_true (FieldExpr p a f) v t h = none_known c
    learned_true (ElementExpr p a i) v t h = none_known c
    learned_true (LengthExpr p a) v t h = none_known c
    learned_true (NegateExpr p a) v t h = none_known c
    learned_true (ImpliesExpr p a b) v t h = none_known c
    learned_true (IffExpr p a b) v t h = none_known c
    learned_true (AsExpr p a y) v t h = none_known c
    learned_true (CastExpr p y n a) v t h = none_known c
    learned_true (OldExpr p a) v t h = none_known c
    learned_true (QuantifiedExpr p q name low high a) v t h = none_known c
    learned_true (StateExpr p w a) v t h = none_known c
    learned_true (OwnersExpr p w a b) v t h = none_known c
    learned_true (DefaultExpr p d) v t h = none_known c

    -- what is known where a test has come out so
    pub tested_true : (e : ExprTree) (v : Bool) → type_of c.classes tys e ≡ Some ty.Bool → Comes (value_of e c) v → IsTrueOf constructs (known_tested e v k) c
    tested_true e v t h = record {
      facts = λ x hx. ⊎_elim (λ a. true_.facts x a) (λ b. learned_true e v t h x b) (or_cases (k.facts x) (learned k e v x) hx);
      sides = λ x u is.
          let s = true_.sides x u is in
          ⊎_elim
          (λ told.
          let other = tells_true e v t h x (not u) told in
          absurd (differ u (bool_same u (not u) (sym is ∙ other))))
          (λ untold. record { facts = s.facts; there = rw untold s.there; so = s.so })
          (cases_Bool (tells e v x (not u)));
      fields = true_.fields;
    }
      where
        differ : (u : Bool) → u ≡ not u → ⊥
        differ true e = true≢false e
        differ false e = false≢true e
