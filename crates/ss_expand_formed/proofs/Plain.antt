-- The type of an expression in the numbers of a body is that of the resolved expression.
use Rattle.std.proofs.Common.{◌≡◌, ℕ, zero, suc, ◌+◌, ◌<◌, List, [], ◌∷◌, ◌++◌, length, Bool, true, false, Option, Some, None, refl, sym, ◌∙◌, ap, arith, ⊎_elim, subst, inl, ◌⊎◌}
use Rattle.std.specs.Prelude.{◌&&◌, ◌||◌, ◌==◌, ◌-◌, slice_get, option_map, if◌then◌else◌}
use Rattle.std.proofs.lemmas.Bool.{false≢true, cases_lt}
use Rattle.std.proofs.lemmas.Option.{slice_get_within}
use Rattle.ss_core.specs.declared.names.Ty.{Ty}
use Rattle.ss_core.specs.declared.names.Ty.TheVariants as ty
use Rattle.ss_core.specs.declared.expr.Operator.{Operator}
use Rattle.ss_core.specs.declared.expr.Operator.TheVariants as op
use Rattle.ss_core.specs.Tree as core
use Rattle.ss_core.specs.Chain.{IsChain}
use Rattle.ss_core.proofs.Chains.{below_trans}
use Rattle.ss_core.specs.Types.{nullable}
use Rattle.ss_typed.specs.Tree.{ExprTree, IntOf, BoolOf, NullOf, ThisOf, LocalOf, ResultOf, BoundOf, IffOf, ImpliesOf, BinaryOf, IsOf, AsOf, NegateOf, NotOf, CastOf, FieldOf, ElementOf, LengthOf, OldOf, QuantifiedOf, StateOf, OwnersOf, NewOf, NewArrayOf, CallOf, StaticOf, BaseOf, TypedTree}
use Rattle.ss_typed.specs.Types.{class_type, type_of}
use Rattle.ss_typed.specs.Types as typed
use Rattle.ss_expand_rules.specs.Numbers.{Numbers, number, plain}
use Rattle.ss_expand_rules.specs.Calls.{has_call}
use Rattle.ss_store_rules.specs.Changes.{below, is_array, element_type}
use Rattle.ss_store_rules.specs.Types.{is_int, is_bool, has_class, is_reference, are_comparable, operation_type, element_of, fits_type, has_fitting}
use Rattle.ss_store_rules.specs.Types as types
use Rattle.ss_expand_formed.proofs.Facts.{or_false}
use Rattle.ss_expand_formed.proofs.Searching.{at_front, at_back}
use Rattle.ss_expand_formed.proofs.Fit.{Context, Fit}

-- ---- types without their `!`

abbrev pub bare : Option Ty → Option Ty
bare t = option_map nullable t

pub bare_int : (t : Option Ty) → is_int (bare t) ≡ is_int t
bare_int None = refl
bare_int (Some ty.Int) = refl
bare_int (Some ty.Bool) = refl
bare_int (Some ty.Null) = refl
bare_int (Some (ty.Ref c n)) = refl

pub bare_bool : (t : Option Ty) → is_bool (bare t) ≡ is_bool t
bare_bool None = refl
bare_bool (Some ty.Int) = refl
bare_bool (Some ty.Bool) = refl
bare_bool (Some ty.Null) = refl
bare_bool (Some (ty.Ref c n)) = refl

pub bare_reference : (t : Option Ty) → is_reference (bare t) ≡ is_reference t
bare_reference None = refl
bare_reference (Some ty.Int) = refl
bare_reference (Some ty.Bool) = refl
bare_reference (Some ty.Null) = refl
bare_reference (Some (ty.Ref c n)) = refl

pub bare_class : (test : ℕ → Bool) (t : Option Ty) → has_class test (bare t) ≡ has_class test t
bare_class test None = refl
bare_class test (Some ty.Int) = refl
bare_class test (Some ty.Bool) = refl
bare_class test (Some ty.Null) = refl
bare_class test (Some (ty.Ref c n)) = refl

pub bare_fits : (C : List core.ClassTree) (a t : Ty) → fits_type C (nullable a) t ≡ fits_type C a t
bare_fits C ty.Int t = refl
bare_fits C ty.Bool t = refl
bare_fits C ty.Null t = refl
bare_fits C (ty.Ref c n) ty.Int = refl
bare_fits C (ty.Ref c n) ty.Bool = refl
bare_fits C (ty.Ref c n) ty.Null = refl
bare_fits C (ty.Ref c n) (ty.Ref t m) = refl

pub bare_fitting : (C : List core.ClassTree) (a : Option Ty) (t : Ty) → has_fitting C (bare a) t ≡ has_fitting C a t
bare_fitting C None t = refl
bare_fitting C (Some a) t = bare_fits C a t

operation_plain : (o : Operator) → nullable (typed.operation_type o) ≡ typed.operation_type o
operation_plain op.Or = refl
operation_plain op.And = refl
operation_plain op.Equal = refl
operation_plain op.NotEqual = refl
operation_plain op.Less = refl
operation_plain op.LessEqual = refl
operation_plain op.Greater = refl
operation_plain op.GreaterEqual = refl
operation_plain op.Add = refl
operation_plain op.Subtract = refl
operation_plain op.Multiply = refl
operation_plain op.Divide = refl
operation_plain op.Remainder = refl

-- the element of an array is of the type that the resolved program has for it
element_plain : (c : ℕ) → nullable (element_type c) ≡ element_type c
element_plain c = of_one (c == 1) (c == 2) (c == 3)
  where
    of_one : (a b d : Bool) → nullable (if a then ty.Int else if b then ty.Bool else if d then ty.Ref (record { 0 = 0 }) false else ty.Ref (record { 0 = c - 1 }) false) ≡ (if a then ty.Int else if b then ty.Bool else if d then ty.Ref (record { 0 = 0 }) false else ty.Ref (record { 0 = c - 1 }) false)
    of_one true b d = refl
    of_one false true d = refl
    of_one false false true = refl
    of_one false false false = refl

element_is : (C : List core.ClassTree) (t : Option Ty) → has_class (is_array C) t ≡ true → element_of C (bare t) ≡ bare (typed.element_of t)
element_is C None h = absurd (false≢true h)
element_is C (Some ty.Int) h = absurd (false≢true h)
element_is C (Some ty.Bool) h = absurd (false≢true h)
element_is C (Some ty.Null) h = absurd (false≢true h)
element_is C (Some (ty.Ref c n)) h = rw h (ap Some (sym (element_plain c.0)))

-- ---- locals

-- the types of the locals with those of so many bound names
abbrev pub with_bound : List Ty → ℕ → List Ty
with_bound ts zero = ts
with_bound ts (suc k) = with_bound ts k ++ ty.Int ∷ []

bound_length : (ts : List Ty) (k : ℕ) → length (with_bound ts k) ≡ length ts + k
bound_length ts zero = omega arith
bound_length ts (suc k) = let h = bound_length ts k in one_longer (with_bound ts k) ty.Int ∙ (omega arith)
  where
    one_longer : (us : List Ty) (t : Ty) → length (us ++ t ∷ []) ≡ suc (length us)
    one_longer [] t = refl
    one_longer (u ∷ us) t = ap suc (one_longer us t)

stays : (ts : List Ty) (k n : ℕ) (t : Ty) → slice_get ts n ≡ Some t → slice_get (with_bound ts k) n ≡ Some t
stays ts zero n t h = h
stays ts (suc k) n t h =
    let l = slice_get_within ts n t h in
    let e = bound_length ts k in
    at_front (with_bound ts k) (ty.Int ∷ []) n (omega arith) ∙ stays ts k n t h

bound_at : (ts : List Ty) (k n : ℕ) → n < k → slice_get (with_bound ts k) (length ts + n) ≡ Some ty.Int
bound_at ts zero n l = absurd (omega arith)
bound_at ts (suc k) n l =
    let e = bound_length ts k in
    ⊎_elim
    (λ less. at_front (with_bound ts k) (ty.Int ∷ []) (length ts + n) (omega arith) ∙ bound_at ts k n less)
    (λ past.
    let i : length ts + n ≡ length (with_bound ts k) + 0 = omega arith in
    ap (slice_get (with_bound ts k ++ ty.Int ∷ [])) i ∙ at_back (with_bound ts k) (ty.Int ∷ []) 0)
    (cases_lt n k)

-- ---- heirs

-- the value is of a class below the one that the resolved program has for it, as `this` is in an inherited contract
pub record IsHeir (C : List core.ClassTree) (u t : Option Ty) : Type 0 where
  pub class : ℕ
  pub above : ℕ
  pub has : u ≡ Some (class_type class false)
  pub stands_for : t ≡ Some (class_type above true)
  pub below : below C class above ≡ true
  pub no_array : is_array C above ≡ false

-- the type is that of the resolved program without its `!`, or that of an heir
abbrev pub Lower : List core.ClassTree → Option Ty → Option Ty → Type 0
Lower C u t = (u ≡ bare t) ⊎ IsHeir C u t

module _ (C : List core.ClassTree) (u t : Option Ty) where
  pub lower_int : Lower C u t → is_int u ≡ is_int t
  lower_int l = ⊎_elim (λ e. ap is_int e ∙ bare_int t) (λ h. ap is_int h.has ∙ sym (ap is_int h.stands_for)) l

  pub lower_bool : Lower C u t → is_bool u ≡ is_bool t
  lower_bool l = ⊎_elim (λ e. ap is_bool e ∙ bare_bool t) (λ h. ap is_bool h.has ∙ sym (ap is_bool h.stands_for)) l

  pub lower_reference : Lower C u t → is_reference u ≡ is_reference t
  lower_reference l = ⊎_elim (λ e. ap is_reference e ∙ bare_reference t) (λ h. ap is_reference h.has ∙ sym (ap is_reference h.stands_for)) l

  pub lower_array : Lower C u t → has_class (is_array C) t ≡ true → u ≡ bare t
  lower_array l g = ⊎_elim (λ e. e) (λ h. absurd (false≢true (sym h.no_array ∙ sym (ap (has_class (is_array C)) h.stands_for) ∙ g))) l

  pub lower_below : IsChain C → (d : ℕ) → Lower C u t → has_class (λ c. below C c d) t ≡ true → has_class (λ c. below C c d) u ≡ true
  lower_below chain d l g =
      ⊎_elim
      (λ e. ap (has_class (λ c. below C c d)) e ∙ bare_class (λ c. below C c d) t ∙ g)
      (λ h. ap (has_class (λ c. below C c d)) h.has ∙ below_trans C chain h.class h.above d h.below (sym (ap (has_class (λ c. below C c d)) h.stands_for) ∙ g))
      l

lower_operation : (C : List core.ClassTree) (o : Operator) (u v t s : Option Ty) → Lower C u t → Lower C v s → operation_type o u v ≡ operation_type o t s
lower_operation C op.Or u v t s l m = rw (lower_bool C u t l, lower_bool C v s m) refl
lower_operation C op.And u v t s l m = rw (lower_bool C u t l, lower_bool C v s m) refl
lower_operation C op.Equal u v t s l m = rw (lower_int C u t l, lower_int C v s m, lower_bool C u t l, lower_bool C v s m, lower_reference C u t l, lower_reference C v s m) refl
lower_operation C op.NotEqual u v t s l m = rw (lower_int C u t l, lower_int C v s m, lower_bool C u t l, lower_bool C v s m, lower_reference C u t l, lower_reference C v s m) refl
lower_operation C op.Less u v t s l m = rw (lower_int C u t l, lower_int C v s m) refl
lower_operation C op.LessEqual u v t s l m = rw (lower_int C u t l, lower_int C v s m) refl
lower_operation C op.Greater u v t s l m = rw (lower_int C u t l, lower_int C v s m) refl
lower_operation C op.GreaterEqual u v t s l m = rw (lower_int C u t l, lower_int C v s m) refl
lower_operation C op.Add u v t s l m = rw (lower_int C u t l, lower_int C v s m) refl
lower_operation C op.Subtract u v t s l m = rw (lower_int C u t l, lower_int C v s m) refl
lower_operation C op.Multiply u v t s l m = rw (lower_int C u t l, lower_int C v s m) refl
lower_operation C op.Divide u v t s l m = rw (lower_int C u t l, lower_int C v s m) refl
lower_operation C op.Remainder u v t s l m = rw (lower_int C u t l, lower_int C v s m) refl

-- the numbers of a body, whose locals have these types, stand for what the context has
pub record Reads (C : List core.ClassTree) (x : Context) (ns : Numbers) (tys : List Ty) : Type 0 where
  pub locals : (y : ℕ) (t : Ty) → slice_get x.locals y ≡ Some t → bare (slice_get tys (number ns y)) ≡ bare (Some t)
  pub this : (d : ℕ) → slice_get x.locals 0 ≡ Some (class_type d true) → Lower C (bare (slice_get tys 0)) (Some (class_type d true))
  pub result : (t : Ty) → x.result ≡ Some t → bare (slice_get tys ns.outcome) ≡ bare (Some t)
  pub bound : length tys ≡ ns.first_bound

-- ---- expressions

both : (a b : Bool) → a ≡ true → b ≡ true → (a && b) ≡ true
both true true h g = refl
both true false h g = g
both false b h g = h

two_false : (a b c : Bool) → (a || b || c) ≡ false → (a ≡ false) × (b ≡ false) × (c ≡ false)
two_false a b c h = let one = or_false (a || b) c h in let two = or_false a b one.0 in (two.0, two.1, one.1)

module _ (P : TypedTree) (C : List core.ClassTree) (x : Context) (ns : Numbers) (tys : List Ty) (chain : IsChain C) (reads : Reads C x ns tys) where
  pub read_at : (k n : ℕ) (t : Ty) → bare (slice_get tys n) ≡ bare (Some t) → bare (slice_get (with_bound tys k) n) ≡ bare (slice_get tys n)
  read_at k n t r = by (slice_get tys n) refl r
    where
      by : (o : Option Ty) → slice_get tys n ≡ o → bare o ≡ bare (Some t) → bare (slice_get (with_bound tys k) n) ≡ bare (slice_get tys n)
      by None e g = absurd (let z : ⊥ = cc in z)
      by (Some u) e g = ap bare (stays tys k n u e ∙ sym e)

  -- `this` has a type in the body
  this_at : (k : ℕ) (d : ℕ) → Lower C (bare (slice_get tys 0)) (Some (class_type d true)) → Lower C (bare (slice_get (with_bound tys k) 0)) (Some (class_type d true))
  this_at k d l = subst (λ o. Lower C o (Some (class_type d true))) (sym (by (slice_get tys 0) refl l)) l
    where
      by : (o : Option Ty) → slice_get tys 0 ≡ o → Lower C (bare o) (Some (class_type d true)) → bare (slice_get (with_bound tys k) 0) ≡ bare (slice_get tys 0)
      by None e m = ⊎_elim (λ g. absurd (let z : ⊥ = cc in z)) (λ h. absurd (let g = h.has in let z : ⊥ = cc in z)) m
      by (Some u) e m = ap bare (stays tys k 0 u e ∙ sym e)

  -- the type of the expression in the body's numbers
  abbrev In : ℕ → ExprTree → Option Ty
  In k e = types.type_of C (with_bound tys k) (plain ns e)

  abbrev Is : ℕ → ExprTree → Type 0
  Is k e = Lower C (In k e) (type_of e)

  int_in : (k : ℕ) (e : ExprTree) → Is k e → is_int (type_of e) ≡ true → is_int (In k e) ≡ true
  int_in k e l h = lower_int C (In k e) (type_of e) l ∙ h

  bool_in : (k : ℕ) (e : ExprTree) → Is k e → is_bool (type_of e) ≡ true → is_bool (In k e) ≡ true
  bool_in k e l h = lower_bool C (In k e) (type_of e) l ∙ h

  reference_in : (k : ℕ) (e : ExprTree) → Is k e → is_reference (type_of e) ≡ true → is_reference (In k e) ≡ true
  reference_in k e l h = lower_reference C (In k e) (type_of e) l ∙ h

  array_in : (k : ℕ) (e : ExprTree) → Is k e → has_class (is_array C) (type_of e) ≡ true → has_class (is_array C) (In k e) ≡ true
  array_in k e l h = ap (has_class (is_array C)) (lower_array C (In k e) (type_of e) l h) ∙ bare_class (is_array C) (type_of e) ∙ h

  pub plain_type : (k : ℕ) (e : ExprTree) → Fit P C x k e → has_call e ≡ false → Is k e
  plain_type k (IntOf p n) f without = inl (rw f refl)
  plain_type k (BoolOf p b) f without = inl refl
  plain_type k (NullOf p) f without = inl refl
  plain_type k (ThisOf p t) f without = this_at k t (reads.this t f)
  plain_type k (LocalOf p y t) f without = inl (read_at k (number ns y) t (reads.locals y t f) ∙ reads.locals y t f)
  plain_type k (ResultOf p t) f without = inl (read_at k ns.outcome f.0 (reads.result f.0 f.2) ∙ reads.result f.0 f.2 ∙ ap bare (sym f.1))
  plain_type k (BoundOf p n) f without = inl (ap (λ i. bare (slice_get (with_bound tys k) (i + n))) (sym reads.bound) ∙ ap bare (bound_at tys k n f))
  plain_type k (IffOf p a b) f without =
      let none = or_false (has_call a) (has_call b) without in
      inl (rw (bool_in k a (plain_type k a f.0 none.0) f.2, bool_in k b (plain_type k b f.1 none.1) f.3) refl)
  plain_type k (ImpliesOf p a b) f without =
      let none = or_false (has_call a) (has_call b) without in
      inl (rw (bool_in k a (plain_type k a f.0 none.0) f.2, bool_in k b (plain_type k b f.1 none.1) f.3) refl)
  plain_type k (BinaryOf p o a b) f without =
      let none = or_false (has_call a) (has_call b) without in
      inl (lower_operation C o (In k a) (In k b) (type_of a) (type_of b) (plain_type k a f.0 none.0) (plain_type k b f.1 none.1) ∙ f.2 ∙ ap Some (sym (operation_plain o)))
  plain_type k (IsOf p e t) f without = inl (rw (reference_in k e (plain_type k e f.0 without) f.1, f.2) refl)
  plain_type k (AsOf p e t) f without = inl (rw (reference_in k e (plain_type k e f.0 without) f.1, f.2) refl)
  plain_type k (NegateOf p e) f without = inl (rw (int_in k e (plain_type k e f.0 without) f.1) refl)
  plain_type k (NotOf p e) f without = inl (rw (bool_in k e (plain_type k e f.0 without) f.1) refl)
  plain_type k (CastOf p t non_null e) f without = inl (rw (reference_in k e (plain_type k e f.0 without) f.1, f.2) refl)
  plain_type k (FieldOf p e g t) f without =
      let r = f.1 in
      inl (ap (types.field_read_type C (In k e)) r.there
      ∙ (rw (lower_below C (In k e) (type_of e) chain r.field.class (plain_type k e f.0 without) r.has) refl)
      ∙ ap (λ u. Some (nullable u)) r.type)
  plain_type k (ElementOf p a i) f without =
      let none = or_false (has_call a) (has_call i) without in
      inl (ap (λ b. if b then element_of C (In k a) else None) (int_in k i (plain_type k i f.1 none.1) f.3)
      ∙ ap (element_of C) (lower_array C (In k a) (type_of a) (plain_type k a f.0 none.0) f.2) ∙ element_is C (type_of a) f.2)
  plain_type k (LengthOf p e) f without = inl (rw (array_in k e (plain_type k e f.0 without) f.1) refl)
  plain_type k (OldOf p e) f without = plain_type k e f without
  plain_type k (QuantifiedOf p q name low high e) f without =
      let none = two_false (has_call low) (has_call high) (has_call e) without in
      inl (rw (int_in k low (plain_type k low f.0 none.0) f.3, int_in k high (plain_type k high f.1 none.1) f.4, bool_in (suc k) e (plain_type (suc k) e f.2 none.2) f.5) refl)
  plain_type k (StateOf p w e) f without = inl (rw (reference_in k e (plain_type k e f.0 without) f.1, f.2) refl)
  plain_type k (OwnersOf p w a b) f without =
      let none = or_false (has_call a) (has_call b) without in
      inl (rw (reference_in k a (plain_type k a f.0 none.0) f.2, reference_in k b (plain_type k b f.1 none.1) f.3, f.4) refl)
  plain_type k (NewOf p t es) f without = absurd (false≢true (sym without))
  plain_type k (NewArrayOf p t e) f without = absurd (false≢true (sym without))
  plain_type k (CallOf p e m t es) f without = absurd (false≢true (sym without))
  plain_type k (StaticOf p n t es) f without = absurd (false≢true (sym without))
  plain_type k (BaseOf p m t es) f without = absurd (false≢true (sym without))
