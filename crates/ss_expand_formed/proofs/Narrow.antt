-- The type of an expression in a body of a class below the one that it was written for: `this` is of that class there.
use Rattle.std.proofs.Common.{◌≡◌, ℕ, zero, suc, ◌+◌, ◌-◌, List, [], ◌∷◌, ◌++◌, length, Bool, true, false, Option, Some, None, refl, sym, ◌∙◌, ap, subst, arith, ⊎_elim}
use Rattle.std.specs.Prelude.{◌||◌, slice_get, if◌then◌else◌}
use Rattle.std.proofs.lemmas.Bool.{cases_lt, false≢true}
use Rattle.ss_core.specs.declared.names.Ty.{Ty}
use Rattle.ss_core.specs.declared.names.Ty.TheVariants as ty
use Rattle.ss_core.specs.declared.expr.Operator.{Operator}
use Rattle.ss_core.specs.declared.expr.Operator.TheVariants as op
use Rattle.ss_core.specs.Tree as core
use Rattle.ss_core.specs.Chain.{IsChain}
use Rattle.ss_core.proofs.Chains.{below_trans}
use Rattle.ss_core.specs.Types.{nullable}
use Rattle.ss_typed.specs.Tree.{ExprTree, IntOf, BoolOf, NullOf, ThisOf, LocalOf, ResultOf, BoundOf, IffOf, ImpliesOf, BinaryOf, IsOf, AsOf, NegateOf, NotOf, CastOf, FieldOf, ElementOf, LengthOf, OldOf, QuantifiedOf, StateOf, OwnersOf, NewOf, NewArrayOf, CallOf, StaticOf, BaseOf, TypedTree}
use Rattle.ss_typed.specs.Types.{class_type, type_of}
use Rattle.ss_expand_rules.specs.Numbers.{Numbers, number, plain}
use Rattle.ss_expand_rules.specs.Calls.{has_call}
use Rattle.ss_store_rules.specs.Changes.{below, is_array}
use Rattle.ss_store_rules.specs.Types.{where_typed, is_int, is_bool, has_class, is_reference, field_read_type, element_of, operation_type, is_word, is_owners_word}
use Rattle.ss_store_rules.specs.Types as types
use Rattle.ss_expand_formed.proofs.Facts.{or_false}
use Rattle.ss_expand_formed.proofs.Searching.{at_front, at_back}
use Rattle.ss_expand_formed.proofs.Fit.{Context, Fit}
use Rattle.ss_expand_formed.proofs.Exact.{exact_type}
use Rattle.ss_expand_formed.proofs.Plain.{Reads, bare, bare_class, with_bound}

-- it is the same type, or that of a class below, which isn't one of arrays
pub data Narrows (C : List core.ClassTree) (a b : Option Ty) : Type 0 where
  Same : b ≡ a → Narrows C a b
  Lower : (c d : ℕ) (n m : Bool) → a ≡ Some (ty.Ref (record { 0 = c }) n) → b ≡ Some (ty.Ref (record { 0 = d }) m) → below C d c ≡ true → is_array C c ≡ false → Narrows C a b

module _ (C : List core.ClassTree) where
  pub int_same : (a b : Option Ty) → Narrows C a b → is_int b ≡ is_int a
  int_same a b (Same e) = ap is_int e
  int_same a b (Lower c d n m ea eb h g) = ap is_int eb ∙ sym (ap is_int ea)

  pub bool_same : (a b : Option Ty) → Narrows C a b → is_bool b ≡ is_bool a
  bool_same a b (Same e) = ap is_bool e
  bool_same a b (Lower c d n m ea eb h g) = ap is_bool eb ∙ sym (ap is_bool ea)

  pub reference_same : (a b : Option Ty) → Narrows C a b → is_reference b ≡ is_reference a
  reference_same a b (Same e) = ap is_reference e
  reference_same a b (Lower c d n m ea eb h g) = ap is_reference eb ∙ sym (ap is_reference ea)

  operation_same : (o : Operator) (a b x y : Option Ty) → Narrows C a x → Narrows C b y → operation_type o x y ≡ operation_type o a b
  operation_same op.Or a b x y h g = rw (bool_same a x h, bool_same b y g) refl
  operation_same op.And a b x y h g = rw (bool_same a x h, bool_same b y g) refl
  operation_same op.Equal a b x y h g = rw (int_same a x h, int_same b y g, bool_same a x h, bool_same b y g, reference_same a x h, reference_same b y g) refl
  operation_same op.NotEqual a b x y h g = rw (int_same a x h, int_same b y g, bool_same a x h, bool_same b y g, reference_same a x h, reference_same b y g) refl
  operation_same op.Less a b x y h g = rw (int_same a x h, int_same b y g) refl
  operation_same op.LessEqual a b x y h g = rw (int_same a x h, int_same b y g) refl
  operation_same op.Greater a b x y h g = rw (int_same a x h, int_same b y g) refl
  operation_same op.GreaterEqual a b x y h g = rw (int_same a x h, int_same b y g) refl
  operation_same op.Add a b x y h g = rw (int_same a x h, int_same b y g) refl
  operation_same op.Subtract a b x y h g = rw (int_same a x h, int_same b y g) refl
  operation_same op.Multiply a b x y h g = rw (int_same a x h, int_same b y g) refl
  operation_same op.Divide a b x y h g = rw (int_same a x h, int_same b y g) refl
  operation_same op.Remainder a b x y h g = rw (int_same a x h, int_same b y g) refl

  pub array_same : (a b : Option Ty) → Narrows C a b → has_class (is_array C) a ≡ true → b ≡ a
  array_same a b (Same e) h = e
  array_same a b (Lower c d n m ea eb k g) h = absurd (false≢true (sym g ∙ sym (ap (has_class (is_array C)) ea) ∙ h))

  pub below_stays : IsChain C → (t : ℕ) (a b : Option Ty) → Narrows C a b → has_class (λ c. below C c t) a ≡ true → has_class (λ c. below C c t) b ≡ true
  below_stays chain t a b (Same e) h = ap (has_class (λ c. below C c t)) e ∙ h
  below_stays chain t a b (Lower c d n m ea eb k g) h = ap (has_class (λ c. below C c t)) eb ∙ below_trans C chain d c t k (sym (ap (has_class (λ u. below C u t)) ea) ∙ h)

-- Of two lists of the types of locals, the second has the same types, but perhaps a lower one of `this`.
pub record AreNarrowed (C : List core.ClassTree) (ts tys : List Ty) : Type 0 where
  pub count : length tys ≡ length ts
  pub each : (n : ℕ) → Narrows C (bare (slice_get ts n)) (bare (slice_get tys n))

one_more : (C : List core.ClassTree) (ts tys : List Ty) (t : Ty) → AreNarrowed C ts tys → AreNarrowed C (ts ++ t ∷ []) (tys ++ t ∷ [])
one_more C ts tys t h = record { count = longer ts tys h.count; each = at }
  where
    longer : (xs ys : List Ty) → length ys ≡ length xs → length (ys ++ t ∷ []) ≡ length (xs ++ t ∷ [])
    longer [] [] e = refl
    longer [] (y ∷ ys) e = absurd (omega arith)
    longer (x ∷ xs) [] e = absurd (omega arith)
    longer (x ∷ xs) (y ∷ ys) e = ap suc (longer xs ys (omega arith))

    at : (n : ℕ) → Narrows C (bare (slice_get (ts ++ t ∷ []) n)) (bare (slice_get (tys ++ t ∷ []) n))
    at n =
        let size = h.count in
        ⊎_elim
        (λ less. subst (λ o. Narrows C (bare o) (bare (slice_get (tys ++ t ∷ []) n))) (sym (at_front ts (t ∷ []) n less)) (subst (λ o. Narrows C (bare (slice_get ts n)) (bare o)) (sym (at_front tys (t ∷ []) n (omega arith))) (h.each n)))
        (λ past.
        let one : n ≡ length ts + (n - length ts) = omega arith in
        let two : n ≡ length tys + (n - length ts) = omega arith in
        Same (ap bare (ap (slice_get (tys ++ t ∷ [])) two ∙ at_back tys (t ∷ []) (n - length ts) ∙ sym (ap (slice_get (ts ++ t ∷ [])) one ∙ at_back ts (t ∷ []) (n - length ts)))))
        (cases_lt n (length ts))

two_false : (a b c : Bool) → (a || b || c) ≡ false → (a ≡ false) × (b ≡ false) × (c ≡ false)
two_false a b c h = let one = or_false (a || b) c h in let two = or_false a b one.0 in (two.0, two.1, one.1)

module _ (P : TypedTree) (C : List core.ClassTree) (chain : IsChain C) (x : Context) (ns : Numbers) (ts tys : List Ty) (reads : Reads C x ns ts)
    (exact : (d : ℕ) → slice_get x.locals 0 ≡ Some (class_type d true) → bare (slice_get ts 0) ≡ bare (Some (class_type d true))) (narrowed : AreNarrowed C ts tys) where
  bound_narrowed : (k : ℕ) → AreNarrowed C (with_bound ts k) (with_bound tys k)
  bound_narrowed zero = narrowed
  bound_narrowed (suc k) = one_more C (with_bound ts k) (with_bound tys k) ty.Int (bound_narrowed k)

  -- the type where the expression was written, and in the body
  abbrev Above : ℕ → ExprTree → Option Ty
  Above k e = types.type_of C (with_bound ts k) (plain ns e)

  abbrev In : ℕ → ExprTree → Option Ty
  In k e = types.type_of C (with_bound tys k) (plain ns e)

  abbrev Narrow : ℕ → ExprTree → Type 0
  Narrow k e = Narrows C (Above k e) (In k e)

  ints : (k : ℕ) (e : ExprTree) → Narrow k e → is_int (In k e) ≡ is_int (Above k e)
  ints k e h = int_same C (Above k e) (In k e) h

  bools : (k : ℕ) (e : ExprTree) → Narrow k e → is_bool (In k e) ≡ is_bool (Above k e)
  bools k e h = bool_same C (Above k e) (In k e) h

  references : (k : ℕ) (e : ExprTree) → Narrow k e → is_reference (In k e) ≡ is_reference (Above k e)
  references k e h = reference_same C (Above k e) (In k e) h

  arrays : (k : ℕ) (e : ExprTree) → Fit P C x k e → has_call e ≡ false → has_class (is_array C) (type_of e) ≡ true → Narrow k e → In k e ≡ Above k e
  arrays k e f without h n = array_same C (Above k e) (In k e) n (ap (has_class (is_array C)) (exact_type P C x ns ts chain reads exact k e f without) ∙ bare_class (is_array C) (type_of e) ∙ h)

  pub narrow : (k : ℕ) (e : ExprTree) → Fit P C x k e → has_call e ≡ false → Narrow k e
  narrow k (IntOf p n) f without = Same refl
  narrow k (BoolOf p b) f without = Same refl
  narrow k (NullOf p) f without = Same refl
  narrow k (ThisOf p t) f without = (bound_narrowed k).each 0
  narrow k (LocalOf p y t) f without = (bound_narrowed k).each (number ns y)
  narrow k (ResultOf p t) f without = (bound_narrowed k).each ns.outcome
  narrow k (BoundOf p n) f without = (bound_narrowed k).each (ns.first_bound + n)
  narrow k (IffOf p a b) f without =
      let none = or_false (has_call a) (has_call b) without in
      Same (rw (bools k a (narrow k a f.0 none.0), bools k b (narrow k b f.1 none.1)) refl)
  narrow k (ImpliesOf p a b) f without =
      let none = or_false (has_call a) (has_call b) without in
      Same (rw (bools k a (narrow k a f.0 none.0), bools k b (narrow k b f.1 none.1)) refl)
  narrow k (BinaryOf p o a b) f without =
      let none = or_false (has_call a) (has_call b) without in
      Same (operation_same C o (Above k a) (Above k b) (In k a) (In k b) (narrow k a f.0 none.0) (narrow k b f.1 none.1))
  narrow k (IsOf p e t) f without = Same (rw (references k e (narrow k e f.0 without)) refl)
  narrow k (AsOf p e t) f without = Same (rw (references k e (narrow k e f.0 without)) refl)
  narrow k (NegateOf p e) f without = Same (rw (ints k e (narrow k e f.0 without)) refl)
  narrow k (NotOf p e) f without = Same (rw (bools k e (narrow k e f.0 without)) refl)
  narrow k (CastOf p t non_null e) f without = Same (rw (references k e (narrow k e f.0 without)) refl)
  narrow k (FieldOf p e g t) f without =
      let r = f.1 in
      let test = λ (c : ℕ). below C c r.field.class in
      let over : has_class test (Above k e) ≡ true = ap (has_class test) (exact_type P C x ns ts chain reads exact k e f.0 without) ∙ bare_class test (type_of e) ∙ r.has in
      let here = below_stays C chain r.field.class (Above k e) (In k e) (narrow k e f.0 without) over in
      Same (ap (field_read_type C (In k e)) r.there ∙ ap (λ b. where_typed b (nullable r.field.field.ty)) here ∙ sym (ap (field_read_type C (Above k e)) r.there ∙ ap (λ b. where_typed b (nullable r.field.field.ty)) over))
  narrow k (ElementOf p a i) f without =
      let none = or_false (has_call a) (has_call i) without in
      let same = arrays k a f.0 none.0 f.2 (narrow k a f.0 none.0) in
      Same (ap (λ b. if b then element_of C (In k a) else None) (ints k i (narrow k i f.1 none.1)) ∙ ap (λ t. if is_int (Above k i) then element_of C t else None) same)
  narrow k (LengthOf p e) f without =
      let same = arrays k e f.0 without f.1 (narrow k e f.0 without) in
      Same (ap (λ t. where_typed (has_class (is_array C) t) ty.Int) same)
  narrow k (OldOf p e) f without = narrow k e f without
  narrow k (QuantifiedOf p q name low high e) f without =
      let none = two_false (has_call low) (has_call high) (has_call e) without in
      Same (rw (ints k low (narrow k low f.0 none.0), ints k high (narrow k high f.1 none.1), bools (suc k) e (narrow (suc k) e f.2 none.2)) refl)
  narrow k (StateOf p w e) f without = Same (rw (references k e (narrow k e f.0 without)) refl)
  narrow k (OwnersOf p w a b) f without =
      let none = or_false (has_call a) (has_call b) without in
      Same (rw (references k a (narrow k a f.0 none.0), references k b (narrow k b f.1 none.1)) refl)
  narrow k (NewOf p t es) f without = absurd (false≢true (sym without))
  narrow k (NewArrayOf p t e) f without = absurd (false≢true (sym without))
  narrow k (CallOf p e m t es) f without = absurd (false≢true (sym without))
  narrow k (StaticOf p n t es) f without = absurd (false≢true (sym without))
  narrow k (BaseOf p m t es) f without = absurd (false≢true (sym without))

  -- the type in the body is that of the expression, or a lower one
  pub narrow_type : (e : ExprTree) → Fit P C x 0 e → has_call e ≡ false → Narrows C (bare (type_of e)) (types.type_of C tys (plain ns e))
  narrow_type e f without = subst (λ t. Narrows C t (types.type_of C tys (plain ns e))) (exact_type P C x ns ts chain reads exact 0 e f without) (narrow 0 e f without)
