-- What an admissible invariant says of an object rests on what it may look at alone.
use Rattle.std.proofs.Common.{◌≡◌, ℕ, zero, suc, ℤ, ◌<◌, List, [], ◌∷◌, ◌++◌, length, map, Bool, true, false, ◌&&◌, Option, Some, None, Ok, refl, sym, ◌∙◌, ap, subst, inl, inr, ◌⊎◌, ⊎_elim, arith}
use Rattle.std.specs.Prelude.{pos, negsuc, slice_get, unwrap_or, nat_lt, nat_le, ◌==◌, ◌+◌, ◌*◌, ◌-◌, ◌/◌, ◌%◌, if◌then◌else◌, not, neg_ℤ}
use Rattle.std.specs.List.{list_all}
use Rattle.std.specs.Bool.{beq}
use Rattle.std.specs.Int.{int_gap}
use Rattle.std.proofs.lemmas.Bool.{cases_Bool, cases_lt, leb-false, eqb-true, and_parts, or_cases, false≢true}
use Rattle.std.proofs.lemmas.List.{map-append}
use Rattle.std.proofs.lemmas.Option.{slice_get_within, slice_get_past, slice_get-get_or, unwrap_or-slice_get, same_Some}
use Rattle.ss_core.specs.declared.names.Place.{Place}
use Rattle.ss_core.specs.declared.names.Kind.TheVariants as kind
use Rattle.ss_core.specs.declared.names.Mark.{Mark}
use Rattle.ss_core.specs.declared.names.Mark.TheVariants as mark
use Rattle.ss_core.specs.declared.names.Ty.{Ty}
use Rattle.ss_core.specs.declared.names.Ty.TheVariants as ty
use Rattle.ss_core.specs.Tree.{ClassTree, ExprTree, IntExpr, BoolExpr, NullExpr, LocalExpr, FieldExpr, ElementExpr, LengthExpr, NegateExpr, NotExpr, BinaryExpr, ImpliesExpr, IffExpr, IsExpr, AsExpr, CastExpr, OldExpr, QuantifiedExpr, StateExpr, OwnersExpr, DefaultExpr}
use Rattle.ss_core.specs.Chain.{declared, is_declared, sub}
use Rattle.ss_store_rules.specs.declared.Value.{Value}
use Rattle.ss_store_rules.specs.declared.Value.TheVariants as value
use Rattle.ss_store_rules.specs.Store.{Object, slot_value, field_value}
use Rattle.ss_store_rules.specs.Reads.{as_int, as_bool, no_object, object_at, field_read, element_read}
use Rattle.ss_store_rules.specs.Numbers.{Outcome}
use Rattle.ss_store_rules.specs.Values.{Setting, setting, with_bound, and_then, truth, readable_of, field_value as value_of_field, length_value, is_index, index, element_value, is_of, cast, value_of, is_true}
use Rattle.ss_store_rules.specs.Changes.{below, field_class, field_mark, field_type, element_type}
use Rattle.ss_store_rules.specs.Good.{Invariants, has_type, is_of_class, IsGood, Inside, Direct, Deeper, LooksSame, IsLocal, IsFree}
use Rattle.ss_store_rules.specs.Admissible.{is_this, is_own_field, is_owned_path, is_admissible, invariants_of, invariants, invariants_hold, AreAdmissible}
use Rattle.ss_core.specs.Marks.{is_rep, is_rep_or_peer}
use Rattle.ss_store_rules.proofs.Agreeing.{Refers, Agree, agree_with_itself, agree_undefined, agree_truth, agree_if, agree_if_same, agree_and_then, agree_of_object, agree_whole, agree_operation, agree_implication, agree_quantified}
use Rattle.ss_store_rules.proofs.Levels.{declared_at_level}

-- ---- values that are read

refers_if_read : (P : ℕ → Type 0) (r : Option Value) → ((v : Value) → r ≡ Some v → Refers P v) → Refers P (unwrap_or r value.Null)
refers_if_read P None h = tt
refers_if_read P (Some v) h = h v refl

numbers_refer : (P : ℕ → Type 0) (ns : List ℤ) (x : ℕ) → Refers P (unwrap_or (slice_get (map value.Int ns) x) value.Null)
numbers_refer P [] x = tt
numbers_refer P (n ∷ ns) zero = tt
numbers_refer P (n ∷ ns) (suc x) = numbers_refer P ns x

is_rep_Rep : (m : Mark) → is_rep m ≡ true → m ≡ mark.Rep
is_rep_Rep mark.Plain h = absurd (false≢true h)
is_rep_Rep mark.Rep h = refl
is_rep_Rep mark.Peer h = absurd (false≢true h)

rep_or_peer : (m : Mark) → is_rep_or_peer m ≡ true → (m ≡ mark.Rep) ⊎ (m ≡ mark.Peer)
rep_or_peer mark.Plain h = absurd (false≢true h)
rep_or_peer mark.Rep h = inl refl
rep_or_peer mark.Peer h = inr refl

module _ (cs : List ClassTree) (holds : Invariants) (s s' : List Object) (o t : ℕ) (there : o < length s) (good : IsGood cs holds s) (looks : LooksSame cs s s' o t) where
  -- an object of the first store
  abbrev IsThere : ℕ → Type 0
  IsThere q = q < length s

  abbrev IsInside : ℕ → Type 0
  IsInside q = Inside cs s o t q

  -- the bound names are numbers
  abbrev before : List ℤ → Setting
  before ns = setting cs s s (value.Obj o ∷ map value.Int ns)

  abbrev after : List ℤ → Setting
  after ns = setting cs s' s' (value.Obj o ∷ map value.Int ns)

  at_before : (q : ℕ) → IsThere q → slice_get s q ≡ Some (object_at s q)
  at_before q h = slice_get-get_or s q no_object h ∙ ap Some (sym (unwrap_or-slice_get s q no_object))

  at_after : (q : ℕ) → IsThere q → slice_get s' q ≡ Some (object_at s' q)
  at_after q h = let l = looks.allocated in slice_get-get_or s' q no_object (omega arith) ∙ ap Some (sym (unwrap_or-slice_get s' q no_object))

  -- ---- what a typed value refers to is there

  of_class_there : (u q : ℕ) → is_of_class cs u (slice_get s q) ≡ true → IsThere q
  of_class_there u q h = ⊎_elim (λ l. l) (λ past. absurd (false≢true (rw (slice_get_past s q past) at h))) (cases_lt q (length s))

  typed_there : (T : Ty) (v : Value) → has_type cs s T v ≡ true → Refers IsThere v
  typed_there T (value.Int n) h = tt
  typed_there T (value.Bool b) h = tt
  typed_there ty.Int (value.Obj q) h = absurd (false≢true h)
  typed_there ty.Bool (value.Obj q) h = absurd (false≢true h)
  typed_there ty.Null (value.Obj q) h = absurd (false≢true h)
  typed_there (ty.Ref u non_null) (value.Obj q) h = of_class_there u.0 q h
  typed_there T value.Null h = tt

  field_refers : (P : ℕ → Type 0) (q f : ℕ) → IsThere q → ((r : ℕ) → field_value (object_at s q) f ≡ Some (value.Obj r) → IsThere r → P r) → Refers P (field_read (object_at s q) f)
  field_refers P q f h k = refers_if_read P _ step
    where
      step : (v : Value) → field_value (object_at s q) f ≡ Some v → Refers P v
      step (value.Int n) e = tt
      step (value.Bool b) e = tt
      step (value.Obj r) e = k r e (typed_there (field_type cs f) (value.Obj r) ((good q (object_at s q) (at_before q h)).values.fields f (value.Obj r) e))
      step value.Null e = tt

  field_there : (q f : ℕ) → IsThere q → Refers IsThere (field_read (object_at s q) f)
  field_there q f h = field_refers IsThere q f h (λ r e l. l)

  element_there : (q i : ℕ) → IsThere q → Refers IsThere (element_read (object_at s q) i)
  element_there q i h =
      let x = object_at s q in
      refers_if_read IsThere (slice_get x.elements i) (λ v e. typed_there (element_type x.class) v ((good q x (at_before q h)).values.elements i v e))

  -- ---- what is inside

  inside_there : {q : ℕ} → Inside cs s o t q → q < length s
  inside_there (Direct {q = q} {x = x} e own up) = slice_get_within s q x e
  inside_there (Deeper {q = q} {x = x} i ey up e own) = slice_get_within s q x e

  -- with the owner of what is inside
  inside_as : {r : ℕ} → Inside cs s o t r → (q : ℕ) (x y : Object) → slice_get s r ≡ Some x → slice_get s q ≡ Some y → y.owner ≡ x.owner → Inside cs s o t q
  inside_as (Direct {x = z} e own up) q x y ex ey same = Direct ey (same ∙ ap (λ w. w.owner) (same_Some _ _ (sym ex ∙ e)) ∙ own) up
  inside_as (Deeper {x = z} i er up e own) q x y ex ey same = Deeper i er up ey (same ∙ ap (λ w. w.owner) (same_Some _ _ (sym ex ∙ e)) ∙ own)

  -- what a rep field of `this` refers to
  own_inside : (f : ℕ) → below cs t (field_class cs f) ≡ true → field_mark cs f ≡ mark.Rep → Refers IsInside (field_read (object_at s o) f)
  own_inside f up rep =
      let x = object_at s o in
      field_refers IsInside o f there (λ r e l. Direct (at_before r l) ((good o x (at_before o there)).reps f r e rep (object_at s r) (at_before r l)) up)

  -- what a rep or peer field of an object inside refers to
  further_inside : (q f : ℕ) → Inside cs s o t q → is_rep_or_peer (field_mark cs f) ≡ true → Refers IsInside (field_read (object_at s q) f)
  further_inside q f i h =
      let x = object_at s q in
      let ex : slice_get s q ≡ Some (object_at s q) = at_before q (inside_there i) in
      ⊎_elim
      (λ rep. field_refers IsInside q f (inside_there i) (λ r e l. Deeper i ex (declared_at_level cs s x f (value.Obj r) (good q x ex).values e) (at_before r l) ((good q x ex).reps f r e rep (object_at s r) (at_before r l))))
      (λ peer. field_refers IsInside q f (inside_there i) (λ r e l. inside_as i r x (object_at s r) ex (at_before r l) ((good q x ex).peers f r e peer (object_at s r) (at_before r l))))
      (rep_or_peer (field_mark cs f) h)

  -- ---- what both stores read alike

  own_alike : (f : ℕ) → below cs t (field_class cs f) ≡ true → field_read (object_at s o) f ≡ field_read (object_at s' o) f
  own_alike f up = ap (λ r. unwrap_or r value.Null) (looks.own (object_at s o) (object_at s' o) f (at_before o there) (at_after o there) up)

  inside_alike : (q f : ℕ) → Inside cs s o t q → field_read (object_at s q) f ≡ field_read (object_at s' q) f
  inside_alike q f i = ap (λ xs. unwrap_or (slot_value xs f) value.Null) (looks.inside q (object_at s q) (object_at s' q) i (at_before q (inside_there i)) (at_after q (inside_there i))).0

  element_alike : (q n : ℕ) → Inside cs s o t q → element_read (object_at s q) n ≡ element_read (object_at s' q) n
  element_alike q n i = ap (λ xs. unwrap_or (slice_get xs n) value.Null) (looks.inside q (object_at s q) (object_at s' q) i (at_before q (inside_there i)) (at_after q (inside_there i))).1

  class_alike : (q : ℕ) → IsThere q → (object_at s q).class ≡ (object_at s' q).class
  class_alike q h = looks.class q (object_at s q) (object_at s' q) (at_before q h) (at_after q h)

  length_alike : (q : ℕ) → IsThere q → length (object_at s q).elements ≡ length (object_at s' q).elements
  length_alike q h = looks.size q (object_at s q) (object_at s' q) (at_before q h) (at_after q h)

  index_alike : (ns : List ℤ) (q : ℕ) (i : ℤ) → IsThere q → is_index (before ns) q i ≡ is_index (after ns) q i
  index_alike ns q (pos i) h = ap (λ n. nat_lt i n) (length_alike q h)
  index_alike ns q (negsuc i) h = refl

  is_alike : (ns : List ℤ) (u : ℕ) (v : Value) → Refers IsThere v → is_of (before ns) u v ≡ is_of (after ns) u v
  is_alike ns u (value.Int n) h = refl
  is_alike ns u (value.Bool b) h = refl
  is_alike ns u (value.Obj q) h = ap (λ c. sub cs c u) (class_alike q h)
  is_alike ns u value.Null h = refl

  -- ---- each form of an expression

  -- outside `old` the state of each object may be read
  agree_readable : (P Q : ℕ → Type 0) (ns : List ℤ) (p : Place) (v : Value) (f g : ℕ → Outcome) → Refers P v → ((q : ℕ) → P q → Agree Q (f q) (g q)) →
      Agree Q (and_then (readable_of (before ns) p v) f) (and_then (readable_of (after ns) p v) g)
  agree_readable P Q ns p (value.Int n) f g r k = agree_undefined Q p kind.Null
  agree_readable P Q ns p (value.Bool b) f g r k = agree_undefined Q p kind.Null
  agree_readable P Q ns p (value.Obj q) f g r k = k q r
  agree_readable P Q ns p value.Null f g r k = agree_undefined Q p kind.Null

  agree_field : (P Q : ℕ → Type 0) (ns : List ℤ) (p : Place) (f : ℕ) (a b : Outcome) → Agree P a b →
      ((q : ℕ) → P q → field_read (object_at s q) f ≡ field_read (object_at s' q) f) → ((q : ℕ) → P q → Refers Q (field_read (object_at s q) f)) →
      Agree Q (and_then a (λ v. value_of_field (before ns) p v f)) (and_then b (λ v. value_of_field (after ns) p v f))
  agree_field P Q ns p f a b h alike refers =
      agree_and_then P Q a b _ _ h (λ v r.
      agree_readable P Q ns p v _ _ r (λ q k.
      record { same = ap Ok (alike q k); gives = refers q k }))

  agree_this : (e : ExprTree) (ns : List ℤ) → is_this e ≡ true → Agree (λ q. q ≡ o) (value_of e (before ns)) (value_of e (after ns))
  agree_this (LocalExpr p x) ns h =
      subst (λ y. Agree (λ q. q ≡ o) (value_of (LocalExpr p y) (before ns)) (value_of (LocalExpr p y) (after ns))) (sym (eqb-true x 0 h))
      (record { same = refl; gives = refl })
  agree_this e ns h = absurd (false≢true h)

  agree_owned : (e : ExprTree) (ns : List ℤ) → is_owned_path cs t e ≡ true → Agree IsInside (value_of e (before ns)) (value_of e (after ns))
  agree_owned (FieldExpr p e f) ns h =
      ⊎_elim
      (λ own. let rep = and_parts (is_own_field cs t e f) (is_rep (field_mark cs f)) own in
      let this = and_parts (is_this e) (below cs t (field_class cs f)) rep.0 in
      agree_field (λ q. q ≡ o) IsInside ns p f _ _ (agree_this e ns this.0)
      (λ q is. subst (λ r. field_read (object_at s r) f ≡ field_read (object_at s' r) f) (sym is) (own_alike f this.1))
      (λ q is. subst (λ r. Refers IsInside (field_read (object_at s r) f)) (sym is) (own_inside f this.1 (is_rep_Rep (field_mark cs f) rep.1))))
      (λ further. let path = and_parts (is_owned_path cs t e) (is_rep_or_peer (field_mark cs f)) further in
      agree_field IsInside IsInside ns p f _ _ (agree_owned e ns path.0) (λ q i. inside_alike q f i) (λ q i. further_inside q f i path.1))
      (or_cases (is_own_field cs t e f && is_rep (field_mark cs f)) (is_owned_path cs t e && is_rep_or_peer (field_mark cs f)) h)
  agree_owned e ns h = absurd (false≢true h)

  agree_local : (ns : List ℤ) (p : Place) (x : ℕ) → Agree IsThere (value_of (LocalExpr p x) (before ns)) (value_of (LocalExpr p x) (after ns))
  agree_local ns p zero = record { same = refl; gives = there }
  agree_local ns p (suc x) = record { same = refl; gives = numbers_refer IsThere ns x }

  agree_element : (ns : List ℤ) (p : Place) (i : ℤ) (v : Value) → Refers IsInside v → Agree IsThere (element_value (before ns) p v i) (element_value (after ns) p v i)
  agree_element ns p i v r =
      agree_readable IsInside IsThere ns p v _ _ r (λ q inside.
      agree_if_same IsThere (is_index (before ns) q i) (is_index (after ns) q i) _ _ _ _ (index_alike ns q i (inside_there inside))
      (record { same = ap Ok (element_alike q (index i) inside); gives = element_there q (index i) (inside_there inside) })
      (agree_undefined IsThere p kind.Index))

  agree_length : (ns : List ℤ) (p : Place) (v : Value) → Refers IsThere v → Agree IsThere (length_value (before ns) p v) (length_value (after ns) p v)
  agree_length ns p v r =
      agree_of_object IsThere IsThere p v _ _ r (λ q h.
      record { same = ap (λ n. Ok (value.Int (pos n))) (length_alike q h); gives = tt })

  agree_is : (ns : List ℤ) (u : ℕ) (v : Value) → Refers IsThere v → Agree IsThere (truth (is_of (before ns) u v)) (truth (is_of (after ns) u v))
  agree_is ns u v r = record { same = ap truth (is_alike ns u v r); gives = tt }

  agree_as : (ns : List ℤ) (u : ℕ) (v : Value) → Refers IsThere v → Agree IsThere (Ok (if is_of (before ns) u v then v else value.Null)) (Ok (if is_of (after ns) u v then v else value.Null))
  agree_as ns u v r = record { same = ap (λ b. Ok (if b then v else value.Null)) (is_alike ns u v r); gives = either (is_of (before ns) u v) }
    where
      either : (b : Bool) → Refers IsThere (if b then v else value.Null)
      either true = r
      either false = tt

  agree_cast : (ns : List ℤ) (p : Place) (u : ℕ) (non_null : Bool) (v : Value) → Refers IsThere v → Agree IsThere (cast (before ns) p u non_null v) (cast (after ns) p u non_null v)
  agree_cast ns p u non_null (value.Int n) r = agree_if IsThere non_null _ _ _ _ (agree_undefined IsThere p kind.Null) (agree_with_itself IsThere (Ok (value.Int n)) tt)
  agree_cast ns p u non_null (value.Bool b) r = agree_if IsThere non_null _ _ _ _ (agree_undefined IsThere p kind.Null) (agree_truth IsThere b)
  agree_cast ns p u non_null (value.Obj q) r =
      agree_if_same IsThere (is_of (before ns) u (value.Obj q)) (is_of (after ns) u (value.Obj q)) _ _ _ _ (is_alike ns u (value.Obj q) r)
      (agree_with_itself IsThere (Ok (value.Obj q)) r) (agree_undefined IsThere p kind.Cast)
  agree_cast ns p u non_null value.Null r = agree_if IsThere non_null _ _ _ _ (agree_undefined IsThere p kind.Null) (agree_with_itself IsThere (Ok value.Null) tt)

  -- the member with one more bound name
  agree_member : (e : ExprTree) (ns : List ℤ) (i : ℤ) → Agree IsThere (value_of e (before (ns ++ i ∷ []))) (value_of e (after (ns ++ i ∷ []))) →
      Agree IsThere (value_of e (with_bound (before ns) i)) (value_of e (with_bound (after ns) i))
  agree_member e ns i h =
      subst (λ xs. Agree IsThere (value_of e (setting cs s s (value.Obj o ∷ xs))) (value_of e (setting cs s' s' (value.Obj o ∷ xs)))) (map-append value.Int ns (i ∷ [])) h

  -- ---- every admissible expression

  agree : (e : ExprTree) (ns : List ℤ) → is_admissible cs t e ≡ true → Agree IsThere (value_of e (before ns)) (value_of e (after ns))
  agree (IntExpr p n) ns h = agree_with_itself IsThere (Ok (value.Int n)) tt
  agree (BoolExpr p b) ns h = agree_truth IsThere b
  agree (NullExpr p) ns h = agree_with_itself IsThere (Ok value.Null) tt
  agree (LocalExpr p x) ns h = agree_local ns p x
  agree (FieldExpr p e f) ns h =
      ⊎_elim
      (λ own. let this = and_parts (is_this e) (below cs t (field_class cs f)) own in
      agree_field (λ q. q ≡ o) IsThere ns p f _ _ (agree_this e ns this.0)
      (λ q is. subst (λ r. field_read (object_at s r) f ≡ field_read (object_at s' r) f) (sym is) (own_alike f this.1))
      (λ q is. subst (λ r. Refers IsThere (field_read (object_at s r) f)) (sym is) (field_there o f there)))
      (λ path. agree_field IsInside IsThere ns p f _ _ (agree_owned e ns path) (λ q i. inside_alike q f i) (λ q i. field_there q f (inside_there i)))
      (or_cases (is_own_field cs t e f) (is_owned_path cs t e) h)
  agree (ElementExpr p a i) ns h =
      let parts = and_parts (is_owned_path cs t a) (is_admissible cs t i) h in
      agree_and_then IsInside IsThere _ _ _ _ (agree_owned a ns parts.0) (λ v r.
      agree_and_then IsThere IsThere _ _ _ _ (agree i ns parts.1) (λ w _.
      agree_element ns p (as_int w) v r))
  agree (LengthExpr p e) ns h = agree_and_then IsThere IsThere _ _ _ _ (agree e ns h) (λ v r. agree_length ns p v r)
  agree (NegateExpr p e) ns h = agree_and_then IsThere IsThere _ _ _ _ (agree e ns h) (λ v r. agree_whole IsThere p (neg_ℤ (as_int v)))
  agree (NotExpr p e) ns h = agree_and_then IsThere IsThere _ _ _ _ (agree e ns h) (λ v r. agree_truth IsThere (not (as_bool v)))
  agree (BinaryExpr p x a b) ns h =
      let parts = and_parts (is_admissible cs t a) (is_admissible cs t b) h in
      agree_operation IsThere x p _ _ _ _ (agree a ns parts.0) (agree b ns parts.1)
  agree (ImpliesExpr p a b) ns h =
      let parts = and_parts (is_admissible cs t a) (is_admissible cs t b) h in
      agree_implication IsThere _ _ _ _ (agree a ns parts.0) (agree b ns parts.1)
  agree (IffExpr p a b) ns h =
      let parts = and_parts (is_admissible cs t a) (is_admissible cs t b) h in
      agree_and_then IsThere IsThere _ _ _ _ (agree a ns parts.0) (λ v _.
      agree_and_then IsThere IsThere _ _ _ _ (agree b ns parts.1) (λ w _.
      agree_truth IsThere (beq (as_bool v) (as_bool w))))
  agree (IsExpr p e u) ns h = agree_and_then IsThere IsThere _ _ _ _ (agree e ns h) (λ v r. agree_is ns u v r)
  agree (AsExpr p e u) ns h = agree_and_then IsThere IsThere _ _ _ _ (agree e ns h) (λ v r. agree_as ns u v r)
  agree (CastExpr p u non_null e) ns h = agree_and_then IsThere IsThere _ _ _ _ (agree e ns h) (λ v r. agree_cast ns p u non_null v r)
  agree (OldExpr p e) ns h = absurd (false≢true h)
  agree (QuantifiedExpr p q name low high e) ns h =
      let parts = and_parts (is_admissible cs t low) (is_admissible cs t high && is_admissible cs t e) h in
      let more = and_parts (is_admissible cs t high) (is_admissible cs t e) parts.1 in
      agree_and_then IsThere IsThere _ _ _ _ (agree low ns parts.0) (λ v _.
      agree_and_then IsThere IsThere _ _ _ _ (agree high ns more.0) (λ w _.
      agree_quantified IsThere q (λ i. value_of e (with_bound (before ns) i)) (λ i. value_of e (with_bound (after ns) i))
      (λ i. agree_member e ns i (agree e (ns ++ i ∷ []) more.1))
      (int_gap (as_int v) (as_int w)) (as_int v)))
  agree (StateExpr p w e) ns h = absurd (false≢true h)
  agree (OwnersExpr p w a b) ns h = absurd (false≢true h)
  agree (DefaultExpr p d) ns h = absurd (false≢true h)

  all_alike : (es : List ExprTree) → list_all (is_admissible cs t) es ≡ true → list_all (λ e. is_true (value_of e (before []))) es ≡ list_all (λ e. is_true (value_of e (after []))) es
  all_alike [] h = refl
  all_alike (e ∷ es) h =
      let parts = and_parts (is_admissible cs t e) (list_all (is_admissible cs t) es) h in
      let first : is_true (value_of e (before [])) ≡ is_true (value_of e (after [])) = ap is_true (agree e [] parts.0).same in
      let others = all_alike es parts.1 in
      cc

-- ---- what the changes need

pub IsLocal-invariants : (cs : List ClassTree) → AreAdmissible cs → IsLocal cs (invariants_hold cs)
IsLocal-invariants cs admissible s s' o t there good looks = all_alike cs (invariants_hold cs) s s' o t there good looks (invariants cs t) (admissible t)

not_declared : (cs : List ClassTree) (t : ℕ) → is_declared cs t ≡ false → declared cs t ≡ None
not_declared cs t h =
    ⊎_elim
    (λ is. let large : 4 + 2 * length cs < t + 1 = leb-false (t + 1) (4 + 2 * length cs) (rw is at h) in
    rw is (slice_get_past cs ((t - 4) / 2) (omega arith)))
    (λ not. rw not refl)
    (cases_Bool (nat_le 4 t && t % 2 == 0))

pub IsFree-invariants : (cs : List ClassTree) → IsFree cs (invariants_hold cs)
IsFree-invariants cs s o t h = ap (λ c. list_all (λ e. is_true (value_of e (setting cs s s (value.Obj o ∷ [])))) (invariants_of c)) (not_declared cs t h)
