-- Typed expressions are well formed: each of their parts, and what they mean.
use Rattle.std.proofs.Common.{◌≡◌, ℕ, pos, List, [], ◌∷◌, ◌++◌, length, Bool, true, false, not, ◌&&◌, map, Option, Some, None, refl, sym, ◌∙◌, ap, arith}
use Rattle.std.specs.Prelude.{slice_get, is_some, if◌then◌else◌}
use Rattle.std.proofs.lemmas.Bool.{false≢true, and_parts, and_from, lt-ltb}
use Rattle.std.proofs.lemmas.Option.{slice_get_within}
use Rattle.ss_core.specs.declared.names.Ty.{Ty}
use Rattle.ss_core.specs.declared.names.Ty.TheVariants as ty
use Rattle.ss_core.specs.declared.expr.Quantifier.{Quantifier}
use Rattle.ss_core.specs.declared.expr.Quantifier.TheVariants as quantifier
use Rattle.ss_core.specs.Tree.{ClassTree, WordTree, Consistent, Committed, New, Level, Packed, Unowned, OwnersTree, SameOwner, OwnedAt, ExprTree, IntExpr, BoolExpr, NullExpr, LocalExpr, FieldExpr, ElementExpr, LengthExpr, NegateExpr, NotExpr, BinaryExpr, ImpliesExpr, IffExpr, IsExpr, AsExpr, CastExpr, OldExpr, QuantifiedExpr, StateExpr, OwnersExpr, DefaultExpr}
use Rattle.ss_core.specs.Chain.{below, is_class, DeclaredField, all_fields}
use Rattle.ss_core.specs.Types.{nullable}
use Rattle.ss_store_rules.specs.Numbers.{fits}
use Rattle.ss_store_rules.specs.Changes.{is_array, type_of_field}
use Rattle.ss_store_rules.specs.Types.{class_type, is_int, is_bool, is_reference, has_class, where_typed, field_read_type, is_word, is_owners_word, element_of, type_of}
use Rattle.ss_logic.specs.declared.Sort.{Sort}
use Rattle.ss_logic.specs.declared.Sort.TheVariants as sort
use Rattle.ss_logic.specs.Terms.{Add, Subtract, Field, Element, Length, Term, Bound, app, sort_of_type, field_sort, has_field, is_store_sort, takes}
use Rattle.ss_logic.specs.Formulas.{Formula, Forall, neg}
use Rattle.ss_logic.proofs.Truth.{type_sort}
use Rattle.ss_logic.specs.Shapes.{number, null_term, class_term, level_of, owner_of, pair_of, equal, differ, at_most, sub_atom, allocated, committed, group}
use Rattle.ss_logic.specs.Shapes as shape
use Rattle.ss_logic.specs.Express.{and_of, or_of, Choice, Meant, Says, choices, over, over_two, said, same_truths, Context, state, at_entry, with_bound, element_sort, is_of, fits_int, less, word_said, owners_said, as_class, out_of_range, quantified_said, meant, not_null, readable, under, index_fits, word_parts, defined}
use Rattle.ss_logic_means.specs.Sorts.{HasSort, AreWellFormed, HaveSort, IsWellExpressed, IsSortedAmong}
use Rattle.ss_logic_means.proofs.Operands.{three_parts, where_some, where_bool, int_some, bool_some, reference_some, class_reference, int_or_bool, reference_or_bool, field_from, elements_from, element_reference, are_operands}
use Rattle.ss_logic_means.proofs.Sorting.{sorted_one, sorted_two, sorted_three, equal_formed, all_formed, more_formed, each_formed}
use Rattle.ss_logic_means.proofs.Forming.{F, S, C, and_two, or_two, negation, under_formed, says_sorted, flat_sorted, over_formed, over_two_formed, said_formed, same_formed, mapped_sorted, paired_sorted}
use Rattle.ss_logic_means.proofs.Operating.{int_sort, bool_sort, reference_sort, where_sort, number_sorted, null_sorted, at_most_formed, less_formed, fits_formed, not_null_formed, as_sort, operation_formed}
use Rattle.ss_logic_means.proofs.Everywhere.{reads_plainly}
use Rattle.ss_logic_means.proofs.Standing.{length_more}
use Rattle.ss_logic_means.proofs.Contexts.{bound_sorted, class_sorted, type_sorted, pair_sorted, sub_formed, group_formed, level_sorted, owner_sorted, allocated_formed, committed_formed, consistent_formed, plain_sort, state_sorted, local_expressed, readable_formed, old_sorted, longer_sorted, with_bound_sorted}

-- ---- results by their types

module _ (cs : List ClassTree) (bound : List Sort) where
  typed_sorted : (b : Bool) (t : Ty) (m : Meant) → is_some (where_typed b t) ≡ true → C cs bound (sort_of_type t) m → C cs bound (element_sort (where_typed b t)) m
  typed_sorted b t m h k = as_sort cs bound (sort_of_type t) (element_sort (where_typed b t)) m (sym (where_sort b t (where_some b t h))) k

  says_typed : (b : Bool) (f : Formula) → is_some (where_typed b ty.Bool) ≡ true → F cs bound f → C cs bound (element_sort (where_typed b ty.Bool)) (Says f)
  says_typed b f h k = typed_sorted b ty.Bool (Says f) h (says_sorted cs bound f k)

  wholes : (a : Option Ty) (m : Meant) → is_int a ≡ true → C cs bound (element_sort a) m → C cs bound sort.Whole m
  wholes a m h k = as_sort cs bound (element_sort a) sort.Whole m (int_sort a h) k

  truths : (a : Option Ty) (m : Meant) → is_bool a ≡ true → C cs bound (element_sort a) m → C cs bound sort.Truth m
  truths a m h k = as_sort cs bound (element_sort a) sort.Truth m (bool_sort a h) k

  things : (a : Option Ty) (m : Meant) → is_reference a ≡ true → C cs bound (element_sort a) m → C cs bound sort.Rest m
  things a m h k = as_sort cs bound (element_sort a) sort.Rest m (reference_sort a h) k

  -- ---- classes

  is_of_formed : (t : ℕ) (x : Term) → S cs bound sort.Rest x → F cs bound (is_of t x)
  is_of_formed t x h =
      and_two cs bound (differ x null_term) (sub_atom (shape.type_of x) (class_term t)) (equal_formed cs bound false sort.Rest x null_term h (null_sorted cs bound))
      (sub_formed cs bound (shape.type_of x) (class_term t) (type_sorted cs bound x h) (class_sorted cs bound t))

  as_class_sorted : (t : ℕ) (x : Choice) → F cs bound x.condition → S cs bound sort.Rest x.value → HaveSort cs bound sort.Rest (as_class t x)
  as_class_sorted t x h k =
      let is = is_of_formed t x.value k in
      (and_two cs bound x.condition (is_of t x.value) h is, k, (and_two cs bound x.condition (neg (is_of t x.value)) h (negation cs bound (is_of t x.value) is), null_sorted cs bound, tt))

  may_be_formed : (t : ℕ) (x : Term) → S cs bound sort.Rest x → F cs bound (or_of (equal x null_term ∷ sub_atom (shape.type_of x) (class_term t) ∷ []))
  may_be_formed t x h =
      or_two cs bound (equal x null_term) (sub_atom (shape.type_of x) (class_term t)) (equal_formed cs bound true sort.Rest x null_term h (null_sorted cs bound))
      (sub_formed cs bound (shape.type_of x) (class_term t) (type_sorted cs bound x h) (class_sorted cs bound t))

  where_asked : (b : Bool) (f : Formula) → F cs bound f → AreWellFormed cs bound (if b then f ∷ [] else [])
  where_asked true f h = (h, tt)
  where_asked false f h = tt

  length_sorted : (x : Term) → S cs bound sort.Rest x → S cs bound sort.Whole (app Length (x ∷ []))
  length_sorted x h = sorted_one cs bound Length sort.Rest x refl h

  negative_sorted : (x : Term) → S cs bound sort.Whole x → S cs bound sort.Whole (app Subtract (number (pos 0) ∷ x ∷ []))
  negative_sorted x h = sorted_two cs bound Subtract sort.Whole sort.Whole (number (pos 0)) x refl (number_sorted cs bound (pos 0)) h

-- ---- fields

field_is : (cs : List ClassTree) (f : ℕ) (d : DeclaredField) → slice_get (all_fields cs) f ≡ Some d → field_sort cs f ≡ sort_of_type d.field.ty
field_is cs f d is = ap (λ o. sort_of_type (type_of_field o)) is

field_taken : (cs : List ClassTree) (f : ℕ) (d : DeclaredField) → slice_get (all_fields cs) f ≡ Some d → takes cs (Field f) (sort.Store ∷ sort.Rest ∷ []) ≡ true
field_taken cs f d is = and_from (has_field cs f) true (lt-ltb f (length (all_fields cs)) (slice_get_within (all_fields cs) f d is)) refl

pub field_sorted : (cs : List ClassTree) (bound : List Sort) (s o : Term) → HasSort cs bound sort.Store s → HasSort cs bound sort.Rest o → (f : ℕ) (d : DeclaredField) → slice_get (all_fields cs) f ≡ Some d →
    HasSort cs bound (sort_of_type d.field.ty) (app (Field f) (s ∷ o ∷ []))
field_sorted cs bound s o h k f d is =
    let read = sorted_two cs bound (Field f) sort.Store sort.Rest s o (field_taken cs f d is) h k in
    (read.0 ∙ field_is cs f d is, read.1)

element_no_store : (a : Option Ty) → not (is_store_sort (element_sort a)) ≡ true
element_no_store None = refl
element_no_store (Some t) = ap not (type_sort t)

field_result : (cs : List ClassTree) (a : Option Ty) (o : Option DeclaredField) (d : DeclaredField) → o ≡ Some d → has_class (λ u. below cs u d.class) a ≡ true → sort_of_type d.field.ty ≡ element_sort (field_read_type cs a o)
field_result cs a o d is h = sym (ap (λ r. element_sort (field_read_type cs a r)) is ∙ where_sort (has_class (λ u. below cs u d.class) a) (nullable d.field.ty) h ∙ plain_sort d.field.ty)

element_result : (b : Bool) (a : Option Ty) → b ≡ true → element_sort a ≡ element_sort (if b then a else None)
element_result true a h = refl
element_result false a h = absurd (false≢true h)

element_sorted : (cs : List ClassTree) (bound : List Sort) (a : Option Ty) (s x i : Term) → HasSort cs bound sort.Store s → HasSort cs bound sort.Rest x → HasSort cs bound sort.Whole i →
    HasSort cs bound (element_sort a) (app (Element (element_sort a)) (s ∷ x ∷ i ∷ []))
element_sorted cs bound a s x i h k l = sorted_three cs bound (Element (element_sort a)) sort.Store sort.Rest sort.Whole s x i (element_no_store a) h k l

-- ---- words and quantifiers of a context

module _ (among : ℕ → Bool) (c : Context) (bound : List Sort) (st : IsSortedAmong among c bound) where
  now : S c.classes bound sort.Store (state c)
  now = state_sorted among c bound st

  word_formed : (w : WordTree) (x : Term) → S c.classes bound sort.Rest x → F c.classes bound (word_said c w x)
  word_formed Consistent x h = consistent_formed c.classes bound (state c) now x h
  word_formed Committed x h = committed_formed c.classes bound (state c) now x h
  word_formed New x h = negation c.classes bound (allocated c.entry x) (allocated_formed c.classes bound c.entry st.entry x h)
  word_formed (Level t) x h = equal_formed c.classes bound true sort.Rest (level_of (state c) x) (class_term t) (level_sorted c.classes bound (state c) now x h) (class_sorted c.classes bound t)
  word_formed (Packed t) x h = sub_formed c.classes bound (level_of (state c) x) (class_term t) (level_sorted c.classes bound (state c) now x h) (class_sorted c.classes bound t)
  word_formed Unowned x h = group_formed c.classes bound (owner_of (state c) x) (owner_sorted c.classes bound (state c) now x h)

  word_parts_formed : (w : WordTree) (m : Meant) → C c.classes bound sort.Rest m → AreWellFormed c.classes bound (word_parts c w m)
  word_parts_formed New m h = (not_null_formed c.classes bound m h, tt)
  word_parts_formed w m h = readable_formed among c bound st m h

  owners_formed : (w : OwnersTree) (x y : Term) → S c.classes bound sort.Rest x → S c.classes bound sort.Rest y → F c.classes bound (owners_said c w x y)
  owners_formed SameOwner x y h k =
      equal_formed c.classes bound true sort.Rest (owner_of (state c) x) (owner_of (state c) y) (owner_sorted c.classes bound (state c) now x h) (owner_sorted c.classes bound (state c) now y k)
  owners_formed (OwnedAt t) x y h k =
      equal_formed c.classes bound true sort.Rest (owner_of (state c) x) (pair_of y (class_term t)) (owner_sorted c.classes bound (state c) now x h) (pair_sorted c.classes bound y (class_term t) k (class_sorted c.classes bound t))

module _ (c : Context) (bound : List Sort) (at : length bound ≡ c.bound) (low high : Meant) (is_low : C c.classes (bound ++ sort.Whole ∷ []) sort.Whole low) (is_high : C c.classes (bound ++ sort.Whole ∷ []) sort.Whole high) where
  abbrev More : List Sort
  More = bound ++ sort.Whole ∷ []

  name : S c.classes More sort.Whole (Bound c.bound)
  name = bound_sorted c.classes bound sort.Whole c.bound at

  range_formed : AreWellFormed c.classes More (out_of_range c low high)
  range_formed =
      let above : Term = app Add (Bound c.bound ∷ number (pos 1) ∷ []) in
      let next : S c.classes More sort.Whole above = sorted_two c.classes More Add sort.Whole sort.Whole (Bound c.bound) (number (pos 1)) refl name (number_sorted c.classes More (pos 1)) in (
        negation c.classes More (over low (λ x. at_most x (Bound c.bound))) (over_formed c.classes More sort.Whole (λ x. at_most x (Bound c.bound)) (λ x h. at_most_formed c.classes More x (Bound c.bound) h name) low is_low),
        (negation c.classes More (over high (λ y. at_most above y)) (over_formed c.classes More sort.Whole (λ y. at_most above y) (λ y h. at_most_formed c.classes More above y next h) high is_high), tt),
      )

  in_range : (f : Formula) → F c.classes More f → F c.classes More (or_of (out_of_range c low high ++ f ∷ []))
  in_range f h = all_formed c.classes More (out_of_range c low high ++ f ∷ []) (more_formed c.classes More (out_of_range c low high) (f ∷ []) range_formed (h, tt))

  quantified_formed : (q : Quantifier) (f : Formula) → F c.classes More f → F c.classes bound (quantified_said c q low high f)
  quantified_formed quantifier.Forall f h = in_range f h
  quantified_formed quantifier.Exists f h =
      let within = each_formed c.classes More neg (out_of_range c low high) (negation c.classes More) range_formed in
      all_formed c.classes More (map neg (out_of_range c low high) ++ f ∷ []) (more_formed c.classes More (map neg (out_of_range c low high)) (f ∷ []) within (h, tt))

  all_in_range : (fs : List Formula) → AreWellFormed c.classes More fs → AreWellFormed c.classes bound (map (λ part. Forall (sort.Whole ∷ []) (or_of (out_of_range c low high ++ part ∷ []))) fs)
  all_in_range [] h = tt
  all_in_range (f ∷ fs) h = (in_range f h.0, all_in_range fs h.1)

-- ---- expressions

abbrev Type-of : Context → ExprTree → Option Ty
Type-of c x = type_of c.classes c.types x

abbrev E : Context → List Sort → ExprTree → Type 0
E c bound x = IsWellExpressed c.classes bound (element_sort (Type-of c x)) (defined x c) (meant x c)

-- An expression of another type than that of truth values may stand after more bound names.
pub expressed : (among : ℕ → Bool) (x : ExprTree) (c : Context) (bound : List Sort) → IsSortedAmong among c bound → reads_plainly among x ≡ true → is_some (Type-of c x) ≡ true → (is_bool (Type-of c x) ≡ true → length bound ≡ c.bound) → E c bound x
expressed among (IntExpr p n) c bound st none is at = (tt, typed_sorted c.classes bound (fits n) ty.Int (meant (IntExpr p n) c) is (refl, number_sorted c.classes bound n, tt))
expressed among (BoolExpr p b) c bound st none is at = (tt, (refl, (refl, refl), tt))
expressed among (NullExpr p) c bound st none is at = (tt, (refl, (refl, refl), tt))
expressed among (LocalExpr p x) c bound st none is at = (tt, local_expressed among c bound st x none is)
expressed among (FieldExpr p x f) c bound st none is at =
    let a = Type-of c x in
    let d = field_from c.classes a (slice_get (all_fields c.classes) f) is in
    let r = class_reference (λ u. below c.classes u d.0.class) a d.2 in
    let part = expressed among x c bound st none (reference_some a r) (λ b. absurd (reference_or_bool a r b)) in
    let object = things c.classes bound a (meant x c) r part.1 in
    let read = mapped_sorted c.classes bound sort.Rest (sort_of_type d.0.field.ty) (λ o. app (Field f) (state c ∷ o ∷ []))
    (λ o k. field_sorted c.classes bound (state c) o (state_sorted among c bound st) k f d.0 d.1) (meant x c) object in (
      more_formed c.classes bound (defined x c) (readable c (meant x c)) part.0 (readable_formed among c bound st (meant x c) object),
      as_sort c.classes bound (sort_of_type d.0.field.ty) (element_sort (Type-of c (FieldExpr p x f))) (meant (FieldExpr p x f) c) (field_result c.classes a (slice_get (all_fields c.classes) f) d.0 d.1 d.2) read,
    )
expressed among (ElementExpr p x i) c bound st none is at =
    let a = Type-of c x in
    let n = Type-of c i in
    let both = elements_from c.classes a n is in
    let r = element_reference c.classes a both.1 in
    let parts = and_parts (reads_plainly among x) (reads_plainly among i) none in
    let first = expressed among x c bound st parts.0 (reference_some a r) (λ b. absurd (reference_or_bool a r b)) in
    let second = expressed among i c bound st parts.1 (int_some n both.0) (λ b. absurd (int_or_bool n both.0 b)) in
    let object = things c.classes bound a (meant x c) r first.1 in
    let index = wholes c.classes bound n (meant i c) both.0 second.1 in
    let t = element_of c.classes a in
    let read = paired_sorted c.classes bound sort.Rest sort.Whole (element_sort t) (λ u v. app (Element (element_sort t)) (state c ∷ u ∷ v ∷ []))
    (λ u v j k. element_sorted c.classes bound t (state c) u v (state_sorted among c bound st) j k) (meant x c) (meant i c) object index in
    let fits = over_two_formed c.classes bound sort.Rest sort.Whole (λ u v. and_of (at_most (number (pos 0)) v ∷ less v (app Length (u ∷ [])) ∷ [])) (λ u v j k.
    and_two c.classes bound (at_most (number (pos 0)) v) (less v (app Length (u ∷ []))) (at_most_formed c.classes bound (number (pos 0)) v (number_sorted c.classes bound (pos 0)) k)
    (less_formed c.classes bound v (app Length (u ∷ [])) k (length_sorted c.classes bound u j))) (meant x c) (meant i c) object index in (
      more_formed c.classes bound (defined x c ++ defined i c ++ readable c (meant x c)) (index_fits (meant x c) (meant i c) ∷ [])
          (more_formed c.classes bound (defined x c ++ defined i c) (readable c (meant x c)) (more_formed c.classes bound (defined x c) (defined i c) first.0 second.0) (readable_formed among c bound st (meant x c) object)) (fits, tt),
      as_sort c.classes bound (element_sort t) (element_sort (Type-of c (ElementExpr p x i))) (meant (ElementExpr p x i) c) (element_result (is_int n) t both.0) read,
    )
expressed among (LengthExpr p x) c bound st none is at =
    let a = Type-of c x in
    let array = where_some (has_class (is_array c.classes) a) ty.Int is in
    let r = class_reference (is_array c.classes) a array in
    let part = expressed among x c bound st none (reference_some a r) (λ b. absurd (reference_or_bool a r b)) in
    let object = things c.classes bound a (meant x c) r part.1 in (
      more_formed c.classes bound (defined x c) (not_null (meant x c) ∷ []) part.0 (not_null_formed c.classes bound (meant x c) object, tt),
      typed_sorted c.classes bound (has_class (is_array c.classes) a) ty.Int (meant (LengthExpr p x) c) is
          (mapped_sorted c.classes bound sort.Rest sort.Whole (λ o. app Length (o ∷ [])) (length_sorted c.classes bound) (meant x c) object),
    )
expressed among (NegateExpr p x) c bound st none is at =
    let a = Type-of c x in
    let n = where_some (is_int a) ty.Int is in
    let part = expressed among x c bound st none (int_some a n) (λ b. absurd (int_or_bool a n b)) in
    let value = wholes c.classes bound a (meant x c) n part.1 in
    let fit = over_formed c.classes bound sort.Whole (λ v. fits_int (app Subtract (number (pos 0) ∷ v ∷ []))) (λ v k. fits_formed c.classes bound (app Subtract (number (pos 0) ∷ v ∷ [])) (negative_sorted c.classes bound v k)) (meant x c) value in (
      more_formed c.classes bound (defined x c) (over (meant x c) (λ v. fits_int (app Subtract (number (pos 0) ∷ v ∷ []))) ∷ []) part.0 (fit, tt),
      typed_sorted c.classes bound (is_int a) ty.Int (meant (NegateExpr p x) c) is
          (mapped_sorted c.classes bound sort.Whole sort.Whole (λ v. app Subtract (number (pos 0) ∷ v ∷ [])) (negative_sorted c.classes bound) (meant x c) value),
    )
expressed among (NotExpr p x) c bound st none is at =
    let a = Type-of c x in
    let b = where_some (is_bool a) ty.Bool is in
    let part = expressed among x c bound st none (bool_some a b) (λ _. at (where_bool (is_bool a) b)) in
    (part.0, says_typed c.classes bound (is_bool a) (neg (said (meant x c))) is (negation c.classes bound (said (meant x c)) (said_formed c.classes bound (meant x c) (truths c.classes bound a (meant x c) b part.1))))
expressed among (BinaryExpr p o x y) c bound st none is at =
    let a = Type-of c x in
    let b = Type-of c y in
    let parts = and_parts (reads_plainly among x) (reads_plainly among y) none in
    let operands = are_operands o a b is in
    operation_formed c.classes bound (defined x c) (defined y c) (meant x c) (meant y c) a b
    (expressed among x c bound st parts.0 operands.left (λ h. at (operands.left_bool h)))
    (expressed among y c bound st parts.1 operands.right (λ h. at (operands.right_bool h))) o is
expressed among (ImpliesExpr p x y) c bound st none is at =
    let a = Type-of c x in
    let b = Type-of c y in
    let parts = and_parts (reads_plainly among x) (reads_plainly among y) none in
    let holds = where_some (is_bool a && is_bool b) ty.Bool is in
    let both = and_parts (is_bool a) (is_bool b) holds in
    let placed = at (where_bool (is_bool a && is_bool b) holds) in
    let first = expressed among x c bound st parts.0 (bool_some a both.0) (λ _. placed) in
    let second = expressed among y c bound st parts.1 (bool_some b both.1) (λ _. placed) in
    let one = said_formed c.classes bound (meant x c) (truths c.classes bound a (meant x c) both.0 first.1) in
    let other = said_formed c.classes bound (meant y c) (truths c.classes bound b (meant y c) both.1 second.1) in (
      more_formed c.classes bound (defined x c) (under (said (meant x c)) (defined y c)) first.0 (under_formed c.classes bound (said (meant x c)) (defined y c) one second.0),
      says_typed c.classes bound (is_bool a && is_bool b) (or_of (neg (said (meant x c)) ∷ said (meant y c) ∷ [])) is
          (or_two c.classes bound (neg (said (meant x c))) (said (meant y c)) (negation c.classes bound (said (meant x c)) one) other),
    )
expressed among (IffExpr p x y) c bound st none is at =
    let a = Type-of c x in
    let b = Type-of c y in
    let parts = and_parts (reads_plainly among x) (reads_plainly among y) none in
    let holds = where_some (is_bool a && is_bool b) ty.Bool is in
    let both = and_parts (is_bool a) (is_bool b) holds in
    let placed = at (where_bool (is_bool a && is_bool b) holds) in
    let first = expressed among x c bound st parts.0 (bool_some a both.0) (λ _. placed) in
    let second = expressed among y c bound st parts.1 (bool_some b both.1) (λ _. placed) in (
      more_formed c.classes bound (defined x c) (defined y c) first.0 second.0,
      says_typed c.classes bound (is_bool a && is_bool b) (same_truths (meant x c) (meant y c)) is
          (same_formed c.classes bound (meant x c) (meant y c) (truths c.classes bound a (meant x c) both.0 first.1) (truths c.classes bound b (meant y c) both.1 second.1)),
    )
expressed among (IsExpr p x t) c bound st none is at =
    let a = Type-of c x in
    let r = (and_parts (is_reference a) (is_class c.classes t) (where_some (is_reference a && is_class c.classes t) ty.Bool is)).0 in
    let part = expressed among x c bound st none (reference_some a r) (λ b. absurd (reference_or_bool a r b)) in
    let object = things c.classes bound a (meant x c) r part.1 in
    (part.0, says_typed c.classes bound (is_reference a && is_class c.classes t) (over (meant x c) (is_of t)) is (over_formed c.classes bound sort.Rest (is_of t) (is_of_formed c.classes bound t) (meant x c) object))
expressed among (AsExpr p x t) c bound st none is at =
    let a = Type-of c x in
    let r = (and_parts (is_reference a) (is_class c.classes t) (where_some (is_reference a && is_class c.classes t) (class_type t) is)).0 in
    let part = expressed among x c bound st none (reference_some a r) (λ b. absurd (reference_or_bool a r b)) in
    let object = things c.classes bound a (meant x c) r part.1 in (
      part.0,
      typed_sorted c.classes bound (is_reference a && is_class c.classes t) (class_type t) (meant (AsExpr p x t) c) is
          (flat_sorted c.classes bound sort.Rest sort.Rest (as_class t) (choices (meant x c)) (as_class_sorted c.classes bound t) object),
    )
expressed among (CastExpr p t non_null x) c bound st none is at =
    let a = Type-of c x in
    let r = (and_parts (is_reference a) (is_class c.classes t) (where_some (is_reference a && is_class c.classes t) (class_type t) is)).0 in
    let part = expressed among x c bound st none (reference_some a r) (λ b. absurd (reference_or_bool a r b)) in
    let object = things c.classes bound a (meant x c) r part.1 in
    let of_class = over_formed c.classes bound sort.Rest (λ v. or_of (equal v null_term ∷ sub_atom (shape.type_of v) (class_term t) ∷ [])) (may_be_formed c.classes bound t) (meant x c) object in (
      more_formed c.classes bound (defined x c ++ (if non_null then not_null (meant x c) ∷ [] else [])) (over (meant x c) (λ v. or_of (equal v null_term ∷ sub_atom (shape.type_of v) (class_term t) ∷ [])) ∷ [])
          (more_formed c.classes bound (defined x c) (if non_null then not_null (meant x c) ∷ [] else []) part.0 (where_asked c.classes bound non_null (not_null (meant x c)) (not_null_formed c.classes bound (meant x c) object))) (of_class, tt),
      typed_sorted c.classes bound (is_reference a && is_class c.classes t) (class_type t) (meant x c) is object,
    )
expressed among (OldExpr p x) c bound st none is at = expressed among x (at_entry c) bound (old_sorted among c bound st) none is at
expressed among (QuantifiedExpr p q name low high x) c bound st none is at =
    let a = Type-of c low in
    let b = Type-of c high in
    let t = type_of c.classes (c.types ++ ty.Int ∷ []) x in
    let parts = three_parts (reads_plainly among low) (reads_plainly among high) (reads_plainly among x) none in
    let holds = where_some (is_int a && is_int b && is_bool t) ty.Bool is in
    let all = and_parts (is_int a && is_int b) (is_bool t) holds in
    let ints = and_parts (is_int a) (is_int b) all.0 in
    let placed = at (where_bool (is_int a && is_int b && is_bool t) holds) in
    let more = bound ++ sort.Whole ∷ [] in
    let longer = longer_sorted among c bound st (sort.Whole ∷ []) in
    let first = expressed among low c bound st parts.0 (int_some a ints.0) (λ h. absurd (int_or_bool a ints.0 h)) in
    let second = expressed among high c bound st parts.1 (int_some b ints.1) (λ h. absurd (int_or_bool b ints.1 h)) in
    let from = expressed among low c more longer parts.0 (int_some a ints.0) (λ h. absurd (int_or_bool a ints.0 h)) in
    let to = expressed among high c more longer parts.1 (int_some b ints.1) (λ h. absurd (int_or_bool b ints.1 h)) in
    let body = expressed among x (with_bound c) more (with_bound_sorted among c bound st placed) parts.2 (bool_some t all.1) (λ _. let count = length_more bound sort.Whole in omega (arith, count, placed)) in
    let is_low = wholes c.classes more a (meant low c) ints.0 from.1 in
    let is_high = wholes c.classes more b (meant high c) ints.1 to.1 in
    let says = said_formed c.classes more (meant x (with_bound c)) (truths c.classes more t (meant x (with_bound c)) all.1 body.1) in (
      more_formed c.classes bound (defined low c ++ defined high c) (map (λ part. Forall (sort.Whole ∷ []) (or_of (out_of_range c (meant low c) (meant high c) ++ part ∷ []))) (defined x (with_bound c)))
          (more_formed c.classes bound (defined low c) (defined high c) first.0 second.0) (all_in_range c bound placed (meant low c) (meant high c) is_low is_high (defined x (with_bound c)) body.0),
      says_typed c.classes bound (is_int a && is_int b && is_bool t) (quantified_said c q (meant low c) (meant high c) (said (meant x (with_bound c)))) is
          (quantified_formed c bound placed (meant low c) (meant high c) is_low is_high q (said (meant x (with_bound c))) says),
    )
expressed among (StateExpr p w x) c bound st none is at =
    let a = Type-of c x in
    let r = (and_parts (is_reference a) (is_word c.classes w) (where_some (is_reference a && is_word c.classes w) ty.Bool is)).0 in
    let part = expressed among x c bound st none (reference_some a r) (λ b. absurd (reference_or_bool a r b)) in
    let object = things c.classes bound a (meant x c) r part.1 in (
      more_formed c.classes bound (defined x c) (word_parts c w (meant x c)) part.0 (word_parts_formed among c bound st w (meant x c) object),
      says_typed c.classes bound (is_reference a && is_word c.classes w) (over (meant x c) (word_said c w)) is (over_formed c.classes bound sort.Rest (word_said c w) (word_formed among c bound st w) (meant x c) object),
    )
expressed among (OwnersExpr p w x y) c bound st none is at =
    let a = Type-of c x in
    let b = Type-of c y in
    let parts = and_parts (reads_plainly among x) (reads_plainly among y) none in
    let both = and_parts (is_reference a) (is_reference b) (and_parts (is_reference a && is_reference b) (is_owners_word c.classes w) (where_some (is_reference a && is_reference b && is_owners_word c.classes w) ty.Bool is)).0 in
    let first = expressed among x c bound st parts.0 (reference_some a both.0) (λ h. absurd (reference_or_bool a both.0 h)) in
    let second = expressed among y c bound st parts.1 (reference_some b both.1) (λ h. absurd (reference_or_bool b both.1 h)) in
    let one = things c.classes bound a (meant x c) both.0 first.1 in
    let other = things c.classes bound b (meant y c) both.1 second.1 in (
      more_formed c.classes bound (defined x c ++ defined y c ++ readable c (meant x c)) (readable c (meant y c))
          (more_formed c.classes bound (defined x c ++ defined y c) (readable c (meant x c)) (more_formed c.classes bound (defined x c) (defined y c) first.0 second.0) (readable_formed among c bound st (meant x c) one)) (readable_formed among c bound st (meant y c) other),
      says_typed c.classes bound (is_reference a && is_reference b && is_owners_word c.classes w) (over_two (meant x c) (meant y c) (owners_said c w)) is
          (over_two_formed c.classes bound sort.Rest sort.Rest (owners_said c w) (owners_formed among c bound st w) (meant x c) (meant y c) one other),
    )
expressed among (DefaultExpr p d) c bound st none is at = absurd (false≢true none)
