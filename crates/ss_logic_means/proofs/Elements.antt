-- Elements: what is read of an array at an index within its length.
use Rattle.std.proofs.Common.{◌≡◌, ℕ, zero, suc, ◌+◌, ◌-◌, ◌<◌, ℤ, pos, negsuc, List, [], ◌∷◌, ◌++◌, length, Bool, true, false, ◌&&◌, Some, Ok, Err, refl, sym, ◌∙◌, ap, subst, append_assoc, eqb, arith}
use Rattle.std.specs.Prelude.{nat_lt, int_le, int_lt, unwrap_or, slice_get, if◌then◌else◌}
use Rattle.std.proofs.lemmas.Bool.{false≢true, ltb-true, le-leb}
use Rattle.ss_core.specs.declared.names.Place.{Place}
use Rattle.ss_core.specs.declared.names.Kind.TheVariants as kind
use Rattle.ss_core.specs.declared.names.Ty.{Ty}
use Rattle.ss_core.specs.declared.names.Ty.TheVariants as ty
use Rattle.ss_core.specs.Tree.{ClassTree}
use Rattle.ss_store_rules.specs.declared.Value.{Value as ObjectValue}
use Rattle.ss_store_rules.specs.declared.Value.TheVariants as value
use Rattle.ss_store_rules.specs.Store.{Object}
use Rattle.ss_store_rules.specs.Numbers.{Outcome, undefined}
use Rattle.ss_store_rules.specs.Reads.{as_int, object_at, element_read}
use Rattle.ss_store_rules.specs.Changes.{is_array, element_type}
use Rattle.ss_store_rules.specs.Good.{AreValues}
use Rattle.ss_store_rules.specs.Values as run
use Rattle.ss_logic.specs.declared.Sort.{Sort}
use Rattle.ss_logic.specs.Values.{reference, Entry, Heap, Value, whole, thing, store, as_thing, as_whole, as_store, Structure}
use Rattle.ss_logic.specs.Terms.{Term, app, sort_of_type, cell}
use Rattle.ss_logic.specs.Terms as term
use Rattle.ss_logic.specs.Formulas.{Formula}
use Rattle.ss_logic.specs.Objects.{content, elements_from, element_count, object_in, objects_of}
use Rattle.ss_logic.specs.Shapes.{number, at_most}
use Rattle.ss_logic.specs.Express.{and_of, Meant, paired, less, index_fits}
use Rattle.ss_logic_means.specs.Means.{standing}
use Rattle.ss_logic_means.proofs.Denoting.{V, M, D, R, and_means, over_two_means, paired_denotes}
use Rattle.ss_logic_means.proofs.Operations.{IsWhole, Gives, at_most_means, less_means, whole_denotes}
use Rattle.ss_logic_means.proofs.Arithmetic.{where_true, three_read}
use Rattle.ss_logic_means.proofs.Classes.{IsReferenceOf, object_known}
use Rattle.ss_logic_means.proofs.Reading.{content_stands, length_known}
use Rattle.ss_logic_means.proofs.States.{parts_of, readable, readable_then}

-- no array has elements of the type of null
element_not_null : (t : ℕ) → element_type t ≡ ty.Null → ⊥
element_not_null t = none (eqb t 1) (eqb t 2) (eqb t 3)
  where
    none : (a b c : Bool) → (if a then ty.Int else if b then ty.Bool else if c then ty.Ref (record { 0 = 0 }) false else ty.Ref (record { 0 = t - 1 }) false) ≡ ty.Null → ⊥
    none true b c h = let no : ⊥ = cc in no
    none false true c h = let no : ⊥ = cc in no
    none false false true h = let no : ⊥ = cc in no
    none false false false h = let no : ⊥ = cc in no

element_there : (t : Ty) (x : Entry) (i n k : ℕ) → k < n → slice_get (elements_from t x i n) k ≡ Some (content t x.elements (pos (i + k)))
element_there t x i zero k l = absurd (omega (arith, l))
element_there t x i (suc n) zero l = let e : i ≡ i + 0 = omega arith in ap (λ j. Some (content t x.elements (pos j))) e
element_there t x i (suc n) (suc k) l =
    let e : i + 1 + k ≡ i + suc k = omega arith in
    element_there t x (i + 1) n k (omega (arith, l)) ∙ ap (λ j. Some (content t x.elements (pos j))) e

-- an allocated array, with elements of this sort
abbrev pub IsArrayWith : List ClassTree → Structure → Heap → Sort → ObjectValue → Type 0
IsArrayWith cs m h r (value.Obj o) = (nat_lt o h.next ≡ true) × (is_array cs (m.table.class_of (reference o)) ≡ true) × (r ≡ sort_of_type (element_type (m.table.class_of (reference o))))
IsArrayWith cs m h r value.Null = Unit {0}
IsArrayWith cs m h r u = ⊥

with_array : (cs : List ClassTree) (m : Structure) (h : Heap) (r : Sort) (u : ObjectValue) → IsArrayWith cs m h r u → IsReferenceOf h u
with_array cs m h r (value.Obj o) a = a.0
with_array cs m h r value.Null a = tt
with_array cs m h r (value.Int n) a = a
with_array cs m h r (value.Bool b) a = a

-- ---- in a store that a term stands for
module _ (cs : List ClassTree) (m : Structure) (e : List Value) (h : Heap) (s : Term) (is_store : V cs m e s ≡ store h) (values : (o : ℕ) → nat_lt o h.next ≡ true → AreValues cs (objects_of cs m.table h) (object_in cs m.table h o)) where
  abbrev There : List Object
  There = objects_of cs m.table h

  element_stands : (o n : ℕ) → nat_lt o h.next ≡ true → is_array cs (m.table.class_of (reference o)) ≡ true → n < m.table.length_of (reference o) →
      cell (sort_of_type (element_type (m.table.class_of (reference o)))) (h.at (reference o)).elements (pos n) ≡ standing (element_read (object_at There o) n)
  element_stands o n l a below =
      let t = element_type (m.table.class_of (reference o)) in
      let number : 0 + n ≡ n = omega arith in
      let within : n < element_count cs m.table o = counted (is_array cs (m.table.class_of (reference o))) a in
      let there = element_there t (h.at (reference o)) 0 (element_count cs m.table o) n within ∙ ap (λ j. Some (content t (h.at (reference o)).elements (pos j))) number in
      content_stands cs There t (h.at (reference o)).elements (pos n) (element_not_null (m.table.class_of (reference o))) ((values o l).elements n (content t (h.at (reference o)).elements (pos n)) there)
      ∙ ap (λ r. standing (unwrap_or r value.Null)) (sym there)
      ∙ ap (λ x. standing (element_read x n)) (sym (object_known cs m e h o l))
    where
      counted : (b : Bool) → b ≡ true → n < (if b then m.table.length_of (reference o) else 0)
      counted true q = below
      counted false q = absurd (false≢true q)

  abbrev pub element_term : Sort → Term → Term → Term
  element_term r t i = app (term.Element r) (s ∷ t ∷ i ∷ [])

  pub element_denotes : (r : Sort) (x y : Meant) (o n : ℕ) → nat_lt o h.next ≡ true → is_array cs (m.table.class_of (reference o)) ≡ true → r ≡ sort_of_type (element_type (m.table.class_of (reference o))) → n < m.table.length_of (reference o) →
      D cs m e x (thing (reference o)) → D cs m e y (whole (pos n)) → D cs m e (paired (element_term r) x y) (standing (element_read (object_at There o) n))
  element_denotes r x y o n l a same below d k =
      paired_denotes cs m e (element_term r) (thing (reference o)) (whole (pos n)) (standing (element_read (object_at There o) n)) (λ t i p q.
      ap (λ v. cell r ((as_store v).at (as_thing (V cs m e t))).elements (as_whole (V cs m e i))) is_store
      ∙ ap (λ v. cell r (h.at (as_thing v)).elements (as_whole (V cs m e i))) p
      ∙ ap (λ v. cell r (h.at (reference o)).elements (as_whole v)) q
      ∙ ap (λ z. cell z (h.at (reference o)).elements (pos n)) same
      ∙ element_stands o n l a below) x y d k

-- ---- reads now and at the entry
module _ (cs : List ClassTree) (m : Structure) (e : List Value) (now entry : Heap) (s s0 : Term) (is_now : V cs m e s ≡ store now) (is_entry : V cs m e s0 ≡ store entry)
    (values : (o : ℕ) → nat_lt o now.next ≡ true → AreValues cs (objects_of cs m.table now) (object_in cs m.table now o)) (entry_values : (o : ℕ) → nat_lt o entry.next ≡ true → AreValues cs (objects_of cs m.table entry) (object_in cs m.table entry o)) where
  abbrev pub state_of : Bool → Heap
  state_of old = if old then entry else now

  abbrev pub state_term : Bool → Term
  state_term old = if old then s0 else s

  -- the length is read of the store now
  abbrev pub is_index : ℕ → ℤ → Bool
  is_index o (pos i) = nat_lt i (length (object_at (objects_of cs m.table now) o).elements)
  is_index o (negsuc i) = false

  abbrev pub element_or : Bool → Place → ℤ → ℕ → Outcome
  element_or old p i o = if is_index o i then Ok (element_read (object_at (if old then objects_of cs m.table entry else objects_of cs m.table now) o) (run.index i)) else Err (undefined p kind.Index)

  abbrev pub element_value : Bool → Place → ObjectValue → ℤ → Outcome
  element_value old p u i = run.and_then (readable cs m e now entry s0 is_entry old p u) (element_or old p i)

  abbrev pub element_meant : Bool → Sort → Meant → Meant → Meant
  element_meant old r x y = paired (λ t i. app (term.Element r) ((if old then s0 else s) ∷ t ∷ i ∷ [])) x y

  -- an index is at least zero and below the length
  abbrev is_within : ℕ → ℤ → Bool
  is_within o i = int_le (pos 0) i && int_lt i (pos (m.table.length_of (reference o)))

  index_means : (x y : Meant) (o : ℕ) (i : ℤ) → D cs m e x (thing (reference o)) → D cs m e y (whole i) → M cs m e (index_fits x y) (is_within o i)
  index_means x y o i d k =
      let size = pos (m.table.length_of (reference o)) in
      over_two_means cs m e x y (λ t j. and_of (at_most (number (pos 0)) j ∷ less j (app term.Length (t ∷ [])) ∷ [])) (thing (reference o)) (whole i) (is_within o i) d k (λ t j p q.
      and_means cs m e (at_most (number (pos 0)) j) (less j (app term.Length (t ∷ []))) (int_le (pos 0) i) (int_lt i size) (at_most_means cs m e (number (pos 0)) j (pos 0) i refl q)
      (less_means cs m e j (app term.Length (t ∷ [])) i size q (ap (λ v. whole (pos (m.table.length_of (as_thing v)))) p)))

  read_denotes : (old : Bool) (r : Sort) (x y : Meant) (o n : ℕ) → nat_lt o (if old then entry else now).next ≡ true → is_array cs (m.table.class_of (reference o)) ≡ true → r ≡ sort_of_type (element_type (m.table.class_of (reference o))) → n < m.table.length_of (reference o) →
      D cs m e x (thing (reference o)) → D cs m e y (whole (pos n)) → D cs m e (element_meant old r x y) (standing (element_read (object_at (if old then objects_of cs m.table entry else objects_of cs m.table now) o) n))
  read_denotes false r x y o n l a same below d k = element_denotes cs m e now s is_now values r x y o n l a same below d k
  read_denotes true r x y o n l a same below d k = element_denotes cs m e entry s0 is_entry entry_values r x y o n l a same below d k

  index_rest : (old : Bool) (p : Place) (r : Sort) (x y : Meant) (o : ℕ) (i : ℤ) → IsArrayWith cs m now r (value.Obj o) → nat_lt o (if old then entry else now).next ≡ true → D cs m e x (thing (reference o)) → D cs m e y (whole i) →
      R cs m e (index_fits x y ∷ []) (element_meant old r x y) (element_or old p i o)
  index_rest old p r x y o (negsuc i) a l d k = λ t. false≢true ((index_means x y o (negsuc i) d k).0 t.0)
  index_rest old p r x y o (pos n) a l d k =
      let known = length_known cs m e now o a.0 a.1 in
      let within = nat_lt n (length (object_at (objects_of cs m.table now) o).elements) in
      let from : int_le (pos 0) (pos n) ≡ true = le-leb 0 n (omega arith) in
      where_true cs m e (index_fits x y) within (element_meant old r x y) (element_read (object_at (if old then objects_of cs m.table entry else objects_of cs m.table now) o) n) (undefined p kind.Index)
      (subst (λ j. M cs m e (index_fits x y) (nat_lt n j)) (sym known) (subst (λ b. M cs m e (index_fits x y) (b && nat_lt n (m.table.length_of (reference o)))) from (index_means x y o (pos n) d k)))
      (λ q. read_denotes old r x y o n l a.1 a.2 (subst (λ j. n < j) known (ltb-true n (length (object_at (objects_of cs m.table now) o).elements) q)) d k)

  pub element_reads : (old : Bool) (p : Place) (r : Sort) (ps qs : List Formula) (x y : Meant) (a b : Outcome) → Gives (IsArrayWith cs m now r) a → Gives IsWhole b → R cs m e ps x a → R cs m e qs y b →
      R cs m e (ps ++ qs ++ parts_of cs m e now entry s0 is_entry old x ++ index_fits x y ∷ []) (element_meant old r x y) (run.and_then a (λ v. run.and_then b (λ w. element_value old p v (as_int w))))
  element_reads old p r ps qs x y a b ga gb ra rb =
      let parts = parts_of cs m e now entry s0 is_entry old x in
      subst (λ fs. R cs m e fs (element_meant old r x y) (run.and_then a (λ v. run.and_then b (λ w. element_value old p v (as_int w))))) (sym (append_assoc (ps ++ qs) parts (index_fits x y ∷ [])))
      (three_read cs m e ps qs x y a b ra rb (parts ++ index_fits x y ∷ []) (element_meant old r x y) (λ v w. element_value old p v (as_int w)) (λ u w is it d k.
      readable_then cs m e now entry s0 is_entry old p x u (with_array cs m now r u (ga u is)) d (index_fits x y ∷ []) (element_meant old r x y) (element_or old p (as_int w)) (λ o q l.
      index_rest old p r x y o (as_int w) (ga (value.Obj o) (is ∙ ap Ok q)) l (subst (λ v. D cs m e x (standing v)) q d) (whole_denotes cs m e y b gb w it k))))
