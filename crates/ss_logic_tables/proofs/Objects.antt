-- What the objects of two heaps share, and what their entries do.
use Rattle.std.proofs.Common.{◌≡◌, ◌≢◌, ℕ, zero, suc, ◌+◌, ◌<◌, ℤ, pos, List, [], ◌∷◌, ◌++◌, length, map, Bool, true, false, eqb, Some, refl, sym, ◌∙◌, ap, arith, ⊎_elim, inl, inr, ◌⊎◌}
use Rattle.std.specs.Prelude.{slice_get, unwrap_or, flat_map, reverse, if◌then◌else◌, ◌==◌, ◌-◌}
use Rattle.std.specs.Bool.{beq}
use Rattle.std.specs.Ordering.{int_eq}
use Rattle.std.proofs.lemmas.Bool.{false≢true, cases_eq, eq-eqb, ne_eqb, eqb-true, and_from, lt-ltb}
use Rattle.ss_core.specs.declared.names.Ty.{Ty}
use Rattle.ss_core.specs.declared.names.Ty.TheVariants as ty
use Rattle.ss_core.specs.Tree.{ClassTree}
use Rattle.ss_core.specs.Chain.{levels, DeclaredField, all_fields}
use Rattle.ss_store_rules.specs.declared.Value.{Value as ObjectValue}
use Rattle.ss_store_rules.specs.declared.Value.TheVariants as value
use Rattle.ss_store_rules.specs.declared.Owner.{Owner}
use Rattle.ss_store_rules.specs.declared.Owner.TheVariants as owner
use Rattle.ss_store_rules.specs.Store.{Slot, slot_value, default_value}
use Rattle.ss_store_rules.specs.Reads as reads
use Rattle.ss_store_rules.specs.Reads.{same_value, same_owner, is_pair}
use Rattle.ss_store_rules.specs.Changes.{slots_from, new_fields, field_type, element_type, owned_by}
use Rattle.ss_logic.specs.Values.{Thing, reference, class_name, group_number, owner_pair, is_group, Cells, Entry, as_thing, as_whole, as_truth}
use Rattle.ss_logic.specs.Terms.{sort_of_type, has_field, cell}
use Rattle.ss_logic.specs.Objects.{content, filled, elements_from, owner_of_thing}
use Rattle.ss_logic_means.proofs.Owners.{pair_back}

-- ---- values

pub same_value_self : (v : ObjectValue) → same_value v v ≡ true
same_value_self (value.Int n) = grind arith
same_value_self (value.Bool true) = refl
same_value_self (value.Bool false) = refl
same_value_self (value.Obj o) = eq-eqb o o refl
same_value_self value.Null = refl

same_ints : (m n : ℤ) → int_eq m n ≡ true → m ≡ n
same_ints m n h = grind arith

same_bools : (a b : Bool) → beq a b ≡ true → a ≡ b
same_bools true true h = refl
same_bools false false h = refl
same_bools true false h = absurd (false≢true h)
same_bools false true h = absurd (false≢true h)

pub bools_same : (a b : Bool) → a ≡ b → beq a b ≡ true
bools_same true true h = refl
bools_same false false h = refl
bools_same true false h = sym h
bools_same false true h = h

pub beq_equal : (a b : Bool) → beq a b ≡ true → a ≡ b
beq_equal = same_bools

pub same_value_equal : (v w : ObjectValue) → same_value v w ≡ true → v ≡ w
same_value_equal (value.Int m) (value.Int n) h = ap value.Int (same_ints m n h)
same_value_equal (value.Bool a) (value.Bool b) h = ap value.Bool (same_bools a b h)
same_value_equal (value.Obj o) (value.Obj q) h = ap value.Obj (eqb-true o q h)
same_value_equal value.Null value.Null h = refl
same_value_equal v w h = absurd (false≢true h)

-- ---- contents

-- equal cells of the sort give equal contents
pub same_content : {Place : Type 0} (t : Ty) (c d : Cells Place) (i : Place) → cell (sort_of_type t) c i ≡ cell (sort_of_type t) d i → content t c i ≡ content t d i
same_content ty.Int c d i h = ap (λ v. value.Int (as_whole v)) h
same_content ty.Bool c d i h = ap (λ v. value.Bool (as_truth v)) h
same_content ty.Null c d i h = refl
same_content (ty.Ref t n) c d i h = ap (λ v. content (ty.Ref t n) (record { wholes = λ (_ : ℕ). pos 0; truths = λ _. false; things = λ _. as_thing v }) 0) h

-- ---- slots

pub slot_filled : (cs : List ClassTree) (x : Entry) (xs : List Slot) (k : ℕ) (s : Slot) → slice_get (map (filled cs x) xs) k ≡ Some s → (r : Slot) × (slice_get xs k ≡ Some r) × (s ≡ filled cs x r)
slot_filled cs x [] k s is = absurd (let no : ⊥ = cc in no)
slot_filled cs x (r ∷ xs) zero s is = (r, refl, cc)
slot_filled cs x (r ∷ xs) (suc k) s is = slot_filled cs x xs k s is

-- the first slot of the field of a slot has what the entry has
pub filled_first : (cs : List ClassTree) (x : Entry) (xs : List Slot) (k : ℕ) (r : Slot) → slice_get xs k ≡ Some r → slot_value (map (filled cs x) xs) r.field ≡ Some (content (field_type cs r.field) x.fields r.field)
filled_first cs x [] k r is = absurd (let no : ⊥ = cc in no)
filled_first cs x (y ∷ xs) k r is =
    ⊎_elim
    (λ same. rw (eq-eqb y.field r.field same) (ap (λ g. Some (content (field_type cs g) x.fields g)) same))
    (λ other. rw (ne_eqb y.field r.field other) (behind (λ j e. filled_first cs x xs j r e) k is other))
    (cases_eq y.field r.field)
  where
    behind : ((j : ℕ) → slice_get xs j ≡ Some r → slot_value (map (filled cs x) xs) r.field ≡ Some (content (field_type cs r.field) x.fields r.field)) → (j : ℕ) → slice_get (y ∷ xs) j ≡ Some r → y.field ≢ r.field →
        slot_value (map (filled cs x) xs) r.field ≡ Some (content (field_type cs r.field) x.fields r.field)
    behind f zero e n = absurd (let same : y ≡ r = cc in n (ap (λ z. z.field) same))
    behind f (suc j) e n = f j e

-- a field with a value has a slot
pub slot_of_value : (xs : List Slot) (f : ℕ) (v : ObjectValue) → slot_value xs f ≡ Some v → (k : ℕ) × (s : Slot) × (slice_get xs k ≡ Some s) × (s.field ≡ f) × (s.content ≡ v)
slot_of_value [] f v is = absurd (let no : ⊥ = cc in no)
slot_of_value (x ∷ xs) f v is =
    ⊎_elim
    (λ same. (0, x, refl, same, let e = rw (eq-eqb x.field f same) at is in cc))
    (λ other. let r = slot_of_value xs f v (rw (ne_eqb x.field f other) at is) in (suc r.0, r.1, r.2, r.3, r.4))
    (cases_eq x.field f)

-- each slot of an object is of a field that there is
IsListed : List ClassTree → List Slot → Type 0
IsListed cs xs = (k : ℕ) (s : Slot) → slice_get xs k ≡ Some s → has_field cs s.field ≡ true

get_append : (xs ys : List Slot) (k : ℕ) (s : Slot) → slice_get (xs ++ ys) k ≡ Some s → (slice_get xs k ≡ Some s) ⊎ ((j : ℕ) × (slice_get ys j ≡ Some s))
get_append [] ys k s is = inr (k, is)
get_append (x ∷ xs) ys zero s is = inl is
get_append (x ∷ xs) ys (suc k) s is = get_append xs ys k s is

slots_between : (t n : ℕ) (ds : List DeclaredField) (k : ℕ) (s : Slot) → slice_get (slots_from t n ds) k ≡ Some s → s.field < n + length ds
slots_between t n [] k s is = absurd (let no : ⊥ = cc in no)
slots_between t n (d ∷ ds) k s is =
    here (λ j e. let l = slots_between t (n + 1) ds j s e in omega (arith, l)) (d.class == t) k is
  where
    here : ((j : ℕ) → slice_get (slots_from t (n + 1) ds) j ≡ Some s → s.field < n + suc (length ds)) →
        (b : Bool) (j : ℕ) → slice_get (if b then record { field = n; content = default_value d.field.ty } ∷ slots_from t (n + 1) ds else slots_from t (n + 1) ds) j ≡ Some s → s.field < n + suc (length ds)
    here later false j e = later j e
    here later true (suc j) e = later j e
    here later true zero e = let at : n ≡ s.field = ap (λ o. (unwrap_or o s).field) e in omega (arith, at)

slots_listed : (cs : List ClassTree) (ts : List ℕ) (k : ℕ) (s : Slot) → slice_get (flat_map (λ t. slots_from t 0 (all_fields cs)) ts) k ≡ Some s → has_field cs s.field ≡ true
slots_listed cs [] k s is = absurd (let no : ⊥ = cc in no)
slots_listed cs (t ∷ ts) k s is =
    ⊎_elim
    (λ here. let l = slots_between t 0 (all_fields cs) k s here in lt-ltb s.field (length (all_fields cs)) (omega (arith, l)))
    (λ later. slots_listed cs ts later.0 s later.1)
    (get_append (slots_from t 0 (all_fields cs)) (flat_map (λ t. slots_from t 0 (all_fields cs)) ts) k s is)

pub new_listed : (cs : List ClassTree) (c k : ℕ) (s : Slot) → slice_get (new_fields cs c) k ≡ Some s → has_field cs s.field ≡ true
new_listed cs c k s is = slots_listed cs (reverse (levels cs c)) k s is

-- ---- elements

pub element_there : (t : Ty) (x : Entry) (i n k : ℕ) → k < n → slice_get (elements_from t x i n) k ≡ Some (content t x.elements (pos (i + k)))
element_there t x i zero k l = absurd (omega (arith, l))
element_there t x i (suc n) zero l = let e : i ≡ i + 0 = omega arith in ap (λ j. Some (content t x.elements (pos j))) e
element_there t x i (suc n) (suc k) l =
    let e : i + 1 + k ≡ i + suc k = omega arith in
    element_there t x (i + 1) n k (omega (arith, l)) ∙ ap (λ j. Some (content t x.elements (pos j))) e

pub element_within : (t : Ty) (x : Entry) (i n k : ℕ) (v : ObjectValue) → slice_get (elements_from t x i n) k ≡ Some v → k < n
element_within t x i zero k v is = absurd (let no : ⊥ = cc in no)
element_within t x i (suc n) zero v is = omega arith
element_within t x i (suc n) (suc k) v is = let l = element_within t x (i + 1) n k v is in omega (arith, l)

pub element_not_null : (t : ℕ) → element_type t ≡ ty.Null → ⊥
element_not_null t = none (eqb t 1) (eqb t 2) (eqb t 3)
  where
    none : (a b c : Bool) → (if a then ty.Int else if b then ty.Bool else if c then ty.Ref (record { 0 = 0 }) false else ty.Ref (record { 0 = t - 1 }) false) ≡ ty.Null → ⊥
    none true b c h = let no : ⊥ = cc in no
    none false true c h = let no : ⊥ = cc in no
    none false false true h = let no : ⊥ = cc in no
    none false false false h = let no : ⊥ = cc in no

-- ---- owners

-- the owner of no object that isn't allocated
abbrev pub IsLow : ℕ → Thing → Type 0
IsLow n w = (p t : ℕ) → owner_of_thing n w ≡ owned_by p t → p < n

-- such an owner doesn't rest on what is allocated next
pub owner_steady : (n k : ℕ) (w : Thing) → IsLow n w → owner_of_thing k w ≡ owner_of_thing n w
owner_steady n k (group_number g) low = refl
owner_steady n k (owner_pair (reference o) (class_name t)) low = refl
owner_steady n k w low = absurd (let l = low n 0 refl in omega (arith, l))

group_back : (next : ℕ) (w : Thing) (g : ℕ) → same_owner (owner_of_thing next w) (owner.Group g) ≡ true → w ≡ group_number g
group_back next (group_number k) g h = ap group_number (eqb-true k g h)
group_back next (owner_pair (reference p) (class_name t)) g h = absurd (false≢true h)
group_back next w g h = absurd (false≢true h)

same_pair : (x : Owner) (p t : ℕ) → same_owner x (owned_by p t) ≡ is_pair p t x
same_pair (owner.Group g) p t = refl
same_pair (owner.Owned o u) p t = refl

-- equal owners come from one thing
pub same_back : (next : ℕ) (v w : Thing) → IsLow next w → same_owner (owner_of_thing next v) (owner_of_thing next w) ≡ true → v ≡ w
same_back next v (group_number g) low h = group_back next v g h
same_back next v (owner_pair (reference p) (class_name t)) low h = pair_back next v p t (low p t refl) (sym (same_pair (owner_of_thing next v) p t) ∙ h)
same_back next v w low h = absurd (let l = low next 0 refl in omega (arith, l))

pub same_owner_self : (x : Owner) → same_owner x x ≡ true
same_owner_self (owner.Group g) = eq-eqb g g refl
same_owner_self (owner.Owned o t) = and_from (eqb o o) (eqb t.0 t.0) (eq-eqb o o refl) (eq-eqb t.0 t.0 refl)

pub group_owner : (next : ℕ) (w : Thing) → is_group w ≡ reads.is_group (owner_of_thing next w)
group_owner next (group_number g) = refl
group_owner next (owner_pair (reference o) (class_name t)) = refl
group_owner next w = refl
