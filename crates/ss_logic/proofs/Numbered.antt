-- In every store that a term stands for, only what is allocated has a group as its owner, and that has a number below `next`.
use Rattle.std.proofs.Common.{◌≡◌, ℕ, suc, List, [], Bool, true, false, ◌&&◌, refl, sym, ◌∙◌, ap, subst, arith}
use Rattle.std.specs.Prelude.{if◌then◌else◌, nat_lt}
use Rattle.std.proofs.lemmas.Bool.{false≢true, true≢false, and_parts, ltb-true, lt-ltb}
use Rattle.ss_core.specs.Tree.{ClassTree}
use Rattle.ss_logic.specs.declared.Sort.{Sort}
use Rattle.ss_logic.specs.declared.Sort.TheVariants as sort
use Rattle.ss_logic.specs.Values.{Thing, null, reference, class_name, group_number, owner_pair, same_thing, is_group, Cells, Entry, Heap, no_heap, as_store, is_allocated, IsNumbered, Structure}
use Rattle.ss_logic.specs.Changes.{moved, shared_owner, joined_owner, with_new, new_object, new_array}
use Rattle.ss_logic.specs.Terms.{Symbol, Constant, Field, Element, Set, Put, Unpack, Pack, Capture, Join, New, NewArray, MakeReady, Term, Bound, App, Terms, no_terms, term_then, field_sort, cell, constant_value, whole_at, thing_at, store_at, value_of, values_of}
use Rattle.ss_logic.proofs.Stable.{equal_things}

none_numbered : IsNumbered no_heap
none_numbered w g e = let no : ⊥ = cc in absurd no

alloc_equal : (h i : Heap) (w : Thing) → h.next ≡ i.next → is_allocated h w ≡ is_allocated i w
alloc_equal h i (reference o) e = ap (nat_lt o) e
alloc_equal h i w e = refl

as_first : (h i : Heap) → i.next ≡ h.next → (w : Thing) (g : ℕ) → (is_allocated h w ≡ true) × (nat_lt g h.next ≡ true) → (is_allocated i w ≡ true) × (nat_lt g i.next ≡ true)
as_first h i e w g p = (alloc_equal i h w e ∙ p.0, ap (nat_lt g) e ∙ p.1)

by_test : {P : Type 0} (b : Bool) → (b ≡ true → P) → (b ≡ false → P) → P
by_test true t f = t refl
by_test false t f = f refl

if_yes : {A : Type 0} (b : Bool) (x y : A) → b ≡ true → (if b then x else y) ≡ x
if_yes true x y h = refl
if_yes false x y h = absurd (false≢true h)

if_no : {A : Type 0} (b : Bool) (x y : A) → b ≡ false → (if b then x else y) ≡ y
if_no true x y h = absurd (true≢false h)
if_no false x y h = refl

group_of : (v : Thing) → is_group v ≡ true → (k : ℕ) × (v ≡ group_number k)
group_of (group_number k) h = (k, refl)
group_of v h = absurd (false≢true h)

module _ (h : Heap) (numbered : IsNumbered h) where
  -- an owner that is a group has a number below `next`
  abbrev IsLow : Thing → Type 0
  IsLow v = (g : ℕ) → v ≡ group_number g → nat_lt g h.next ≡ true

  moved_numbered : (v new : Thing) → IsLow new → (w : Thing) (g : ℕ) → moved v new (h.at w).owner ≡ group_number g → (is_allocated h w ≡ true) × (nat_lt g h.next ≡ true)
  moved_numbered v new low w g e =
      by_test (is_group v && same_thing (h.at w).owner v)
      (λ t. let p = and_parts (is_group v) (same_thing (h.at w).owner v) t in
      let k = group_of v p.0 in
      ((numbered w k.0 (equal_things (h.at w).owner v p.1 ∙ k.1)).0, low g (sym (if_yes (is_group v && same_thing (h.at w).owner v) new (h.at w).owner t) ∙ e)))
      (λ f. numbered w g (sym (if_no (is_group v && same_thing (h.at w).owner v) new (h.at w).owner f) ∙ e))

  joined_numbered : (o e w : Thing) (g : ℕ) → joined_owner e (h.at o).owner (h.at e).owner (h.at w).owner ≡ group_number g → (is_allocated h w ≡ true) × (nat_lt g h.next ≡ true)
  joined_numbered o e w g q =
      let first = λ (x : Thing). if is_group (h.at e).owner then moved (h.at e).owner (h.at o).owner x else moved (h.at o).owner (h.at e).owner x in
      by_test (same_thing e null)
      (λ t. numbered w g (sym (if_yes (same_thing e null) (h.at w).owner (first (h.at w).owner) t) ∙ q))
      (λ f. let q' = sym (if_no (same_thing e null) (h.at w).owner (first (h.at w).owner) f) ∙ q in
      by_test (is_group (h.at e).owner)
      (λ t. moved_numbered (h.at e).owner (h.at o).owner (λ k i. (numbered o k i).1) w g (sym (if_yes (is_group (h.at e).owner) _ _ t) ∙ q'))
      (λ n. moved_numbered (h.at o).owner (h.at e).owner (λ k i. (numbered e k i).1) w g (sym (if_no (is_group (h.at e).owner) _ _ n) ∙ q')))

  allocated_more : (new : Entry) (w : Thing) → is_allocated h w ≡ true → is_allocated (with_new new h) w ≡ true
  allocated_more new (reference o) a = let l = ltb-true o h.next a in lt-ltb o (suc h.next) (omega (arith, l))
  allocated_more new w a = absurd (false≢true a)

  new_numbered : (new : Entry) → new.owner ≡ group_number h.next → IsNumbered (with_new new h)
  new_numbered new is w g e =
      by_test (same_thing w (reference h.next))
      (λ t. let same : group_number h.next ≡ group_number g = sym is ∙ ap (λ x. x.owner) (sym (if_yes (same_thing w (reference h.next)) new (h.at w) t)) ∙ e in
      let number : h.next ≡ g = cc in (
        subst (λ x. is_allocated (with_new new h) x ≡ true) (sym (equal_things w (reference h.next) t)) (lt-ltb h.next (suc h.next) (omega arith)),
        lt-ltb g (suc h.next) (omega (arith, number)),
      ))
      (λ f. let p = numbered w g (ap (λ x. x.owner) (sym (if_no (same_thing w (reference h.next)) new (h.at w) f)) ∙ e) in
      let l = ltb-true g h.next p.1 in
      (allocated_more new w p.0, lt-ltb g (suc h.next) (omega (arith, l))))

pair_low : (n : ℕ) (a b : Thing) (g : ℕ) → owner_pair a b ≡ group_number g → nat_lt g n ≡ true
pair_low n a b g e = let no : ⊥ = cc in absurd no

cell_numbered : {P : Type 0} (s : Sort) (c : Cells P) (i : P) → IsNumbered (as_store (cell s c i))
cell_numbered sort.Whole c i = none_numbered
cell_numbered sort.Truth c i = none_numbered
cell_numbered sort.Rest c i = none_numbered
cell_numbered sort.Store c i = none_numbered

constant_numbered : (m : Structure) (s : Sort) (k : ℕ) → IsNumbered (as_store (constant_value m s k))
constant_numbered m sort.Store k = m.numbered k
constant_numbered m sort.Whole k = none_numbered
constant_numbered m sort.Truth k = none_numbered
constant_numbered m sort.Rest k = none_numbered

module _ (cs : List ClassTree) (m : Structure) where
  abbrev First : Terms → Heap
  First ts = store_at (values_of cs m [] ts) 0

  abbrev After : Symbol → Terms → Heap
  After f ts = as_store (value_of cs m [] (App f ts))

  abbrev Second : Terms → Thing
  Second ts = thing_at (values_of cs m [] ts) 1

  abbrev Third : Terms → Thing
  Third ts = thing_at (values_of cs m [] ts) 2

  mutual
    pub store_numbered : (t : Term) → IsNumbered (as_store (value_of cs m [] t))
    store_numbered (Bound k) w g e = none_numbered w g e
    store_numbered (App (Constant s k) ts) w g e = constant_numbered m s k w g e
    store_numbered (App (Field f) ts) w g e = cell_numbered (field_sort cs f) ((First ts).at (Second ts)).fields f w g e
    store_numbered (App (Element s) ts) w g e = cell_numbered s ((First ts).at (Second ts)).elements (whole_at (values_of cs m [] ts) 2) w g e
    store_numbered (App (Set f) ts) w g e = as_first (First ts) (After (Set f) ts) refl w g (first_numbered ts w g e)
    store_numbered (App Put ts) w g e = as_first (First ts) (After Put ts) refl w g (first_numbered ts w g e)
    store_numbered (App (Unpack t) ts) w g e = as_first (First ts) (After (Unpack t) ts) refl w g (first_numbered ts w g e)
    store_numbered (App (Pack t) ts) w g e = as_first (First ts) (After (Pack t) ts) refl w g (first_numbered ts w g e)
    store_numbered (App (Capture t) ts) w g e =
        as_first (First ts) (After (Capture t) ts) refl w g
        (moved_numbered (First ts) (first_numbered ts) (shared_owner (First ts) (Third ts)) (owner_pair (Second ts) (class_name t)) (pair_low (First ts).next (Second ts) (class_name t)) w g e)
    store_numbered (App Join ts) w g e = as_first (First ts) (After Join ts) refl w g (joined_numbered (First ts) (first_numbered ts) (Second ts) (Third ts) w g e)
    store_numbered (App (New t) ts) w g e = new_numbered (First ts) (first_numbered ts) (new_object (First ts).next) refl w g e
    store_numbered (App (NewArray t) ts) w g e = new_numbered (First ts) (first_numbered ts) (new_array t (First ts).next) refl w g e
    store_numbered (App MakeReady ts) w g e = as_first (First ts) (After MakeReady ts) refl w g (first_numbered ts w g e)
    store_numbered (App f ts) w g e = none_numbered w g e

    first_numbered : (ts : Terms) → IsNumbered (store_at (values_of cs m [] ts) 0)
    first_numbered no_terms w g e = none_numbered w g e
    first_numbered (term_then t ts) w g e = store_numbered t w g e
