-- What is kept, and how a store grows, over the stores of a structure.
use Rattle.std.specs.Prelude.{◌≡◌, ℕ, ℤ, List, [], ◌∷◌, true}
use Rattle.ss_core.specs.Tree.{ClassTree}
use Rattle.ss_core.specs.Chain.{sub}
use Rattle.ss_store_rules.specs.Changes.{field_class}
use Rattle.ss_logic.specs.Values.{Thing, class_name, owner_pair, is_group, Heap, as_thing, as_store, is_allocated, Structure}
use Rattle.ss_logic.specs.Terms.{Term, field_sort, has_field, cell, value_of}
use Rattle.ss_logic.specs.Formulas.{Formula, True}
use Rattle.ss_logic.specs.Frames.{NamedTerm, NamesField, NamesAll, NamesUpto, NamesElements, CallTerms}

-- the later store has grown out of the earlier one
pub record IsGrown (before after : Heap) : Type 0 where
  pub allocated : (w : Thing) → is_allocated before w ≡ true → is_allocated after w ≡ true
  pub ready : (w : Thing) → is_allocated before w ≡ true → (before.at w).ready ≡ true → (after.at w).ready ≡ true
  -- the owner of an object stays where it is no group
  pub owner : (w : Thing) → is_allocated before w ≡ true → (is_group (before.at w).owner ≡ true → ⊥) → (after.at w).owner ≡ (before.at w).owner

abbrev pub Each : {X : Type 0} → (X → Type 0) → List X → Type 0
Each P [] = Unit {0}
Each P (x ∷ xs) = P x × Each P xs

abbrev pub thing_of : List ClassTree → Structure → Term → Thing
thing_of cs m t = as_thing (value_of cs m [] t)

abbrev pub store_of : List ClassTree → Structure → Term → Heap
store_of cs m t = as_store (value_of cs m [] t)

-- ---- what is named

-- the formula is true, and the thing is this one
abbrev pub IsNamed : List ClassTree → Structure → Thing → Formula → Term → Type 0
IsNamed cs m w guard o = True cs m [] guard × (w ≡ thing_of cs m o)

-- the term names no field f of the thing
abbrev pub NamesNoField : List ClassTree → Structure → ℕ → Thing → NamedTerm → Type 0
NamesNoField cs m f w (NamesField guard o g) = g ≡ f → IsNamed cs m w guard o → ⊥
NamesNoField cs m f w (NamesAll guard o) = IsNamed cs m w guard o → ⊥
NamesNoField cs m f w (NamesUpto guard o t) = sub cs t (field_class cs f) ≡ true → IsNamed cs m w guard o → ⊥
NamesNoField cs m f w (NamesElements guard a) = Unit {0}

abbrev pub NamesNoLevel : List ClassTree → Structure → Thing → NamedTerm → Type 0
NamesNoLevel cs m w (NamesField guard o g) = Unit {0}
NamesNoLevel cs m w (NamesAll guard o) = IsNamed cs m w guard o → ⊥
NamesNoLevel cs m w (NamesUpto guard o t) = IsNamed cs m w guard o → ⊥
NamesNoLevel cs m w (NamesElements guard a) = Unit {0}

abbrev pub NamesNoElement : List ClassTree → Structure → Thing → NamedTerm → Type 0
NamesNoElement cs m w (NamesField guard o g) = Unit {0}
NamesNoElement cs m w (NamesAll guard o) = Unit {0}
NamesNoElement cs m w (NamesUpto guard o t) = Unit {0}
NamesNoElement cs m w (NamesElements guard a) = IsNamed cs m w guard a → ⊥

-- ---- what is kept

-- The thing isn't free: it wasn't committed at entry, nor in the group of a captured argument, nor owned by one of these.
pub record IsBound (cs : List ClassTree) (m : Structure) (c : CallTerms) (w : Thing) : Type 0 where
  pub committed : ((store_of cs m c.before).at w).committed ≡ true → ⊥
  pub captured : Each (λ e. is_group ((store_of cs m c.before).at (thing_of cs m e)).owner ≡ true → ((store_of cs m c.before).at w).owner ≡ ((store_of cs m c.before).at (thing_of cs m e)).owner → ⊥) c.captured
  pub owned : Each (λ o. ((store_of cs m c.before).at w).owner ≡ owner_pair (thing_of cs m o.object) (class_name o.class) → ⊥) c.owned

-- no object of an enclosing expose
abbrev pub IsInside : List ClassTree → Structure → CallTerms → Thing → Type 0
IsInside cs m c w = Each (λ o. w ≡ thing_of cs m o → ⊥) c.outside

-- Kept between the two stores.
pub record IsKept (cs : List ClassTree) (m : Structure) (c : CallTerms) : Type 0 where
  -- what was allocated and isn't free has its level, its committed bit, its owner, its fields and its elements, unless they are named
  pub level : (w : Thing) → is_allocated (store_of cs m c.before) w ≡ true → IsBound cs m c w → IsInside cs m c w → Each (NamesNoLevel cs m w) c.named →
      ((store_of cs m c.after).at w).level ≡ ((store_of cs m c.before).at w).level
  pub committed : (w : Thing) → is_allocated (store_of cs m c.before) w ≡ true → IsBound cs m c w → ((store_of cs m c.after).at w).committed ≡ ((store_of cs m c.before).at w).committed
  pub owner : (w : Thing) → is_allocated (store_of cs m c.before) w ≡ true → IsBound cs m c w → ((store_of cs m c.after).at w).owner ≡ ((store_of cs m c.before).at w).owner
  pub fields : (w : Thing) (f : ℕ) → is_allocated (store_of cs m c.before) w ≡ true → IsBound cs m c w → has_field cs f ≡ true → Each (NamesNoField cs m f w) c.named →
      cell (field_sort cs f) ((store_of cs m c.after).at w).fields f ≡ cell (field_sort cs f) ((store_of cs m c.before).at w).fields f
  pub elements : (w : Thing) (i : ℤ) → is_allocated (store_of cs m c.before) w ≡ true → IsBound cs m c w → Each (NamesNoElement cs m w) c.named →
      (((store_of cs m c.after).at w).elements.things i ≡ ((store_of cs m c.before).at w).elements.things i)
      × (((store_of cs m c.after).at w).elements.wholes i ≡ ((store_of cs m c.before).at w).elements.wholes i)
      × (((store_of cs m c.after).at w).elements.truths i ≡ ((store_of cs m c.before).at w).elements.truths i)
  -- what is new or free is at its full level, but for the objects of enclosing exposes
  pub full : (w : Thing) → is_allocated (store_of cs m c.after) w ≡ true → (is_allocated (store_of cs m c.before) w ≡ true → IsBound cs m c w → ⊥) → IsInside cs m c w →
      ((store_of cs m c.after).at w).level ≡ m.table.class_of w
