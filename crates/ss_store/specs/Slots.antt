-- Fields of new objects.
use Rattle.std.specs.Prelude.{ℕ, ◌+◌, List, [], ◌∷◌, flat_map, reverse}
use Rattle.ss_core.specs.Tree.{ClassTree, FieldTree}
use Rattle.ss_core.specs.Chain.{all_fields, levels_from}
use Rattle.ss_store_rules.specs.Store.{Slot, default_value}
use Rattle.ss_store_rules.specs.Changes.{slots_from}

-- a slot for the field of this number, with its default
abbrev pub slot_for : ℕ → FieldTree → Slot
slot_for n f = record { field = n; content = default_value f.ty }

-- slots for the fields, which have the numbers from n on
abbrev pub slots_of : ℕ → List FieldTree → List Slot
slots_of n [] = []
slots_of n (f ∷ fs) = slot_for n f ∷ slots_of (n + 1) fs

-- slots for the fields of n levels from t upwards, beginning with the topmost
abbrev pub slots_upto : List ClassTree → ℕ → ℕ → List Slot
slots_upto cs n t = flat_map (λ level. slots_from level 0 (all_fields cs)) (reverse (levels_from cs n t))
