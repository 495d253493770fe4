-- What default conditions speak of.
use Rattle.std.specs.Prelude.{ℕ, ◌+◌, List, [], ◌∷◌, ◌++◌, map, Bool, true, false, if◌then◌else◌}
use Rattle.ss_core.specs.declared.names.ClassId.{ClassId}
use Rattle.ss_core.specs.Tree.{ClassTree, FieldTree}
use Rattle.ss_core.specs.Chain.{sub, levels, DeclaredField}
use Rattle.ss_logic.specs.declared.Sort.{Sort}
use Rattle.ss_logic.specs.Terms.{Term, app, sort_of_type}
use Rattle.ss_logic.specs.Terms as term
use Rattle.ss_logic.specs.Formulas.{Formula, neg}
use Rattle.ss_logic.specs.Shapes.{null_term, class_term, level_of, owner_of, pair_of, equal, differ, allocated, committed}
use Rattle.ss_logic.specs.Express.{and_of, or_of, is_full, default_of_sort}
use Rattle.ss_vcgen_defaults.specs.declared.fields.Held.{Held}

-- ---- fields, by number and sort

pub record Slot : Type 0 where
  pub field : ℕ
  pub sort : Sort

abbrev pub slot : ℕ → FieldTree → Slot
slot f d = record { field = f; sort = sort_of_type d.ty }

abbrev pub slot_of : Held → Slot
slot_of h = record { field = h.field; sort = h.sort }

-- after others, where it is wanted
abbrev pub with_slot : Bool → Slot → List Slot → List Slot
with_slot true s l = l ++ s ∷ []
with_slot false s l = l

-- these fields, the first with the number f, where they are wanted
abbrev pub slots_if : Bool → ℕ → List FieldTree → List Slot
slots_if wanted f [] = []
slots_if wanted f (d ∷ ds) = if wanted then slot f d ∷ slots_if wanted (f + 1) ds else slots_if wanted (f + 1) ds

-- those that t or a class above it declares
abbrev pub slots_upto : List ClassTree → ℕ → ℕ → List DeclaredField → List Slot
slots_upto cs t f [] = []
slots_upto cs t f (d ∷ ds) = if sub cs t d.class then slot f d.field ∷ slots_upto cs t (f + 1) ds else slots_upto cs t (f + 1) ds

-- the field is at its default
abbrev pub at_default : Term → Term → Slot → Formula
at_default s x h = equal (app (term.Field h.field) (s ∷ x ∷ [])) (default_of_sort h.sort)

-- ---- levels and owners

abbrev pub at_level : ℕ → Term → Term → Formula
at_level t s x = and_of (equal (level_of s x) (class_term t) ∷ neg (committed s x) ∷ [])

-- it isn't owned by x at this class, or it is full
abbrev pub full_if_owned : Term → Term → Term → ℕ → Formula
full_if_owned s v x u = or_of (differ (owner_of s v) (pair_of x (class_term u)) ∷ is_full s v ∷ [])

-- it isn't of the group of x, or it is full
abbrev pub full_if_peer : Term → Term → Term → Formula
full_if_peer s v x = or_of (neg (allocated s v) ∷ differ (owner_of s v) (owner_of s x) ∷ is_full s v ∷ [])

-- it is null, or not of the group of x
abbrev pub no_peer : Term → Term → Term → Formula
no_peer s y x = or_of (equal y null_term ∷ differ (owner_of s y) (owner_of s x) ∷ [])

-- ---- class numbers

abbrev pub number_of : ClassId → ℕ
number_of t = t.0

-- ---- of a bound name

-- it is full, where x owns it at t or a class above it
abbrev pub owned_is_full : List ClassTree → ℕ → Term → Term → Term → Formula
owned_is_full cs t s v x = and_of (map (full_if_owned s v x) (levels cs t))
