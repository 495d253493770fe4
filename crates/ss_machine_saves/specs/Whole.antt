-- What holds of the stores of a run.
use Rattle.std.specs.Prelude.{◌≡◌, ◌≤◌, ℕ, List, [], ◌∷◌, length, Bool, true, false, Option, Some, None, slice_get}
use Rattle.std.specs.List.{list_all}
use Rattle.ss_store_rules.specs.declared.Value.{Value}
use Rattle.ss_store_rules.specs.declared.Value.TheVariants as value
use Rattle.ss_store_rules.specs.Store.{Object, slot_value}
use Rattle.ss_store_rules.specs.Reads.{same_value, is_full}
pub use Rattle.ss_store_lists.specs.Listing.{is_listed}
use Rattle.ss_journal.specs.Shapes.{Segment}
use Rattle.ss_journal.specs.Saved.{counts}

-- this value was found
abbrev pub agrees_with : Option Value → Value → Bool
agrees_with None v = false
agrees_with (Some w) v = same_value v w

-- each slot has the value of its field
abbrev pub agrees : Object → Bool
agrees x = list_all (λ y. agrees_with (slot_value x.fields y.field) y.content) x.fields

abbrev pub IsListedObject : Value → List ℕ → Type 0
IsListedObject v unfull = (q : ℕ) → v ≡ value.Obj q → is_listed unfull q ≡ true

abbrev pub HasMoreListed : List ℕ → List ℕ → Type 0
HasMoreListed old new = (q : ℕ) → is_listed old q ≡ true → is_listed new q ≡ true

-- each object that isn't at its full level is listed
abbrev pub AreListed : List Object → List ℕ → Type 0
AreListed s unfull = (q : ℕ) (x : Object) → slice_get s q ≡ Some x → is_full x ≡ false → is_listed unfull q ≡ true

-- the numbers of objects at entries, the newest first
abbrev pub AreCounted : List ℕ → ℕ → Type 0
AreCounted [] n = Unit {0}
AreCounted (c ∷ cs) n = (c ≤ n) × AreCounted cs c

pub record AreWhole (s : List Object) (gs : List Segment) (unfull : List ℕ) : Type 0 where
  -- there were never more objects than at a later entry
  pub counted : AreCounted (counts gs) (length s)
  pub agree : list_all agrees s ≡ true
  pub listed : AreListed s unfull
