-- The part of a formed core program on the tables of methods, which the elaboration of an accepted program has.
use Rattle.std.specs.Prelude.{◌≡◌, ℕ, true, Some, slice_get}
use Rattle.ss_core.specs.Tree.{EntryTree, BodyTree, CoreTree}
use Rattle.ss_core.specs.Chain.{is_declared}
use Rattle.ss_store_rules.specs.Typed.{body_at, table}
use Rattle.ss_store_rules.specs.Tables.{table_above, Replaces}

-- at the place of each method of the class above, the table of a class has the same body, or one that stands for it
abbrev pub HaveInherited : CoreTree → Type 0
HaveInherited c =
    (t : ℕ) → is_declared c.classes t ≡ true → (m : ℕ) (old new : EntryTree) (from to : BodyTree) → slice_get (table_above c t) m ≡ Some old → slice_get (table c.classes t) m ≡ Some new →
    body_at c old.body ≡ Some from → body_at c new.body ≡ Some to → Replaces t old new from to
