-- What contracts see of the undo log.
use Rattle.std.specs.Prelude.{ℕ, List}
use Rattle.ss_store_rules.specs.declared.Value.{Value}
use Rattle.ss_store_rules.specs.Store.{Slot}
use Rattle.ss_journal.specs.declared.changes.OldHeader.{OldHeader}

-- the fields and the elements that the object at this position had
pub record OldContent : Type 0 where
  pub position : ℕ
  pub fields : List Slot
  pub elements : List Value

-- The number of objects at the entry of a body, and what objects were that changed since then and before the next entry. Of two
-- entries of one object the first counts.
pub record Segment : Type 0 where
  pub count : ℕ
  pub headers : List OldHeader
  pub contents : List OldContent
