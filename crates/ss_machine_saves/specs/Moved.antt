-- The objects whose level, owner or commitment a change may touch.
use Rattle.std.specs.Prelude.{◌≡◌, ℕ, List, Bool, true, if◌then◌else◌, Option, Some, None, slice_get}
use Rattle.ss_core.specs.declared.names.Mark.{Mark}
use Rattle.ss_core.specs.declared.names.Mark.TheVariants as mark
use Rattle.ss_store_rules.specs.declared.Value.{Value}
use Rattle.ss_store_rules.specs.declared.Value.TheVariants as value
use Rattle.ss_store_rules.specs.declared.Owner.{Owner}
use Rattle.ss_store_rules.specs.declared.Owner.TheVariants as owner
use Rattle.ss_store_rules.specs.Store.{Object}
use Rattle.ss_store_rules.specs.Reads.{is_pair, is_in_group, same_owner, object_at}
use Rattle.ss_journal.specs.Shapes.{Segment}
use Rattle.ss_store_rules.specs.Changes.{is_owned}
use Rattle.ss_journal.specs.Saved.{has_header, has_content}
use Rattle.ss_machine_saves.specs.Whole.{is_listed}
use Rattle.ss_machine_saves.specs.declared.owners.Owned.{Owned}
use Rattle.ss_machine_saves.specs.declared.owners.Owned.TheVariants as owned

-- those who have this pair as owner, or are in this group
abbrev pub has_owner : Owned → Owner → Bool
has_owner (owned.Pair o t) w = is_pair o t.0 w
has_owner (owned.Member g) w = is_in_group g w

-- the position of the object that holds them
abbrev pub holder_of : Owned → ℕ
holder_of (owned.Pair o t) = o
holder_of (owned.Member g) = g

abbrev pub AreSaved : Owned → List Object → List Segment → Type 0
AreSaved those s gs = (q : ℕ) (x : Object) → slice_get s q ≡ Some x → has_owner those x.owner ≡ true → has_header gs q ≡ true

-- the one at this position, where there is one and it is one of those
abbrev pub IsSavedAt : Owned → List Object → List Segment → ℕ → Type 0
IsSavedAt those s gs q = (x : Object) → slice_get s q ≡ Some x → has_owner those x.owner ≡ true → has_header gs q ≡ true

-- the group that gets another owner, where what has the owner w comes to refer by a field of this mark to what has the owner v
abbrev pub group_joined : Owner → Owner → Option ℕ
group_joined w (owner.Group g) = Some g
group_joined (owner.Group g) (owner.Owned p u) = Some g
group_joined (owner.Owned o t) (owner.Owned p u) = None

abbrev pub group_captured : Owner → Option ℕ
group_captured (owner.Group g) = Some g
group_captured (owner.Owned p u) = None

abbrev pub group_for : Mark → Owner → Owner → Option ℕ
group_for mark.Plain w v = None
group_for mark.Rep w v = group_captured v
group_for mark.Peer w v = if same_owner w v then None else group_joined w v

abbrev pub moved_group : Mark → List Object → ℕ → Value → Option ℕ
moved_group m s o (value.Obj e) = group_for m (object_at s o).owner (object_at s e).owner
moved_group m s o (value.Int n) = None
moved_group m s o (value.Bool b) = None
moved_group m s o value.Null = None

abbrev pub IsGroupSaved : Option ℕ → List Object → List Segment → Type 0
IsGroupSaved group s gs = (g : ℕ) → group ≡ Some g → (q : ℕ) (x : Object) → slice_get s q ≡ Some x → is_in_group g x.owner ≡ true → has_header gs q ≡ true

-- the fields and elements of what the value refers to are logged
abbrev pub HasContent : List Segment → Value → Type 0
HasContent gs v = (o : ℕ) → v ≡ value.Obj o → has_content gs o ≡ true

-- what a change of the object's level changes is logged, and the object is listed
pub record IsReadyForLevel (s : List Object) (gs : List Segment) (unfull : List ℕ) (v : Value) (t : ℕ) : Type 0 where
  pub listed : (o : ℕ) → v ≡ value.Obj o → is_listed unfull o ≡ true
  pub object : (o : ℕ) → v ≡ value.Obj o → has_header gs o ≡ true
  pub owned : (o : ℕ) → v ≡ value.Obj o → (q : ℕ) (x : Object) → slice_get s q ≡ Some x → is_owned o t x ≡ true → has_header gs q ≡ true

-- what a write to a field of this mark changes is logged
pub record IsReadyForWrite (s : List Object) (gs : List Segment) (m : Mark) (v w : Value) : Type 0 where
  pub object : HasContent gs v
  pub group : (o : ℕ) → v ≡ value.Obj o → IsGroupSaved (moved_group m s o w) s gs
