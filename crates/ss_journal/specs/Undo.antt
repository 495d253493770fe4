-- The stores at the entries of bodies, by what was logged since.
use Rattle.std.specs.Prelude.{◌≡◌, ℕ, List, [], ◌∷◌, ◌++◌, take, ◌==◌, if◌then◌else◌, Option, Some, None}
use Rattle.ss_store_rules.specs.Store.{Object}
use Rattle.ss_store_rules.specs.Changes.{changed}
use Rattle.ss_store.specs.Shapes.{owner_of_pair}
use Rattle.ss_journal.specs.declared.changes.OldHeader.{OldHeader}
use Rattle.ss_journal.specs.Shapes.{OldContent, Segment}

-- ---- what an object was

-- the first of these that is of the object at q
abbrev pub header_of : List OldHeader → ℕ → Option OldHeader
header_of [] q = None
header_of (h ∷ hs) q = if q == h.position then Some h else header_of hs q

abbrev pub content_of : List OldContent → ℕ → Option OldContent
content_of [] q = None
content_of (c ∷ cs) q = if q == c.position then Some c else content_of cs q

abbrev pub with_header : Option OldHeader → Object → Object
with_header None x = x
with_header (Some h) x = record x { level = h.level.0; committed = h.committed; owner = owner_of_pair h.owner; ready = h.ready }

abbrev pub with_content : Option OldContent → Object → Object
with_content None x = x
with_content (Some c) x = record x { fields = c.fields; elements = c.elements }

-- what is logged is what the object is
pub record IsHeaderOf (h : OldHeader) (x : Object) : Type 0 where
  pub level : h.level.0 ≡ x.level
  pub committed : h.committed ≡ x.committed
  pub owner : owner_of_pair h.owner ≡ x.owner
  pub ready : h.ready ≡ x.ready

pub record IsContentOf (c : OldContent) (x : Object) : Type 0 where
  pub fields : c.fields ≡ x.fields
  pub elements : c.elements ≡ x.elements

-- the object at q as it was
abbrev pub restored : Segment → ℕ → Object → Object
restored g q x = with_content (content_of g.contents q) (with_header (header_of g.headers q) x)

-- the store as it was at the entry
abbrev pub store_at : Segment → List Object → List Object
store_at g s = changed (restored g) (take g.count s)

-- the stores at the entries of the bodies that run, that of the running one first
abbrev pub entries_of : List Segment → List Object → List (List Object)
entries_of [] s = []
entries_of (g ∷ gs) s = store_at g s ∷ entries_of gs (store_at g s)

-- ---- the running body's

abbrev pub count_of : List Segment → ℕ
count_of [] = 0
count_of (g ∷ gs) = g.count

abbrev pub headers_of : List Segment → List OldHeader
headers_of [] = []
headers_of (g ∷ gs) = g.headers

abbrev pub contents_of : List Segment → List OldContent
contents_of [] = []
contents_of (g ∷ gs) = g.contents

-- ---- what is done with the log

-- where a body is left, what it changed, its caller changed
abbrev pub joined : List Segment → List Segment
joined [] = []
joined (g ∷ []) = []
joined (g ∷ h ∷ gs) = record { count = h.count; headers = h.headers ++ g.headers; contents = h.contents ++ g.contents } ∷ gs

abbrev pub with_old_header : OldHeader → List Segment → List Segment
with_old_header o [] = []
with_old_header o (g ∷ gs) = record g { headers = g.headers ++ o ∷ [] } ∷ gs

abbrev pub with_old_content : OldContent → List Segment → List Segment
with_old_content o [] = []
with_old_content o (g ∷ gs) = record g { contents = g.contents ++ o ∷ [] } ∷ gs
