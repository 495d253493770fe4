-- What the log has of objects that were there at the entry of the running body.
use Rattle.std.specs.Prelude.{◌≡◌, ℕ, List, [], ◌∷◌, map, Bool, true, not, ◌||◌, nat_lt, is_some}
use Rattle.ss_store_rules.specs.Store.{Object}
use Rattle.ss_journal.specs.Shapes.{Segment}
use Rattle.ss_journal.specs.Undo.{header_of, content_of, entries_of}

-- the object is new since the entry, or it is logged what it was
abbrev pub has_header : List Segment → ℕ → Bool
has_header [] q = true
has_header (g ∷ gs) q = not (nat_lt q g.count) || is_some (header_of g.headers q)

abbrev pub has_content : List Segment → ℕ → Bool
has_content [] q = true
has_content (g ∷ gs) q = not (nat_lt q g.count) || is_some (content_of g.contents q)

abbrev pub counts : List Segment → List ℕ
counts gs = map (λ g. g.count) gs

-- More is logged, and the entries stay, where the objects are these.
pub record HasMore (s : List Object) (old new : List Segment) : Type 0 where
  pub entries : entries_of new s ≡ entries_of old s
  pub counts : counts new ≡ counts old
  pub headers : (q : ℕ) → has_header old q ≡ true → has_header new q ≡ true
  pub contents : (q : ℕ) → has_content old q ≡ true → has_content new q ≡ true

-- the stores at the entries stay
pub record AreSame (old new : List Segment) : Type 0 where
  pub entries : (s : List Object) → entries_of new s ≡ entries_of old s
  pub counts : counts new ≡ counts old
