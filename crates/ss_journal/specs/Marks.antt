-- The log as the code has it: all that was logged, and marks where bodies were entered.
use Rattle.std.specs.Prelude.{◌≡◌, ℕ, ◌≤◌, List, [], ◌∷◌, length, map, take, drop}
use Rattle.ss_journal.specs.declared.changes.OldHeader.{OldHeader}
use Rattle.ss_journal.specs.declared.journal.Mark.{Mark}
use Rattle.ss_journal.specs.Shapes.{OldContent, Segment}

-- the newest mark first
abbrev pub segments : List Mark → List OldHeader → List OldContent → List Segment
segments [] hs cs = []
segments (m ∷ ms) hs cs = record { count = m.count; headers = drop m.headers hs; contents = drop m.contents cs } ∷ segments ms (take m.headers hs) (take m.contents cs)

-- each mark is within what was logged before the next one
abbrev pub AreWithin : List Mark → ℕ → ℕ → Type 0
AreWithin [] h c = Unit {0}
AreWithin (m ∷ ms) h c = (m.headers ≤ h) × (m.contents ≤ c) × AreWithin ms m.headers m.contents

-- which objects the entries are of
abbrev pub header_positions : List OldHeader → List ℕ
header_positions hs = map (λ h. h.position) hs

abbrev pub content_positions : List OldContent → List ℕ
content_positions cs = map (λ c. c.position) cs

-- The marks are within what was logged, and the places are those of what was logged.
pub record IsLog (ms : List Mark) (hs : List OldHeader) (cs : List OldContent) (header_places content_places : List ℕ) : Type 0 where
  pub within : AreWithin ms (length hs) (length cs)
  pub headers : header_places ≡ header_positions hs
  pub contents : content_places ≡ content_positions cs
