-- What contracts see of the stores of a run.
use Rattle.std.specs.Prelude.{List, [], ◌∷◌}
use Rattle.ss_store_rules.specs.Store.{Object}

-- the store now, and the stores as they were at the entries of the frames, that of the running one first
pub record Timeline : Type 0 where
  pub now : List Object
  pub entries : List (List Object)

-- the store at the entry of the running frame; where there is no frame, an empty one
abbrev pub entry_of : List (List Object) → List Object
entry_of [] = []
entry_of (s ∷ ss) = s

-- the stores at the entries of the frames that wait
abbrev pub rest_of : List (List Object) → List (List Object)
rest_of [] = []
rest_of (s ∷ ss) = ss
