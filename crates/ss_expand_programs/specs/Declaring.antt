-- The levels of a class, where there is one.
use Rattle.std.specs.Prelude.{ℕ, List, [], Option, Some, None}
use Rattle.ss_core.specs.Tree.{ClassTree}
use Rattle.ss_core.specs.Chain.{levels_from}

-- this level and those above it, at most n of them
abbrev pub levels_at : List ClassTree → ℕ → Option ℕ → List ℕ
levels_at cs n None = []
levels_at cs n (Some t) = levels_from cs n t
