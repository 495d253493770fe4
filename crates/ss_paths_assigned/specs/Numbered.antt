-- Where the fields of each class begin.
use Rattle.std.specs.Prelude.{ℕ, ◌+◌, List, [], ◌∷◌}
use Rattle.ss_core.specs.Tree.{ClassTree}
use Rattle.ss_paths.specs.Fields.{field_count}

-- the number of the first field of each of these classes, before which there are n fields, and last how many there are then
abbrev pub firsts_from : ℕ → List ClassTree → List ℕ
firsts_from n [] = n ∷ []
firsts_from n (c ∷ cs) = n ∷ firsts_from (n + field_count c) cs
