-- Lists that have what others have.
use Rattle.std.specs.Prelude.{List, Contains}

-- the first list has each of the second
abbrev pub Includes : {A : Type 0} → List A → List A → Type 0
Includes {A} xs ys = (x : A) → Contains ys x → Contains xs x
