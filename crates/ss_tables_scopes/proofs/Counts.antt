-- A list of arguments is as long as the list that it is of.
use Rattle.std.proofs.Common.{◌≡◌, ◌+◌, ℕ, length, List, [], ◌∷◌, refl, ap, ◌∙◌, add-one}
use Rattle.ss_ast.specs.Expressions.{ExprTree, arguments}
use Rattle.ss_tables.specs.Statics.{count}

pub count_is : (xs : List ExprTree) → count (arguments xs) ≡ length xs
count_is [] = refl
count_is (x ∷ xs) = ap (λ n. n + 1) (count_is xs) ∙ add-one (length xs)
