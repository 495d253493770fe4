-- Lists that loops go down.
use Rattle.std.proofs.Common.{ℕ, zero, suc, ◌≡◌, ◌<◌, ◌+◌, List, [], ◌∷◌, ◌++◌, length, take, drop, get_or, sym, ap, ◌∙◌, arith, add-one}

pub drop_item : {X : Type 0} (xs : List X) (i : ℕ) (x : X) → i < length xs → x ≡ get_or xs i x → drop i xs ≡ x ∷ drop (suc i) xs
drop_item [] i x l e = absurd (omega arith)
drop_item (y ∷ ys) zero x l e = ap (λ z. z ∷ ys) (sym e)
drop_item (y ∷ ys) (suc i) x l e = drop_item ys i x (omega arith) e

-- the same where the code adds one
pub drop_next : {X : Type 0} (xs : List X) (i : ℕ) (x : X) → i < length xs → x ≡ get_or xs i x → drop i xs ≡ x ∷ drop (i + 1) xs
drop_next xs i x l e = drop_item xs i x l e ∙ ap (λ k. x ∷ drop k xs) (sym (add-one i))

pub take_item : {X : Type 0} (xs : List X) (i : ℕ) (x : X) → i < length xs → x ≡ get_or xs i x → take (suc i) xs ≡ take i xs ++ x ∷ []
take_item [] i x l e = absurd (omega arith)
take_item (y ∷ ys) zero x l e = ap (λ z. z ∷ []) (sym e)
take_item (y ∷ ys) (suc i) x l e = ap (λ z. y ∷ z) (take_item ys i x (omega arith) e)

pub take_next : {X : Type 0} (xs : List X) (i : ℕ) (x : X) → i < length xs → x ≡ get_or xs i x → take (i + 1) xs ≡ take i xs ++ x ∷ []
take_next xs i x l e = ap (λ k. take k xs) (add-one i) ∙ take_item xs i x l e
