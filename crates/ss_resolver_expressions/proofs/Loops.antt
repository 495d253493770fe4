-- Lists that loops go down.
use Rattle.std.proofs.Common.{ℕ, zero, suc, ◌≡◌, ◌<◌, ◌≤◌, ◌+◌, List, [], ◌∷◌, ◌++◌, length, drop, map, get_or, refl, sym, ap, ◌∙◌, arith, append_assoc, append-nil, add-one}
use Rattle.ss_ast.proofs.Loops.{drop_item}

pub map_twice : {X Y Z : Type 0} (f : Y → Z) (g : X → Y) (xs : List X) → map (λ x. f (g x)) xs ≡ map f (map g xs)
map_twice f g [] = refl
map_twice f g (x ∷ xs) = ap (λ ys. f (g x) ∷ ys) (map_twice f g xs)

pub none_yet : {X Y Z : Type 0} (f : Y → Z) (g : X → Y) (out : List Z) (xs : List X) → out ≡ [] → out ++ map (λ x. f (g x)) xs ≡ map f (map g xs)
none_yet f g out xs e = ap (λ ys. ys ++ map (λ x. f (g x)) xs) e ∙ map_twice f g xs

-- one item more of a list that is built beside the rest
pub one_more : {X Y : Type 0} (f : X → Y) (out out' all : List Y) (xs : List X) (i : ℕ) (x : X) (y : Y) → i < length xs → x ≡ get_or xs i x → y ≡ f x → out' ≡ out ++ y ∷ []
    → out ++ map f (drop i xs) ≡ all → out' ++ map f (drop (i + 1) xs) ≡ all
one_more f out out' all xs i x y l g v w h =
    ap (λ zs. zs ++ map f (drop (i + 1) xs)) w
    ∙ append_assoc out (y ∷ []) (map f (drop (i + 1) xs))
    ∙ ap (λ z. out ++ z ∷ map f (drop (i + 1) xs)) v
    ∙ ap (λ k. out ++ f x ∷ map f (drop k xs)) (add-one i)
    ∙ ap (λ zs. out ++ map f zs) (sym (drop_item xs i x l g))
    ∙ h

pub drop_all : {X Y : Type 0} (f : X → Y) (out all : List Y) (xs : List X) (i : ℕ) → length xs ≤ i → out ++ map f (drop i xs) ≡ all → out ≡ all
drop_all {X = X} f out all xs i l h = sym (append-nil out) ∙ ap (λ zs. out ++ zs) (sym (none_left xs i l)) ∙ h
  where
    none_left : (xs : List X) (i : ℕ) → length xs ≤ i → map f (drop i xs) ≡ []
    none_left [] zero l = refl
    none_left [] (suc i) l = refl
    none_left (x ∷ xs) zero l = absurd (omega arith)
    none_left (x ∷ xs) (suc i) l = none_left xs i (omega arith)
