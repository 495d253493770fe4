-- What several calls wrote one after the other.
use Rattle.std.proofs.Common.{◌≡◌, ℕ, List, [], ◌∷◌, ◌++◌, map, drop, length, suc, ◌+◌, ◌<◌, ap, sym, subst, ◌∙◌, append_assoc, Result, OnOk, get_or, arith}
use Rattle.std.proofs.Math.Seq.{drop-cons}
use Rattle.std.proofs.lemmas.List.{append-nil}
use Rattle.std.specs.Prelude.{replicate}
use Rattle.ss_report_core.proofs.Chains.{one_more_open}

-- two calls
pub two_written : {T E : Type 0} (r : Result T E) (new o0 o1 a b t : List ℕ) → o1 ≡ o0 ++ a → t ≡ a ++ b → OnOk r (new ≡ o1 ++ b) → OnOk r (new ≡ o0 ++ t)
two_written r new o0 o1 a b t e1 et h =
    let e : o1 ++ b ≡ o0 ++ t = ap (λ o. o ++ b) e1 ∙ append_assoc o0 a b ∙ ap (λ ys. o0 ++ ys) (sym et) in
    subst (λ ys. OnOk r (new ≡ ys)) e h

-- three calls
pub three_written : {T E : Type 0} (r : Result T E) (new o0 o1 o2 a b c t : List ℕ) → o1 ≡ o0 ++ a → o2 ≡ o1 ++ b → t ≡ a ++ (b ++ c) → OnOk r (new ≡ o2 ++ c) → OnOk r (new ≡ o0 ++ t)
three_written r new o0 o1 o2 a b c t e1 e2 et h =
    two_written r new o0 o2 (a ++ b) c t (e2 ∙ ap (λ o. o ++ b) e1 ∙ append_assoc o0 a b) (et ∙ sym (append_assoc a b c)) h

-- the rest of a list after a place, mapped
pub map_drop : {X Y : Type 0} (f : X → Y) (xs : List X) (i : ℕ) (x : X) → i < length xs → x ≡ get_or xs i x → map f (drop i xs) ≡ f x ∷ map f (drop (i + 1) xs)
map_drop f xs i x h e =
    let next : suc i ≡ i + 1 = omega arith in
    ap (map f) (drop-cons xs i x h)
    ∙ ap (λ y. f y ∷ map f (drop (suc i) xs)) (sym e)
    ∙ ap (λ n. f x ∷ map f (drop n xs)) next

-- one more open parenthesis
pub opened : (o0 out more : List ℕ) (i : ℕ) → more ≡ out ++ 40 ∷ [] → out ≡ o0 ++ replicate i 40 → more ≡ o0 ++ replicate (i + 1) 40
opened o0 out more i e before =
    let next : i + 1 ≡ suc i = omega arith in
    e ∙ ap (λ o. o ++ 40 ∷ []) before ∙ append_assoc o0 (replicate i 40) (40 ∷ []) ∙ ap (λ ys. o0 ++ ys) (one_more_open i [] ∙ ap (λ ys. 40 ∷ ys) (append-nil (replicate i 40)) ∙ ap (λ n. replicate n 40) (sym next))

regrouped : (o i k n t p a y e : List ℕ) → (((o ++ (i ++ k)) ++ n) ++ t) ++ ((p ++ a) ++ (y ++ e)) ≡ o ++ ((i ++ (((((k ++ n) ++ t) ++ p) ++ a) ++ y)) ++ e)
regrouped o i k n t p a y e = simp append_assoc

-- the line of an object or an array that is made, part by part
pub made_line : {T E : Type 0} (r : Result T E) (o0 o1 o2 o3 new i k n t p a y e : List ℕ) → o1 ≡ o0 ++ (i ++ k) → o2 ≡ o1 ++ n → o3 ≡ o2 ++ t
    → OnOk r (new ≡ o3 ++ ((p ++ a) ++ (y ++ e))) → OnOk r (new ≡ o0 ++ ((i ++ (((((k ++ n) ++ t) ++ p) ++ a) ++ y)) ++ e))
made_line r o0 o1 o2 o3 new i k n t p a y e e1 e2 e3 h =
    let d2 = e2 ∙ ap (λ o. o ++ n) e1 in
    let d3 = e3 ∙ ap (λ o. o ++ t) d2 in
    subst (λ ys. OnOk r (new ≡ ys)) (ap (λ o. o ++ ((p ++ a) ++ (y ++ e))) d3 ∙ regrouped o0 i k n t p a y e) h
