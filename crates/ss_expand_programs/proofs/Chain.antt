-- The levels of a class, one more of them.
use Rattle.std.proofs.Common.{◌≡◌, ℕ, suc, ◌-◌, ◌<◌, ◌≤◌, List, [], ◌∷◌, ◌++◌, map, reverse, Bool, true, false, Option, Some, None, refl, ap, sym, ◌∙◌, append_assoc, arith, eqb}
use Rattle.std.specs.Prelude.{filter_map, if◌then◌else◌, option_and_then}
use Rattle.std.specs.Option.{option_to_list}
use Rattle.std.proofs.lemmas.List.{append-nil, map-append, reverse-append}
use Rattle.std.proofs.lemmas.List.Elements.{filter_map-append}
use Rattle.ss_core.specs.Tree.{ClassTree}
use Rattle.ss_core.specs.Chain.{above, level_above, levels_from, most_levels, levels}
use Rattle.ss_expand_programs.specs.Declaring.{levels_at}

above_or_none : (b : Bool) (cs : List ClassTree) (n t : ℕ) → (if b then [] else levels_from cs n t) ≡ levels_at cs n (if b then None else Some t)
above_or_none true cs n t = refl
above_or_none false cs n t = refl

level_next : (cs : List ClassTree) (n : ℕ) (level : Option ℕ) → levels_at cs (suc n) level ≡ option_to_list level ++ levels_at cs n (option_and_then (level_above cs) level)
level_next cs n None = refl
level_next cs n (Some t) = ap (λ ls. t ∷ ls) (above_or_none (eqb t 0) cs n (above cs t))

none_left : (cs : List ClassTree) (level : Option ℕ) → levels_at cs 0 level ≡ []
none_left cs None = refl
none_left cs (Some t) = refl

-- ---- a walk that has made i of m steps

pub most_is : most_levels ≡ 64
unfolding most_levels
most_is = refl

all_levels : (cs : List ClassTree) (t : ℕ) → levels_at cs most_levels (Some t) ≡ levels cs t
unfolding levels
all_levels cs t = refl

pub first_level : {X : Type 0} (f : ℕ → Option X) (cs : List ClassTree) (t : ℕ) (out : List X) → out ≡ [] → out ++ filter_map f (levels_at cs (most_levels - 0) (Some t)) ≡ filter_map f (levels cs t)
first_level f cs t out e =
    let n : most_levels - 0 ≡ most_levels = omega arith in
    ap (λ o. o ++ filter_map f (levels_at cs (most_levels - 0) (Some t))) e
    ∙ ap (λ k. filter_map f (levels_at cs k (Some t))) n
    ∙ ap (filter_map f) (all_levels cs t)

pub one_level : {X : Type 0} (f : ℕ → Option X) (cs : List ClassTree) (m i : ℕ) (level next : Option ℕ) (out more all : List X) → i < m
    → next ≡ option_and_then (level_above cs) level → more ≡ out ++ filter_map f (option_to_list level)
    → out ++ filter_map f (levels_at cs (m - i) level) ≡ all → more ++ filter_map f (levels_at cs (m - (suc i)) next) ≡ all
one_level f cs m i level next out more all l e1 e2 h =
    let n : m - i ≡ suc (m - (suc i)) = omega arith in
    let k = m - (suc i) in
    ap (λ o. more ++ filter_map f (levels_at cs k o)) e1
    ∙ ap (λ b. b ++ filter_map f (levels_at cs k (option_and_then (level_above cs) level))) e2
    ∙ append_assoc out (filter_map f (option_to_list level)) (filter_map f (levels_at cs k (option_and_then (level_above cs) level)))
    ∙ ap (λ b. out ++ b) (sym (filter_map-append f (option_to_list level) (levels_at cs k (option_and_then (level_above cs) level))) ∙ ap (filter_map f) (sym (level_next cs k level)))
    ∙ ap (λ b. out ++ filter_map f (levels_at cs b level)) (sym n)
    ∙ h

pub last_level : {X : Type 0} (f : ℕ → Option X) (cs : List ClassTree) (m i : ℕ) (level : Option ℕ) (out all : List X) → m ≤ i
    → out ++ filter_map f (levels_at cs (m - i) level) ≡ all → out ≡ all
last_level f cs m i level out all l h =
    let n : m - i ≡ 0 = omega arith in
    sym (append-nil out) ∙ ap (λ b. out ++ filter_map f b) (sym (none_left cs level)) ∙ ap (λ b. out ++ filter_map f (levels_at cs b level)) (sym n) ∙ h

-- ---- from the topmost down

pub map_reverse : {X Y : Type 0} (f : X → Y) (xs : List X) → map f (reverse xs) ≡ reverse (map f xs)
map_reverse f [] = refl
map_reverse f (x ∷ xs) =
    ap (map f) (reverse-append (x ∷ []) xs) ∙ map-append f (reverse xs) (x ∷ []) ∙ ap (λ ys. ys ++ f x ∷ []) (map_reverse f xs) ∙ sym (reverse-append (f x ∷ []) (map f xs))
