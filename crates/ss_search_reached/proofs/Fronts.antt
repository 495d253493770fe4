-- Fronts of lists.
use Rattle.std.proofs.Common.{◌≡◌, ℕ, zero, suc, ◌<◌, ◌≤◌, List, [], ◌∷◌, ◌++◌, length, take, refl, sym, ◌∙◌, ap, subst, ⊎_elim, arith}
use Rattle.std.specs.List.{Contains}
use Rattle.std.proofs.lemmas.List.{take_all, take_at, take-take, take-map, take-append-le, length-take, length_push}
use Rattle.ss_terms.specs.declared.forms.FormulaId.{FormulaId}
use Rattle.ss_terms.specs.Forms.{Forms, formula_at, formulas_at}
use Rattle.ss_logic.specs.Includes.{Includes}
use Rattle.ss_logic.proofs.Lists.{contains_head, contains_cons, contains_none, contains_split}

pub contains_take : {A : Type 0} (n : ℕ) (xs : List A) (x : A) → Contains (take n xs) x → Contains xs x
contains_take zero xs x h = absurd (contains_none x h)
contains_take (suc n) [] x h = h
contains_take (suc n) (y ∷ xs) x h = ⊎_elim (λ e. subst (Contains (y ∷ xs)) e (contains_head y xs)) (λ k. contains_cons y xs x (contains_take n xs x k)) (contains_split y (take n xs) x h)

pub front_long : {A : Type 0} (xs ys : List A) → take (length xs) ys ≡ xs → length xs ≤ length ys
front_long xs ys e = let l = sym (length-take (length xs) ys) ∙ ap length e in omega (arith, l)

pub front_includes : {A : Type 0} (xs ys : List A) → take (length xs) ys ≡ xs → Includes ys xs
front_includes xs ys e x h = contains_take (length xs) ys x (subst (λ zs. Contains zs x) (sym e) h)

pub front_itself : {A : Type 0} (xs : List A) → take (length xs) xs ≡ xs
front_itself xs = take_all (length xs) xs (omega arith)

pub front_trans : {A : Type 0} (xs ys zs : List A) → take (length xs) ys ≡ xs → take (length ys) zs ≡ ys → take (length xs) zs ≡ xs
front_trans xs ys zs e f = sym (take-take (length xs) (length ys) zs (front_long xs ys e)) ∙ ap (take (length xs)) f ∙ e

pub front_push : {A : Type 0} (xs ys zs : List A) → ys ≡ xs ++ zs → take (length xs) ys ≡ xs
front_push xs ys zs e = ap (take (length xs)) e ∙ take_at xs zs (length xs) refl

pub front_as_long : {A : Type 0} (xs ys : List A) → take (length xs) ys ≡ xs → length ys ≤ length xs → ys ≡ xs
front_as_long xs ys e h = sym (take_all (length xs) ys h) ∙ e

-- ---- one less

pub push_long : {A : Type 0} (old new : List A) (x : A) → old ≡ new ++ x ∷ [] → length old ≡ suc (length new)
push_long old new x e = let l = length_push new x in let k = ap length e in omega (arith, l, k)

pub taken_less : {A : Type 0} (to : ℕ) (old new : List A) (x : A) → old ≡ new ++ x ∷ [] → to < length old → take to new ≡ take to old
taken_less to old new x e h = sym (take-append-le to new (x ∷ []) (let l = push_long old new x e in omega (arith, h, l))) ∙ ap (take to) (sym e)

pub back_to : (b : Forms) (to : ℕ) (old new : List FormulaId) → take to new ≡ take to old → length new ≤ to → formulas_at b new ≡ take to (formulas_at b old)
back_to b to old new e h = ap (formulas_at b) (sym (take_all to new h) ∙ e) ∙ sym (take-map (formula_at b) to old)
