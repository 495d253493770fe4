-- The positions of objects that aren't at their full level.
use Rattle.std.proofs.Common.{◌≡◌, ℕ, ◌+◌, ◌-◌, ◌<◌, List, [], ◌∷◌, ◌++◌, length, drop, get_or, Bool, true, false, ◌&&◌, ◌||◌, Option, Some, None, refl, sym, ◌∙◌, ap, subst, arith, inl, inr, ◌⊎◌, ⊎_elim}
use Rattle.std.specs.Prelude.{◌==◌, slice_get, unwrap_or, option_to_list}
use Rattle.std.specs.List.{list_all}
use Rattle.std.proofs.lemmas.Bool.{eqb-true}
use Rattle.std.proofs.lemmas.List.{length-append, append-nil, drop_more}
use Rattle.std.proofs.lemmas.List.Folds.{list_any-append}
use Rattle.ss_store_rules.specs.Store.{Object}
use Rattle.ss_store_rules.specs.Reads.{no_object, object_at, is_full}
use Rattle.ss_machine_saves.specs.Whole.{is_listed, AreListed}

at_end : (us : List ℕ) (p : ℕ) → slice_get (us ++ p ∷ []) (length us) ≡ Some p
at_end [] p = refl
at_end (u ∷ us) p = at_end us p

last_is : (us : List ℕ) (p q : ℕ) → slice_get (us ++ p ∷ []) (length (us ++ p ∷ []) - 1) ≡ Some q → p ≡ q
last_is us p q e =
    let n : length (us ++ p ∷ []) - 1 ≡ length us = let l = length-append us (p ∷ []) in omega (arith, l) in
    let a : Some p ≡ Some q = sym (at_end us p) ∙ ap (slice_get (us ++ p ∷ [])) (sym n) ∙ e in
    cc

left_or : (a b : Bool) → (a || (b || false)) ≡ true → (a ≡ true) ⊎ (b ≡ true)
left_or true b e = inl refl
left_or false true e = inr refl
left_or false false e = cc

-- the last one is at its full level, so it may leave the list
pub drop_last : (s : List Object) (us vs : List ℕ) (q : ℕ) (r : Option ℕ) → us ≡ vs ++ option_to_list r → slice_get us (length us - 1) ≡ Some q → is_full (object_at s q) ≡ true → AreListed s us → AreListed s vs
drop_last s us vs q None items last full l i x e less = subst (λ ws. is_listed ws i ≡ true) (items ∙ append-nil vs) (l i x e less)
drop_last s us vs q (Some p) items last full l i x e less =
    let same : p ≡ q = last_is vs p q (sym (ap (λ ws. slice_get ws (length ws - 1)) items) ∙ last) in
    let listed : is_listed (vs ++ p ∷ []) i ≡ true = subst (λ ws. is_listed ws i ≡ true) items (l i x e less) in
    ⊎_elim
    (λ there. there)
    (λ here.
    let at : i ≡ q = sym (eqb-true p i here) ∙ same in
    let now : object_at s q ≡ x = ap (object_at s) (sym at) ∙ ap (λ o. unwrap_or o no_object) e in
    let whole : is_full x ≡ true = subst (λ z. is_full z ≡ true) now full in
    cc)
    (left_or (is_listed vs i) (p == i) (sym (list_any-append (λ o. o == i) vs (p ∷ [])) ∙ listed))

-- ---- a loop that asks each item

all_more : {X : Type 0} (p : X → Bool) (xs : List X) (i : ℕ) (x : X) → i < length xs → x ≡ get_or xs i x → list_all p (drop i xs) ≡ (p x && list_all p (drop (i + 1) xs))
all_more p xs i x l is = ap (list_all p) (drop_more xs i x l) ∙ ap (λ y. p y && list_all p (drop (i + 1) xs)) (sym is)

pub one_fails : {X : Type 0} (p : X → Bool) (xs : List X) (i : ℕ) (x : X) (b : Bool) → i < length xs → x ≡ get_or xs i x → p x ≡ false → list_all p (drop i xs) ≡ b → false ≡ b
one_fails p xs i x b l is fails left = sym (ap (λ c. c && list_all p (drop (i + 1) xs)) fails) ∙ sym (all_more p xs i x l is) ∙ left

pub one_holds : {X : Type 0} (p : X → Bool) (xs : List X) (i : ℕ) (x : X) (b : Bool) → i < length xs → x ≡ get_or xs i x → p x ≡ true → list_all p (drop i xs) ≡ b → list_all p (drop (i + 1) xs) ≡ b
one_holds p xs i x b l is holds left = sym (ap (λ c. c && list_all p (drop (i + 1) xs)) holds) ∙ sym (all_more p xs i x l is) ∙ left
