-- Sets that are lists of truth values.
use Rattle.std.proofs.Common.{◌≡◌, ◌≢◌, ℕ, zero, suc, ◌<◌, ◌≤◌, Bool, false, List, [], ◌∷◌, ◌++◌, length, get_or, arith, set, refl, sym, subst, ⊎_elim}
use Rattle.std.proofs.lemmas.Bool.{cases_eq, eq-eqb, ne_eqb}
use Rattle.std.proofs.lemmas.List.{get_or-set_same, get_or-set_other}
use Rattle.ss_paths.specs.Sets.{none, put}
use Rattle.ss_paths.proofs.Among.{same_sets}
use Rattle.ss_bit_set.specs.Marked.{listed}

pub listed_nil : listed [] ≡ none
unfolding listed none
listed_nil = refl

pub listed_put : (bs : List Bool) (n : ℕ) (b : Bool) → n < length bs → listed (set bs n b) ≡ put n b (listed bs)
unfolding listed put
listed_put bs n b within =
    same_sets
    (λ x. ⊎_elim
    (λ (e : n ≡ x). rw (eq-eqb n x e) (subst (λ (y : ℕ). get_or (set bs n b) y false ≡ b) e (get_or-set_same bs n b false within)))
    (λ (ne : n ≢ x). rw (ne_eqb n x ne) (get_or-set_other bs n x b false (λ h. ne (sym h))))
    (cases_eq n x))

more : (bs : List Bool) (x : ℕ) → get_or (bs ++ false ∷ []) x false ≡ get_or bs x false
more [] zero = refl
more [] (suc x) = refl
more (b ∷ bs) zero = refl
more (b ∷ bs) (suc x) = more bs x

pub listed_more : (bs : List Bool) → listed (bs ++ false ∷ []) ≡ listed bs
unfolding listed
listed_more bs = same_sets (λ x. more bs x)

past : (bs : List Bool) (i : ℕ) → length bs ≤ i → get_or bs i false ≡ false
past [] zero l = refl
past [] (suc i) l = refl
past (b ∷ bs) zero l = absurd (omega arith)
past (b ∷ bs) (suc i) l = past bs i (omega arith)

pub listed_past : (bs : List Bool) (i : ℕ) → length bs ≤ i → listed bs i ≡ false
unfolding listed
listed_past bs i l = past bs i l
