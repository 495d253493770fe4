-- The laws of the class chain.
use Rattle.std.proofs.Common.{◌≡◌, ◌≢◌, ℕ, zero, suc, ◌+◌, ◌*◌, ◌<◌, ◌≤◌, List, [], ◌∷◌, length, Bool, true, false, ◌||◌, eqb, refl, sym, ◌∙◌, ap, subst, arith, inl, inr, ◌⊎◌, ⊎_elim}
use Rattle.std.specs.Prelude.{Option, Some, None, slice_get}
use Rattle.std.specs.List.{list_any}
use Rattle.std.proofs.lemmas.Bool.{cases_eq, eq-eqb, ne_eqb, eqb-true, or_left, or_right, or_cases, false≢true, false_from_ne_true}
use Rattle.ss_core.specs.Tree.{ClassTree}
use Rattle.ss_core.specs.Chain.{declared, above, levels_from, most_levels, levels, also, counts_as, sub, below, IsChain, NoAlso}
use Rattle.ss_core.proofs.Declared.{above_undeclared, declared_place}
use Rattle.ss_core.proofs.Levels.{passes, passes_here, passes_above}

-- ---- laws of each table

below-passes : (cs : List ClassTree) (c t : ℕ) → below cs c t ≡ passes cs (λ level. eqb level t) 64 c
unfolding below levels most_levels
below-passes cs c t = refl

pub below_self : (cs : List ClassTree) (c : ℕ) → below cs c c ≡ true
below_self cs c = below-passes cs c c ∙ passes_here cs (λ level. eqb level c) 63 c (eq-eqb c c refl)

pub sub_self : (cs : List ClassTree) (c : ℕ) → sub cs c c ≡ true
unfolding sub levels most_levels
sub_self cs c = passes_here cs (counts_as cs c) 63 c (or_left (eqb c c) (list_any (λ u. eqb u c) (also cs c)) (eq-eqb c c refl))

any_weaker : (p q : ℕ → Bool) → ((x : ℕ) → p x ≡ true → q x ≡ true) → (xs : List ℕ) → list_any p xs ≡ true → list_any q xs ≡ true
any_weaker p q w [] h = h
any_weaker p q w (x ∷ xs) h = ⊎_elim (λ e. or_left (q x) (list_any q xs) (w x e)) (λ e. or_right (q x) (list_any q xs) (any_weaker p q w xs e)) (or_cases (p x) (list_any p xs) h)

any_same : (p q : ℕ → Bool) → ((x : ℕ) → p x ≡ q x) → (xs : List ℕ) → list_any p xs ≡ list_any q xs
any_same p q same [] = refl
any_same p q same (x ∷ xs) = rw (same x, any_same p q same xs) refl

-- a class counts as each of its levels
pub sub_if_below : (cs : List ClassTree) (c t : ℕ) → below cs c t ≡ true → sub cs c t ≡ true
unfolding sub below
sub_if_below cs c t h = any_weaker (λ level. eqb level t) (counts_as cs t) (λ level e. or_left (eqb level t) (list_any (λ u. eqb u t) (also cs level)) e) (levels cs c) h

-- and as nothing else, where nothing stands beside the levels
pub sub-below : (cs : List ClassTree) → NoAlso cs → (c t : ℕ) → sub cs c t ≡ below cs c t
unfolding sub below
sub-below cs none c t = any_same (counts_as cs t) (λ level. eqb level t) (λ level. rw (none level) (or_false (eqb level t))) (levels cs c)
  where
    or_false : (b : Bool) → (b || false) ≡ b
    or_false true = refl
    or_false false = refl

pub levels_object : (cs : List ClassTree) → levels cs 0 ≡ 0 ∷ []
unfolding levels most_levels
levels_object cs = refl

-- `object` is below itself alone
pub object_below : (cs : List ClassTree) (t : ℕ) → below cs 0 t ≡ true → t ≡ 0
unfolding below
object_below cs t h =
    ⊎_elim
    (λ e. sym (eqb-true 0 t e))
    (λ e. absurd (false≢true e))
    (or_cases (eqb 0 t) false (rw (levels_object cs) at h))

-- ---- more levels than there are add none

no_fewer : (cs : List ClassTree) (n m c : ℕ) → n ≤ m → passes cs (λ level. eqb level 0) n c ≡ true → levels_from cs m c ≡ levels_from cs n c
no_fewer cs zero m c l h = absurd (false≢true h)
no_fewer cs (suc n) zero c l h = absurd (omega arith)
no_fewer cs (suc n) (suc m) c l h =
    ⊎_elim
    (λ z. rw (eq-eqb c 0 z) refl)
    (λ nz. let e : passes cs (λ level. eqb level 0) n (above cs c) ≡ true = sym (passes_above cs (λ level. eqb level 0) n c nz (ne_eqb c 0 nz)) ∙ h in
    rw (ne_eqb c 0 nz) (ap (λ xs. c ∷ xs) (no_fewer cs n m (above cs c) (omega arith) e)))
    (cases_eq c 0)

-- a rank below 64 that falls to the class above ends in `object`
ranked : (cs : List ClassTree) (rank : ℕ → ℕ) → ((t : ℕ) → t ≢ 0 → rank (above cs t) < rank t) → (n c : ℕ) → rank c < n → passes cs (λ level. eqb level 0) n c ≡ true
ranked cs rank falls zero c l = absurd (omega arith)
ranked cs rank falls (suc n) c l =
    ⊎_elim
    (λ z. passes_here cs (λ level. eqb level 0) n c (eq-eqb c 0 z))
    (λ nz. let f = falls c nz in passes_above cs (λ level. eqb level 0) n c nz (ne_eqb c 0 nz) ∙ ranked cs rank falls n (above cs c) (omega arith))
    (cases_eq c 0)

pub ends_by_rank : (cs : List ClassTree) (rank : ℕ → ℕ) → ((t : ℕ) → rank t < 64) → ((t : ℕ) → t ≢ 0 → rank (above cs t) < rank t) → (t : ℕ) → below cs t 0 ≡ true
ends_by_rank cs rank low falls t = below-passes cs t 0 ∙ ranked cs rank falls 64 t (low t)

-- `object` is above a class that isn't declared
ends_undeclared : (cs : List ClassTree) (t : ℕ) → declared cs t ≡ None → below cs t 0 ≡ true
ends_undeclared cs t h =
    below-passes cs t 0 ∙
    ⊎_elim
    (λ z. passes_here cs (λ level. eqb level 0) 63 t (eq-eqb t 0 z))
    (λ nz. passes_above cs (λ level. eqb level 0) 63 t nz (ne_eqb t 0 nz) ∙ passes_here cs (λ level. eqb level 0) 62 (above cs t) (ap (λ u. eqb u 0) (above_undeclared cs t h)))
    (cases_eq t 0)

-- so only declared classes have to be looked at
pub ends_if_declared : (cs : List ClassTree) → ((k : ℕ) (c : ClassTree) → slice_get cs k ≡ Some c → below cs (4 + 2 * k) 0 ≡ true) → (t : ℕ) → below cs t 0 ≡ true
ends_if_declared cs each t = look (declared cs t) refl
  where
    look : (o : Option ClassTree) → declared cs t ≡ o → below cs t 0 ≡ true
    look None h = ends_undeclared cs t h
    look (Some c) h = let p = declared_place cs t c h in rw p.1 (each p.0 c p.2)

-- ---- laws of a chain that ends in `object`

module _ (cs : List ClassTree) (chain : IsChain cs) where
  pub levels_up : (c : ℕ) → c ≢ 0 → levels cs c ≡ c ∷ levels cs (above cs c)
  unfolding levels most_levels
  levels_up c nz =
      let e : passes cs (λ level. eqb level 0) 64 c ≡ true = sym (below-passes cs c 0) ∙ chain.ends c in
      let e' : passes cs (λ level. eqb level 0) 63 (above cs c) ≡ true = sym (passes_above cs (λ level. eqb level 0) 63 c nz (ne_eqb c 0 nz)) ∙ e in
      let same : levels_from cs 64 (above cs c) ≡ levels_from cs 63 (above cs c) = no_fewer cs 63 64 (above cs c) (omega arith) e' in
      let one : levels_from cs 64 c ≡ c ∷ levels_from cs 63 (above cs c) = first_of_many 63 c nz in
      rw same one
    where
      first_of_many : (n c : ℕ) → c ≢ 0 → levels_from cs (suc n) c ≡ c ∷ levels_from cs n (above cs c)
      first_of_many n c nz = rw (ne_eqb c 0 nz) refl

  pub below_up : (c t : ℕ) → c ≢ 0 → below cs c t ≡ (eqb c t || below cs (above cs c) t)
  unfolding below
  below_up c t nz = rw (levels_up c nz) refl

  pub sub_up : (c t : ℕ) → c ≢ 0 → sub cs c t ≡ (counts_as cs t c || sub cs (above cs c) t)
  unfolding sub
  sub_up c t nz = rw (levels_up c nz) refl

  -- what is below a class is that class, or below the class above it
  below_split : (c t : ℕ) → c ≢ 0 → below cs c t ≡ true → (c ≡ t) ⊎ (below cs (above cs c) t ≡ true)
  below_split c t nz h = ⊎_elim (λ e. inl (eqb-true c t e)) (λ e. inr e) (or_cases (eqb c t) (below cs (above cs c) t) (sym (below_up c t nz) ∙ h))

  below_more : (c t : ℕ) → c ≢ 0 → below cs (above cs c) t ≡ true → below cs c t ≡ true
  below_more c t nz h = below_up c t nz ∙ or_right (eqb c t) (below cs (above cs c) t) h

  -- how many levels a class has
  abbrev depth : ℕ → ℕ
  depth c = length (levels cs c)

  falls : (c : ℕ) → c ≢ 0 → depth c ≡ depth (above cs c) + 1
  falls c nz = rw (levels_up c nz) (omega arith)

  walk : (P : ℕ → Type 0) → P 0 → ((c : ℕ) → c ≢ 0 → P (above cs c) → P c) → (n c : ℕ) → depth c ≤ n → P c
  walk P last step zero c l =
      ⊎_elim
      (λ z. subst P (sym z) last)
      (λ nz. let f = falls c nz in absurd (omega arith))
      (cases_eq c 0)
  walk P last step (suc n) c l =
      ⊎_elim
      (λ z. subst P (sym z) last)
      (λ nz. let f = falls c nz in step c nz (walk P last step n (above cs c) (omega arith)))
      (cases_eq c 0)

  -- what holds of `object`, and of a class where it holds of the one above it, holds of each class
  pub induct_up : (P : ℕ → Type 0) → P 0 → ((c : ℕ) → c ≢ 0 → P (above cs c) → P c) → (c : ℕ) → P c
  induct_up P last step c = walk P last step (depth c) c (omega arith)

  -- each class is below `object`
  pub below_object : (c : ℕ) → below cs c 0 ≡ true
  below_object c = chain.ends c

  pub below_trans : (a b c : ℕ) → below cs a b ≡ true → below cs b c ≡ true → below cs a c ≡ true
  below_trans a b c h g =
      induct_up (λ x. below cs x b ≡ true → below cs x c ≡ true)
      (λ e. let z = object_below cs b e in subst (λ x. below cs x c ≡ true) z g)
      (λ x nz up e. ⊎_elim (λ same. rw same g) (λ e'. below_more x c nz (up e')) (below_split x b nz e))
      a h

  rises : (a b : ℕ) → below cs a b ≡ true → depth b ≤ depth a
  rises a b h =
      induct_up (λ x. below cs x b ≡ true → depth b ≤ depth x)
      (λ e. let z = object_below cs b e in rw z (omega arith))
      (λ x nz up e. let f = falls x nz in ⊎_elim (λ same. rw same (omega arith)) (λ e'. let u = up e' in omega arith) (below_split x b nz e))
      a h

  -- the class above a class isn't below it
  pub below_acyclic : (c : ℕ) → c ≢ 0 → below cs (above cs c) c ≡ false
  below_acyclic c nz = false_from_ne_true _ (λ h. let f = falls c nz in let r = rises (above cs c) c h in absurd (omega arith))

  pub below_antisym : (a b : ℕ) → below cs a b ≡ true → below cs b a ≡ true → a ≡ b
  below_antisym a b h g =
      ⊎_elim
      (λ z. z ∙ sym (object_below cs b (rw z at h)))
      (λ nz. ⊎_elim (λ same. same) (λ e. absurd (false≢true (sym (below_acyclic a nz) ∙ below_trans (above cs a) b a e g))) (below_split a b nz h))
      (cases_eq a 0)

  -- of two classes above a third one is below the other
  pub below_fork : (c a b : ℕ) → below cs c a ≡ true → below cs c b ≡ true → (below cs a b ≡ true) ⊎ (below cs b a ≡ true)
  below_fork c a b h g =
      induct_up (λ x. below cs x a ≡ true → below cs x b ≡ true → (below cs a b ≡ true) ⊎ (below cs b a ≡ true))
      (λ e e'. let z = object_below cs a e in inr (rw z (below_object b)))
      (λ x nz up e e'. ⊎_elim
      (λ same. inl (rw (← same) e'))
      (λ over. ⊎_elim (λ same. inr (rw (← same) e)) (λ over'. up over over') (below_split x b nz e'))
      (below_split x a nz e))
      c h g

  -- a class counts as what each class above it counts as
  pub sub_trans : (a b t : ℕ) → below cs a b ≡ true → sub cs b t ≡ true → sub cs a t ≡ true
  sub_trans a b t h g =
      induct_up (λ x. below cs x b ≡ true → sub cs x t ≡ true)
      (λ e. let z = object_below cs b e in subst (λ x. sub cs x t ≡ true) z g)
      (λ x nz up e. ⊎_elim (λ same. rw same g) (λ e'. sub_up x t nz ∙ or_right (counts_as cs t x) (sub cs (above cs x) t) (up e')) (below_split x b nz e))
      a h

  -- above a class that isn't declared, as an array class, is `object` alone
  pub below_undeclared : (c t : ℕ) → declared cs c ≡ None → below cs c t ≡ true → (c ≡ t) ⊎ (t ≡ 0)
  below_undeclared c t h g =
      ⊎_elim
      (λ z. inr (object_below cs t (rw z at g)))
      (λ nz. ⊎_elim (λ same. inl same) (λ e. inr (object_below cs t (rw (above_undeclared cs c h) at e))) (below_split c t nz g))
      (cases_eq c 0)
