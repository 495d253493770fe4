-- Where no class is the first of a cycle, the classes above each class end within as many steps as there are classes.
use Rattle.std.proofs.Common.{◌≡◌, ◌≢◌, ℕ, zero, suc, ◌+◌, ◌<◌, ◌≤◌, List, length, true, false, eqb, Option, Some, None, refl, sym, ◌∙◌, ap, subst, arith, ⊎_elim}
use Rattle.std.specs.Prelude.{slice_get}
use Rattle.std.specs.List.{list_any, IsDistinct, AllByRecursion}
use Rattle.std.specs.Str.{bytes_eq}
use Rattle.std.proofs.lemmas.Option.{same_Some}
use Rattle.std.proofs.lemmas.Bool.{cases_eq, cases_lt, eq-eqb, eqb-true, ne_eqb, le-ltb, or_cases, false≢true, true≢false}
use Rattle.std.proofs.lemmas.List.Quantifiers.{position-Some}
use Rattle.std.proofs.lemmas.Map.Steps.{length-le_from_distinct_below}
use Rattle.ss_ast.specs.Expressions.{NameTree}
use Rattle.ss_ast.specs.Programs.{ClassTree}
use Rattle.ss_tables.specs.Classes.{above_written, above_in, above, steps_above, chain_from}
use Rattle.ss_resolver_names_rules.specs.Programs.{comes_back, is_first_of_cycle}

module _ (cs : List ClassTree) where
  -- ---- steps

  pub steps_none : (n : ℕ) → steps_above cs n None ≡ None
  steps_none zero = refl
  steps_none (suc n) = refl

  pub steps_sum : (m n : ℕ) (at : Option ℕ) → steps_above cs (n + m) at ≡ steps_above cs m (steps_above cs n at)
  steps_sum m zero at = let e : 0 + m ≡ m = omega arith in ap (λ i. steps_above cs i at) e
  steps_sum m (suc n) None = let e : suc n + m ≡ suc (n + m) = omega arith in ap (λ i. steps_above cs i None) e ∙ sym (steps_none m)
  steps_sum m (suc n) (Some k) = let e : suc n + m ≡ suc (n + m) = omega arith in ap (λ i. steps_above cs i (Some k)) e ∙ steps_sum m n (above cs k)

  written_below : (d : ClassTree) (n : Option NameTree) (j : ℕ) → above_written cs n ≡ Some j → j < length cs
  written_below d None j h = absurd (let x : ⊥ = cc in x)
  written_below d (Some n) j h = (position-Some (λ (c : ClassTree). bytes_eq n.text c.name.text) cs j d h).0

  in_below : (c : Option ClassTree) (j : ℕ) → above_in cs c ≡ Some j → j < length cs
  in_below None j h = absurd (let x : ⊥ = cc in x)
  in_below (Some c) j h = written_below c c.above j h

  above_below : (k j : ℕ) → above cs k ≡ Some j → j < length cs
  above_below k j h = in_below (slice_get cs k) j h

  steps_below : (n : ℕ) (at : Option ℕ) → ((j : ℕ) → at ≡ Some j → j < length cs) → (j : ℕ) → steps_above cs n at ≡ Some j → j < length cs
  steps_below zero at b j h = b j h
  steps_below (suc n) None b j h = absurd (let x : ⊥ = cc in x)
  steps_below (suc n) (Some k) b j h = steps_below n (above cs k) (above_below k) j h

  -- ---- cycles

  -- where one doesn't come back to b before a lower class, there is a lower one on the way to b
  record IsLower (b n : ℕ) (at : Option ℕ) : Type 0 where
    class : ℕ
    steps : ℕ
    soon : steps < n
    there : steps_above cs steps at ≡ Some class
    low : class < b

  back_same : (b n j : ℕ) → j ≡ b → comes_back cs b (suc n) (Some j) ≡ true
  back_same b n j same = rw (eq-eqb j b same) refl

  back_higher : (b n j : ℕ) → j ≢ b → b ≤ j → comes_back cs b (suc n) (Some j) ≡ comes_back cs b n (above cs j)
  back_higher b n j apart high = rw (ne_eqb j b apart, le-ltb j b high) refl

  lower_before : (b n i : ℕ) (at : Option ℕ) → i < n → steps_above cs i at ≡ Some b → comes_back cs b n at ≡ false → IsLower b n at
  lower_before b zero i at l h e = absurd (omega arith)
  lower_before b (suc n) zero None l h e = absurd (let x : ⊥ = cc in x)
  lower_before b (suc n) (suc i) None l h e = absurd (let x : ⊥ = cc in x)
  lower_before b (suc n) zero (Some j) l h e = absurd (true≢false (sym (back_same b n j (same_Some _ _ h)) ∙ e))
  lower_before b (suc n) (suc i) (Some j) l h e =
      ⊎_elim
      (λ same. absurd (true≢false (sym (back_same b n j same) ∙ e)))
      (λ apart. ⊎_elim
      (λ low. record { class = j; steps = 0; soon = omega arith; there = refl; low = low })
      (λ high. let r = lower_before b n i (above cs j) (omega arith) h (sym (back_higher b n j apart high) ∙ e) in
      record { class = r.class; steps = suc r.steps; soon = let s = r.soon in omega arith; there = r.there; low = r.low })
      (cases_lt j b))
      (cases_eq j b)

  module _ (none_first : (k : ℕ) → is_first_of_cycle cs k ≡ false) where
    -- no class is above itself
    no_cycle : (most k n : ℕ) → k < most → n < length cs → steps_above cs (suc n) (Some k) ≡ Some k → ⊥
    no_cycle zero k n l m h = omega arith
    no_cycle (suc most) k n l m h =
        let r = lower_before k (length cs) n (above cs k) m h (none_first k) in
        let there : steps_above cs (suc r.steps) (Some k) ≡ Some r.class = r.there in
        let one = steps_sum (suc n) (suc r.steps) (Some k) in
        let two = steps_sum (suc r.steps) (suc n) (Some k) in
        let e : suc r.steps + suc n ≡ suc n + suc r.steps = omega arith in
        let back : steps_above cs (suc n) (Some r.class) ≡ Some r.class =
        ap (steps_above cs (suc n)) (sym there) ∙ sym one ∙ ap (λ i. steps_above cs i (Some k)) e ∙ two ∙ ap (steps_above cs (suc r.steps)) h ∙ there in
        let low = r.low in
        no_cycle most r.class n (omega arith) m back

    -- ---- chains

    chain_each : (P : ℕ → Type 0) (n : ℕ) (at : Option ℕ) → ((i j : ℕ) → i < n → steps_above cs i at ≡ Some j → P j) → AllByRecursion P (chain_from cs n at)
    chain_each P zero at h = tt
    chain_each P (suc n) None h = tt
    chain_each P (suc n) (Some k) h = (h 0 k (omega arith) refl, chain_each P n (above cs k) (λ i j l e. h (suc i) j (omega arith) e))

    chain_distinct : (n : ℕ) (at : Option ℕ) → n ≤ suc (length cs) → IsDistinct eqb (chain_from cs n at)
    unfolding IsDistinct
    chain_distinct zero at l = tt
    chain_distinct (suc n) None l = tt
    chain_distinct (suc n) (Some k) l =
        (chain_each (λ j. eqb k j ≡ false) n (above cs k) (λ i j s e. ne_eqb k j (λ same. no_cycle (suc k) k i (omega arith) (omega arith) (e ∙ ap Some (sym same)))), chain_distinct n (above cs k) (omega arith))

    chain_length : (n z : ℕ) (at : Option ℕ) → steps_above cs n at ≡ Some z → length (chain_from cs (suc n) at) ≡ suc n
    chain_length zero z None h = absurd (let x : ⊥ = cc in x)
    chain_length zero z (Some k) h = refl
    chain_length (suc n) z None h = absurd (let x : ⊥ = cc in x)
    chain_length (suc n) z (Some k) h = ap suc (chain_length n z (above cs k) h)

  -- what stands on a chain is some steps above
  pub in_chain : (n : ℕ) (at : Option ℕ) (q : ℕ) → list_any (eqb q) (chain_from cs n at) ≡ true → (i : ℕ) × (i < n) × (steps_above cs i at ≡ Some q)
  in_chain zero at q h = absurd (false≢true h)
  in_chain (suc n) None q h = absurd (false≢true h)
  in_chain (suc n) (Some k) q h =
      ⊎_elim
      (λ here. (0, omega arith, ap Some (sym (eqb-true q k here))))
      (λ later. let r = in_chain n (above cs k) q later in (suc r.0, (let l = r.1 in omega arith), r.2))
      (or_cases (eqb q k) (list_any (eqb q) (chain_from cs n (above cs k))) h)

  -- above each class there are no more than there are classes
  pub chain_ends : ((k : ℕ) → is_first_of_cycle cs k ≡ false) → (k : ℕ) → k < length cs → steps_above cs (length cs) (Some k) ≡ None
  chain_ends none_first k l = look (steps_above cs (length cs) (Some k)) refl
    where
      look : (o : Option ℕ) → steps_above cs (length cs) (Some k) ≡ o → o ≡ None
      look None h = refl
      look (Some z) h =
          let size = chain_length none_first (length cs) z (Some k) h in
          let few = length-le_from_distinct_below (chain_from cs (suc (length cs)) (Some k)) (length cs) (chain_distinct none_first (suc (length cs)) (Some k) (omega arith))
          (λ q e. let r = in_chain (suc (length cs)) (Some k) q e in steps_below r.0 (Some k) (λ j s. subst (λ i. i < length cs) (same_Some _ _ s) l) q r.2) in
          absurd (omega arith)
