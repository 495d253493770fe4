-- What numbers stand for, for any kind of form.
use Rattle.std.proofs.Common.{◌≡◌, ℕ, zero, suc, ◌+◌, ◌<◌, ◌≤◌, List, [], ◌∷◌, ◌++◌, length, take, Some, refl, sym, ◌∙◌, ap, subst, inl, inr, ◌⊎◌, ⊎_elim, arith, get_or, add-suc, add-zero, zero-add}
use Rattle.std.proofs.lemmas.List.{get_or_append_left, get_or_at, length_push, length-take}
use Rattle.std.proofs.lemmas.Option.{slice_get-get_or}
use Rattle.std.proofs.lemmas.Bool.{cases_lt}
use Rattle.std.specs.List.{slice_get}
use Rattle.ss_terms_interned.specs.Interned.{trees_from, tree_at, AreInterned}

pub push_cases : {N : Type 0} (ns : List N) (n : N) (t : ℕ) → t < length (ns ++ n ∷ []) → (t < length ns) ⊎ (t ≡ length ns)
push_cases ns n t h = let l = length_push ns n in ⊎_elim (λ a. inl a) (λ a. inr (omega arith)) (cases_lt t (length ns))

pub slice_get-push_cases : {N : Type 0} (ns : List N) (n m : N) (t : ℕ) → slice_get (ns ++ n ∷ []) t ≡ Some m → (slice_get ns t ≡ Some m) ⊎ ((t ≡ length ns) × (n ≡ m))
slice_get-push_cases [] n m zero e = inr (refl, cc)
slice_get-push_cases [] n m (suc t) e = cc
slice_get-push_cases (x ∷ ns) n m zero e = inl e
slice_get-push_cases (x ∷ ns) n m (suc t) e = ⊎_elim (λ a. inl a) (λ a. inr (ap suc a.0, a.1)) (slice_get-push_cases ns n m t e)

pub slice_get-front : {N : Type 0} (m : ℕ) (ns : List N) (k : ℕ) (n : N) → slice_get (take m ns) k ≡ Some n → slice_get ns k ≡ Some n
slice_get-front zero ns k n e = cc
slice_get-front (suc m) [] k n e = e
slice_get-front (suc m) (x ∷ ns) zero n e = e
slice_get-front (suc m) (x ∷ ns) (suc k) n e = slice_get-front m ns k n e

module _ {N T : Type 0} (junk : T) (build : (ℕ → T) → N → T) where
  length-trees_from : (ts : List T) (ns : List N) → length (trees_from junk build ts ns) ≡ length ts + length ns
  length-trees_from ts [] = sym (add-zero (length ts))
  length-trees_from ts (n ∷ ns) =
      let e = length-trees_from (ts ++ build (λ t. get_or ts t junk) n ∷ []) ns in
      let l = length_push ts (build (λ t. get_or ts t junk) n) in
      omega arith

  trees_from-kept : (ts : List T) (ns : List N) (t : ℕ) → t < length ts → get_or (trees_from junk build ts ns) t junk ≡ get_or ts t junk
  trees_from-kept ts [] t h = refl
  trees_from-kept ts (n ∷ ns) t h =
      let x = build (λ t. get_or ts t junk) n in
      let l = length_push ts x in
      let h' : t < length (ts ++ x ∷ []) = omega arith in
      trees_from-kept (ts ++ x ∷ []) ns t h' ∙ get_or_append_left ts (x ∷ []) junk t h

  trees_from-push : (ts : List T) (ns : List N) (n : N) → trees_from junk build ts (ns ++ n ∷ []) ≡ trees_from junk build ts ns ++ build (λ t. get_or (trees_from junk build ts ns) t junk) n ∷ []
  trees_from-push ts [] n = refl
  trees_from-push ts (m ∷ ns) n = trees_from-push (ts ++ build (λ t. get_or ts t junk) m ∷ []) ns n

  pub tree_at-push_old : (ns : List N) (n : N) (t : ℕ) → t < length ns → tree_at junk build (ns ++ n ∷ []) t ≡ tree_at junk build ns t
  unfolding tree_at
  tree_at-push_old ns n t h =
      let l = length-trees_from [] ns in
      let h' : t < length (trees_from junk build [] ns) = omega arith in
      rw trees_from-push (get_or_append_left (trees_from junk build [] ns) _ junk t h')

  pub tree_at-push_new : (ns : List N) (n : N) → tree_at junk build (ns ++ n ∷ []) (length ns) ≡ build (tree_at junk build ns) n
  unfolding tree_at
  tree_at-push_new ns n =
      let l : length (trees_from junk build [] ns) ≡ length ns = omega (arith, length-trees_from [] ns) in
      rw trees_from-push (get_or_at (trees_from junk build [] ns) _ [] junk (length ns) l)

  -- the first forms alone
  trees_from-front : (ts : List T) (m : ℕ) (ns : List N) (t : ℕ) → t < length ts + length (take m ns) → get_or (trees_from junk build ts (take m ns)) t junk ≡ get_or (trees_from junk build ts ns) t junk
  trees_from-front ts zero ns t h = let h' : t < length ts = omega (arith, h, length-take 0 ns) in sym (trees_from-kept ts ns t h')
  trees_from-front ts (suc m) [] t h = refl
  trees_from-front ts (suc m) (n ∷ ns) t h =
      let x = build (λ t. get_or ts t junk) n in
      let l = length_push ts x in
      trees_from-front (ts ++ x ∷ []) m ns t (omega (arith, h, l))

  pub tree_at-front : (m : ℕ) (ns : List N) (t : ℕ) → t < length (take m ns) → tree_at junk build (take m ns) t ≡ tree_at junk build ns t
  unfolding tree_at
  tree_at-front m ns t h = trees_from-front [] m ns t (omega (arith, h))

  pub AreInterned-front : (Below : ℕ → N → Type 0) (Fine : T → Type 0) (m : ℕ) (ns : List N) → AreInterned junk build Below Fine ns → AreInterned junk build Below Fine (take m ns)
  AreInterned-front Below Fine m ns a = record {
    below = λ t n e. a.below t n (slice_get-front m ns t n e);
    fine = λ t h. subst Fine (sym (tree_at-front m ns t h)) (a.fine t (omega (arith, h, length-take m ns)));
    apart = λ i j hi hj e. a.apart i j (omega (arith, hi, length-take m ns)) (omega (arith, hj, length-take m ns)) (sym (tree_at-front m ns i hi) ∙ e ∙ tree_at-front m ns j hj);
  }

  module _ (Below : ℕ → N → Type 0) (Fine : T → Type 0)
      (same : (look look' : ℕ → T) (b : ℕ) → ((t : ℕ) → t < b → look t ≡ look' t) → (n : N) → Below b n → build look n ≡ build look' n) where
    trees_from-built : (ts : List T) (ns : List N) (k : ℕ) (n : N) → slice_get ns k ≡ Some n → Below (length ts + k) n →
        get_or (trees_from junk build ts ns) (length ts + k) junk ≡ build (λ t. get_or (trees_from junk build ts ns) t junk) n
    trees_from-built ts [] k n e p = cc
    trees_from-built ts (m ∷ ns) zero n e p =
        let is_n : m ≡ n = cc in
        let x = build (λ t. get_or ts t junk) m in
        let l = length_push ts x in
        let here : length ts + 0 < length (ts ++ x ∷ []) = omega arith in
        let p' : Below (length ts) n = rw add-zero at p in
        trees_from-kept (ts ++ x ∷ []) ns (length ts + 0) here
        ∙ get_or_at ts x [] junk (length ts + 0) (sym (add-zero (length ts)))
        ∙ ap (build (λ t. get_or ts t junk)) is_n
        ∙ same (λ t. get_or ts t junk) (λ t. get_or (trees_from junk build (ts ++ x ∷ []) ns) t junk) (length ts) (λ t h. sym (trees_from-kept ts (m ∷ ns) t h)) n p'
    trees_from-built ts (m ∷ ns) (suc k) n e p =
        let x = build (λ t. get_or ts t junk) m in
        let l = length_push ts x in
        let sum : length (ts ++ x ∷ []) + k ≡ length ts + suc k = omega (arith, add-suc (length ts) k) in
        let p' : Below (length (ts ++ x ∷ []) + k) n = rw sum p in
        rw (← sum) (trees_from-built (ts ++ x ∷ []) ns k n e p')

    pub tree_at-built : (ns : List N) → AreInterned junk build Below Fine ns → (t : ℕ) (n : N) → slice_get ns t ≡ Some n → tree_at junk build ns t ≡ build (tree_at junk build ns) n
    unfolding tree_at
    tree_at-built ns a t n e =
        let p : Below (0 + t) n = rw zero-add (a.below t n e) in
        let q = trees_from-built [] ns t n e p in
        rw zero-add at q

    module _ (equal : (look : ℕ → T) (b : ℕ) → ((i j : ℕ) → i < b → j < b → look i ≡ look j → i ≡ j) → ((i : ℕ) → i < b → Fine (look i)) → (n n' : N) → Below b n → Below b n' → build look n ≡ build look n' → n ≡ n')
        (upward : (i j : ℕ) → i ≤ j → (n : N) → Below i n → Below j n) where
      -- a new form has a new tree
      new_apart : (ns : List N) → AreInterned junk build Below Fine ns → (n : N) → Below (length ns) n → ((k : ℕ) → slice_get ns k ≡ Some n → ⊥) →
          (i : ℕ) → i < length ns → tree_at junk build ns i ≡ build (tree_at junk build ns) n → ⊥
      new_apart ns a n p absent i h e =
          let there : slice_get ns i ≡ Some (get_or ns i n) = slice_get-get_or ns i n h in
          let m = get_or ns i n in
          let b = tree_at-built ns a i m there in
          let small : Below (length ns) m = upward i (length ns) (omega arith) m (a.below i m there) in
          absent i (there ∙ ap Some (equal (tree_at junk build ns) (length ns) a.apart a.fine m n small p (sym b ∙ e)))

      pub AreInterned-push : (ns : List N) → AreInterned junk build Below Fine ns → (n : N) → Below (length ns) n → Fine (build (tree_at junk build ns) n) → ((k : ℕ) → slice_get ns k ≡ Some n → ⊥) → AreInterned junk build Below Fine (ns ++ n ∷ [])
      AreInterned-push ns a n p good absent = record {
        below = λ t m e. ⊎_elim (λ old. a.below t m old) (λ new. subst (λ i. Below i m) (sym new.0) (subst (λ x. Below (length ns) x) new.1 p)) (slice_get-push_cases ns n m t e);
        fine = λ t h. ⊎_elim
            (λ old. subst Fine (sym (tree_at-push_old ns n t old)) (a.fine t old))
            (λ new. subst Fine (sym (at_new t new)) good)
            (push_cases ns n t h);
        apart = λ i j hi hj e. ⊎_elim
            (λ oi. ⊎_elim
            (λ oj. a.apart i j oi oj (sym (tree_at-push_old ns n i oi) ∙ e ∙ tree_at-push_old ns n j oj))
            (λ nj. absurd (new_apart ns a n p absent i oi (sym (tree_at-push_old ns n i oi) ∙ e ∙ at_new j nj)))
            (push_cases ns n j hj))
            (λ ni. ⊎_elim
            (λ oj. absurd (new_apart ns a n p absent j oj (sym (tree_at-push_old ns n j oj) ∙ sym e ∙ at_new i ni)))
            (λ nj. ni ∙ sym nj)
            (push_cases ns n j hj))
            (push_cases ns n i hi);
      }
        where
          at_new : (j : ℕ) → j ≡ length ns → tree_at junk build (ns ++ n ∷ []) j ≡ build (tree_at junk build ns) n
          at_new j e = ap (tree_at junk build (ns ++ n ∷ [])) e ∙ tree_at-push_new ns n

-- builds that agree on the forms make the same trees
trees_from-same : {N T : Type 0} (junk : T) (build build' : (ℕ → T) → N → T) (ts : List T) (ns : List N) →
    ((look : ℕ → T) (k : ℕ) (n : N) → slice_get ns k ≡ Some n → build look n ≡ build' look n) → trees_from junk build ts ns ≡ trees_from junk build' ts ns
trees_from-same junk build build' ts [] h = refl
trees_from-same junk build build' ts (n ∷ ns) h =
    trees_from-same junk build build' (ts ++ build (λ t. get_or ts t junk) n ∷ []) ns (λ look k m e. h look (suc k) m e)
    ∙ ap (λ x. trees_from junk build' (ts ++ x ∷ []) ns) (h (λ t. get_or ts t junk) 0 n refl)

pub tree_at-same : {N T : Type 0} (junk : T) (build build' : (ℕ → T) → N → T) (ns : List N) →
    ((look : ℕ → T) (k : ℕ) (n : N) → slice_get ns k ≡ Some n → build look n ≡ build' look n) → (t : ℕ) → tree_at junk build ns t ≡ tree_at junk build' ns t
unfolding tree_at
tree_at-same junk build build' ns h t = ap (λ ts. get_or ts t junk) (trees_from-same junk build build' [] ns h)
