-- Arguments that were tested have their sorts, and sentences of well formed parts are well formed.
use Rattle.std.proofs.Common.{◌≡◌, ℕ, List, [], ◌∷◌, ◌++◌, Bool, true, false, not, ◌&&◌, map, Some, None, refl, subst}
use Rattle.std.specs.Prelude.{if◌then◌else◌}
use Rattle.std.proofs.lemmas.Bool.{false≢true, and_parts, and_from}
use Rattle.ss_core.specs.Tree.{ClassTree}
use Rattle.ss_logic.specs.declared.Sort.{Sort}
use Rattle.ss_logic.specs.declared.Sort.TheVariants as sort
use Rattle.ss_logic.specs.Terms.{Symbol, Field, Element, Next, Term, App, Terms, no_terms, term_then, term_list, app, field_sort, has_field, same_sort, same_sorts, takes, sort_of, sorts_of, is_well_sorted, are_well_sorted, have_sorts}
use Rattle.ss_logic.specs.Formulas.{Ready, Formula, is_well_formed, neg}
use Rattle.ss_logic.specs.Equal.{same_term}
use Rattle.ss_logic.proofs.Truth.{equal_sorts}
use Rattle.ss_logic.specs.Shapes.{when, next_of, equal, differ, ready, given, all_of, where_equal, where_different}
use Rattle.ss_logic.proofs.Options.{when_some}
use Rattle.ss_logic_means.specs.Sorts.{HasSort, AreWellFormed}
use Rattle.ss_logic_means.proofs.Sorting.{sorted_one, sorted_two, sorted_three, formed_two, equal_formed, all_formed, more_formed, each_formed, neg_formed}

pub none_some : {A P : Type 0} (y : A) → None ≡ Some y → P
none_some y e = absurd (let no : ⊥ = cc in no)

module _ (cs : List ClassTree) where
  -- the formula is well formed
  abbrev pub F : Formula → Type 0
  F f = is_well_formed cs [] f ≡ true

  abbrev pub All : List Formula → Type 0
  All fs = AreWellFormed cs [] fs

  -- the term has the sort, and no bound name
  abbrev pub S : Sort → Term → Type 0
  S s t = HasSort cs [] s t

  -- each of the terms has its sort
  abbrev pub Sorted : List Sort → List Term → Type 0
  Sorted [] [] = Unit {0}
  Sorted [] (t ∷ ts) = ⊥
  Sorted (s ∷ ss) [] = ⊥
  Sorted (s ∷ ss) (t ∷ ts) = S s t × Sorted ss ts

  -- ---- arguments that were tested

  pub sorted_from : (ss : List Sort) (ts : List Term) → have_sorts cs ss ts ≡ true → Sorted ss ts
  sorted_from [] [] h = tt
  sorted_from [] (t ∷ ts) h = false≢true h
  sorted_from (s ∷ ss) [] h = false≢true h
  sorted_from (s ∷ ss) (t ∷ ts) h =
      let p = and_parts (same_sort (sort_of cs [] t) s && is_well_sorted cs [] t) (have_sorts cs ss ts) h in
      let q = and_parts (same_sort (sort_of cs [] t) s) (is_well_sorted cs [] t) p.0 in
      ((equal_sorts (sort_of cs [] t) s q.0, q.1), sorted_from ss ts p.1)

  pub rest_sorted : (o : Term) → have_sorts cs (sort.Rest ∷ []) (o ∷ []) ≡ true → S sort.Rest o
  rest_sorted o h = (sorted_from (sort.Rest ∷ []) (o ∷ []) h).0

  pub sorted_terms : (ss : List Sort) (ts : Terms) → same_sorts (sorts_of cs [] ts) ss ≡ true → are_well_sorted cs [] ts ≡ true → Sorted ss (term_list ts)
  sorted_terms [] no_terms h k = tt
  sorted_terms [] (term_then t ts) h k = false≢true h
  sorted_terms (s ∷ ss) no_terms h k = false≢true h
  sorted_terms (s ∷ ss) (term_then t ts) h k =
      let p = and_parts (same_sort (sort_of cs [] t) s) (same_sorts (sorts_of cs [] ts) ss) h in
      let q = and_parts (is_well_sorted cs [] t) (are_well_sorted cs [] ts) k in
      ((equal_sorts (sort_of cs [] t) s p.0, q.0), sorted_terms ss ts p.1 q.1)

  -- the arguments of a function that takes these sorts
  pub arguments_sorted : (ss : List Sort) (f : Symbol) (ts : Terms) → (takes cs f (sorts_of cs [] ts) ≡ true → same_sorts (sorts_of cs [] ts) ss ≡ true) → is_well_sorted cs [] (App f ts) ≡ true → Sorted ss (term_list ts)
  arguments_sorted ss f ts sorts h =
      let p = and_parts (takes cs f (sorts_of cs [] ts)) (are_well_sorted cs [] ts) h in
      sorted_terms ss ts (sorts p.0) p.1

  -- ---- what is read in a store

  pub field_sorted : (f : ℕ) → has_field cs f ≡ true → (s o : Term) → S sort.Store s → S sort.Rest o → S (field_sort cs f) (app (Field f) (s ∷ o ∷ []))
  field_sorted f has s o h k = sorted_two cs [] (Field f) sort.Store sort.Rest s o (and_from (has_field cs f) true has refl) h k

  pub element_sorted : (r : Sort) → not (same_sort r sort.Store) ≡ true → (s a i : Term) → S sort.Store s → S sort.Rest a → S sort.Whole i → S r (app (Element r) (s ∷ a ∷ i ∷ []))
  element_sorted r apart s a i h k l = sorted_three cs [] (Element r) sort.Store sort.Rest sort.Whole s a i apart h k l

  pub next_sorted : (s : Term) → S sort.Store s → S sort.Rest (next_of s)
  next_sorted s h = sorted_one cs [] Next sort.Store s refl h

  pub ready_formed : (s o : Term) → S sort.Store s → S sort.Rest o → F (ready s o)
  ready_formed s o h k = formed_two cs [] true Ready sort.Store sort.Rest s o refl h k

  -- ---- sentences

  pub given_formed : (ps : List Formula) (f : Formula) → All ps → F f → F (given ps f)
  given_formed [] f h k = k
  given_formed (p ∷ ps) f h k = all_formed cs [] (map neg (p ∷ ps) ++ f ∷ []) (more_formed cs [] (map neg (p ∷ ps)) (f ∷ []) (each_formed cs [] neg (p ∷ ps) (neg_formed cs []) h) (k, tt))

  pub all_of_formed : (fs : List Formula) → All fs → F (all_of fs)
  all_of_formed [] h = refl
  all_of_formed (f ∷ []) h = h.0
  all_of_formed (f ∷ g ∷ fs) h = all_formed cs [] (f ∷ g ∷ fs) h

  pub by_test : (b : Bool) (fs gs : List Formula) → (b ≡ true → All fs) → All gs → All (if b then fs else gs)
  by_test true fs gs h k = h refl
  by_test false fs gs h k = k

  pub where_equal_formed : (s : Sort) (x y : Term) → S s x → S s y → All (where_equal x y)
  where_equal_formed s x y h k = by_test (same_term x y) [] (equal x y ∷ []) (λ _. tt) (equal_formed cs [] true s x y h k, tt)

  pub where_different_formed : (s : Sort) (x y : Term) (sentences : List Formula → List Formula) → S s x → S s y → ((ps : List Formula) → All ps → All (sentences ps)) → All (where_different x y sentences)
  where_different_formed s x y sentences h k each = by_test (same_term x y) [] (sentences (differ x y ∷ [])) (λ _. tt) (each (differ x y ∷ []) (equal_formed cs [] false s x y h k, tt))

  -- ---- a sentence as an instance

  pub is_formed : (g f : Formula) → g ≡ f → F g → F f
  is_formed g f e h = subst (λ x. is_well_formed cs [] x ≡ true) e h

  pub some_formed : (g f : Formula) → Some g ≡ Some f → F g → F f
  some_formed g f e h = let same : g ≡ f = cc in is_formed g f same h

  pub when_formed : (b : Bool) (g f : Formula) → when b g ≡ Some f → (b ≡ true → F g) → F f
  when_formed b g f e h = let p = when_some b g f e in is_formed g f p.1 (h p.0)
