-- Each instance of a rule that is true in every structure is well formed.
use Rattle.std.proofs.Common.{◌≡◌, ℕ, ℤ, pos, neg_ℤ, ◌-◌, List, [], ◌∷◌, Bool, true, false, not, ◌&&◌, eqb, Option, Some, None, refl, subst}
use Rattle.std.specs.Prelude.{if◌then◌else◌, unsigned_abs, option_map}
use Rattle.std.proofs.lemmas.Bool.{and_parts}
use Rattle.ss_core.specs.Tree.{ClassTree}
use Rattle.ss_core.specs.Chain.{above, sub}
use Rattle.ss_logic.specs.declared.Sort.TheVariants as sort
use Rattle.ss_logic.specs.Terms.{Fixed, Add, Multiply, Quotient, Remainder, Pair, New, NewArray, Term, App, no_terms, term_then, terms_from, app, is_well_sorted, have_sorts}
use Rattle.ss_logic.specs.Formulas.{Formula, neg}
use Rattle.ss_logic.specs.declared.RuleName.{RuleName}
use Rattle.ss_logic.specs.declared.RuleName.TheVariants as rule
use Rattle.ss_logic.specs.Shapes.{number, null_term, class_term, owner_of, next_of, equal, differ, at_most, sub_atom, allocated, group, given, where_equal, literal_of, natural_of, class_of_term}
use Rattle.ss_logic.specs.Rules.{next_is_new, new_is_grouped, group_is_new, store_before, fresh_of, class_fact, class_above, class_apart, are_unrelated, is_class_term, class_pair, class_up, class_two, class_of, pairs_agree, split_of, three_ways, apart_of, division, divided, quorem_of, two_valued, bool_of, numbered, instance_of}
use Rattle.ss_store_rules.specs.Numbers.{is_zero}
use Rattle.ss_logic.proofs.Options.{mapped_some, if_some, and_then_some}
use Rattle.ss_logic_means.proofs.Sorting.{sorted_two, equal_formed, all_formed}
use Rattle.ss_logic_means.proofs.Forming.{negation}
use Rattle.ss_logic_means.proofs.Operating.{number_sorted, null_sorted, at_most_formed}
use Rattle.ss_logic_means.proofs.Contexts.{class_sorted, sub_formed, group_formed, owner_sorted, allocated_formed}
use Rattle.ss_logic_means.proofs.Sentences.{none_some, F, S, sorted_from, rest_sorted, arguments_sorted, next_sorted, given_formed, all_of_formed, where_equal_formed, is_formed, some_formed, when_formed}
use Rattle.ss_logic_means.proofs.ReadingInstances.{read_formed}

module _ (cs : List ClassTree) where
  -- ---- fresh

  next_is_new_formed : (s : Term) → S cs sort.Store s → F cs (next_is_new s)
  next_is_new_formed s h =
      all_of_formed cs (neg (allocated s (next_of s)) ∷ differ (next_of s) null_term ∷ []) (
        negation cs [] (allocated s (next_of s)) (allocated_formed cs [] s h (next_of s) (next_sorted cs s h)),
        (equal_formed cs [] false sort.Rest (next_of s) null_term (next_sorted cs s h) (null_sorted cs []), tt),
      )

  before_sorted : (after s : Term) → is_well_sorted cs [] after ≡ true → store_before after ≡ Some s → S cs sort.Store s
  before_sorted (App (New t) (term_then r no_terms)) s h e =
      let same : r ≡ s = cc in
      subst (λ x. S cs sort.Store x) same (arguments_sorted cs (sort.Store ∷ []) (New t) (terms_from (r ∷ [])) (λ x. x) h).0
  before_sorted (App (NewArray t) (term_then r (term_then n no_terms))) s h e =
      let same : r ≡ s = cc in
      subst (λ x. S cs sort.Store x) same (arguments_sorted cs (sort.Store ∷ sort.Whole ∷ []) (NewArray t) (terms_from (r ∷ n ∷ [])) (λ x. x) h).0
  before_sorted after s h e = none_some s e

  new_owner : (after s : Term) → S cs sort.Store after → store_before after ≡ Some s → S cs sort.Rest (owner_of after (next_of s))
  new_owner after s h e = owner_sorted cs [] after h (next_of s) (next_sorted cs s (before_sorted after s h.1 e))

  new_is_grouped_formed : (after s : Term) → S cs sort.Store after → store_before after ≡ Some s → F cs (new_is_grouped after s)
  new_is_grouped_formed after s h e = group_formed cs [] (owner_of after (next_of s)) (new_owner after s h e)

  group_is_new_formed : (after s o : Term) → S cs sort.Store after → store_before after ≡ Some s → S cs sort.Rest o → F cs (group_is_new after s o)
  group_is_new_formed after s o h e k =
      let before = before_sorted after s h.1 e in
      given_formed cs (allocated s o ∷ []) (differ (owner_of s o) (owner_of after (next_of s))) (allocated_formed cs [] s before o k, tt)
      (equal_formed cs [] false sort.Rest (owner_of s o) (owner_of after (next_of s)) (owner_sorted cs [] s before o k) (new_owner after s h e))

  fresh_one : (s : Term) (f : Formula) → S cs sort.Store s → (b c : Bool) → (if b then Some (next_is_new s) else if c then option_map (new_is_grouped s) (store_before s) else None) ≡ Some f → F cs f
  fresh_one s f h true c e = some_formed cs (next_is_new s) f e (next_is_new_formed s h)
  fresh_one s f h false true e = let p = mapped_some (new_is_grouped s) (store_before s) f e in is_formed cs (new_is_grouped s p.0) f p.2 (new_is_grouped_formed s p.0 h p.1)
  fresh_one s f h false false e = none_some f e

  fresh_formed : (n : ℕ) (ts : List Term) (f : Formula) → fresh_of cs n ts ≡ Some f → F cs f
  fresh_formed n (s ∷ []) f e =
      let p = if_some (have_sorts cs (sort.Store ∷ []) (s ∷ [])) (if eqb n 0 then Some (next_is_new s) else if eqb n 1 then option_map (new_is_grouped s) (store_before s) else None) f e in
      fresh_one s f (sorted_from cs (sort.Store ∷ []) (s ∷ []) p.0).0 (eqb n 0) (eqb n 1) p.1
  fresh_formed n (s ∷ o ∷ []) f e =
      let q = if_some (eqb n 2 && have_sorts cs (sort.Store ∷ sort.Rest ∷ []) (s ∷ o ∷ [])) (option_map (λ before. group_is_new s before o) (store_before s)) f e in
      let a = sorted_from cs (sort.Store ∷ sort.Rest ∷ []) (s ∷ o ∷ []) (and_parts (eqb n 2) (have_sorts cs (sort.Store ∷ sort.Rest ∷ []) (s ∷ o ∷ [])) q.0).1 in
      let p = mapped_some (λ before. group_is_new s before o) (store_before s) f q.1 in
      is_formed cs (group_is_new s p.0 o) f p.2 (group_is_new_formed s p.0 o a.0 p.1 a.1.0)
  fresh_formed n [] f e = none_some f e
  fresh_formed n (a ∷ b ∷ c ∷ ts) f e = none_some f e

  -- ---- class

  -- a term counts as a class
  counts_formed : (x : Term) (t : ℕ) → S cs sort.Rest x → F cs (sub_atom x (class_term t))
  counts_formed x t h = sub_formed cs [] x (class_term t) h (class_sorted cs [] t)

  class_fact_formed : (c t : ℕ) → F cs (class_fact cs c t)
  class_fact_formed c t = either (sub cs c t)
    where
      either : (b : Bool) → F cs (if b then sub_atom (class_term c) (class_term t) else neg (sub_atom (class_term c) (class_term t)))
      either true = refl
      either false = refl

  class_pair_formed : (o p : Option ℕ) (f : Formula) → class_pair cs o p ≡ Some f → F cs f
  class_pair_formed (Some c) (Some t) f e = some_formed cs (class_fact cs c t) f e (class_fact_formed c t)
  class_pair_formed (Some c) None f e = none_some f e
  class_pair_formed None p f e = none_some f e

  class_up_formed : (x : Term) → S cs sort.Rest x → (o : Option ℕ) (f : Formula) → class_up cs x o ≡ Some f → F cs f
  class_up_formed x h (Some t) f e =
      when_formed cs (not (eqb t 0)) (class_above cs x t) f e (λ _.
      given_formed cs (sub_atom x (class_term t) ∷ []) (sub_atom x (class_term (above cs t))) (counts_formed x t h, tt) (counts_formed x (above cs t) h))
  class_up_formed x h None f e = none_some f e

  class_two_formed : (x : Term) → S cs sort.Rest x → (o p : Option ℕ) (f : Formula) → class_two cs x o p ≡ Some f → F cs f
  class_two_formed x h (Some c) (Some t) f e =
      when_formed cs (are_unrelated cs c t) (class_apart x c t) f e (λ _.
      given_formed cs (sub_atom x (class_term c) ∷ []) (neg (sub_atom x (class_term t))) (counts_formed x c h, tt) (negation cs [] (sub_atom x (class_term t)) (counts_formed x t h)))
  class_two_formed x h (Some c) None f e = none_some f e
  class_two_formed x h None p f e = none_some f e

  class_here : (x t : Term) (f : Formula) (b c : Bool) → (c ≡ true → S cs sort.Rest x) →
      (if b then class_pair cs (class_of_term x) (class_of_term t) else if c then class_up cs x (class_of_term t) else None) ≡ Some f → F cs f
  class_here x t f true c h e = class_pair_formed (class_of_term x) (class_of_term t) f e
  class_here x t f false true h e = class_up_formed x (h refl) (class_of_term t) f e
  class_here x t f false false h e = none_some f e

  class_formed : (n : ℕ) (ts : List Term) (f : Formula) → class_of cs n ts ≡ Some f → F cs f
  class_formed n (x ∷ []) f e =
      when_formed cs (eqb n 3 && is_class_term x && have_sorts cs (sort.Rest ∷ []) (x ∷ [])) (sub_atom x x) f e (λ h.
      let k = rest_sorted cs x (and_parts (eqb n 3 && is_class_term x) (have_sorts cs (sort.Rest ∷ []) (x ∷ [])) h).1 in
      sub_formed cs [] x x k k)
  class_formed n (x ∷ t ∷ []) f e =
      class_here x t f (eqb n 0) (eqb n 1 && have_sorts cs (sort.Rest ∷ []) (x ∷ [])) (λ h. rest_sorted cs x (and_parts (eqb n 1) (have_sorts cs (sort.Rest ∷ []) (x ∷ [])) h).1) e
  class_formed n (x ∷ c ∷ t ∷ []) f e =
      let p = if_some (eqb n 2 && have_sorts cs (sort.Rest ∷ []) (x ∷ [])) (class_two cs x (class_of_term c) (class_of_term t)) f e in
      class_two_formed x (rest_sorted cs x (and_parts (eqb n 2) (have_sorts cs (sort.Rest ∷ []) (x ∷ [])) p.0).1) (class_of_term c) (class_of_term t) f p.1
  class_formed n [] f e = none_some f e
  class_formed n (a ∷ b ∷ c ∷ d ∷ ts) f e = none_some f e

  -- ---- split

  pairs_formed : (p q o t u v : Term) → S cs sort.Rest p → S cs sort.Rest q → S cs sort.Rest o → S cs sort.Rest t → S cs sort.Rest u → S cs sort.Rest v → F cs (pairs_agree p q o t u v)
  pairs_formed p q o t u v hp hq ho ht hu hv =
      let same = where_equal_formed cs sort.Rest p q hp hq in
      all_of_formed cs (given (where_equal p q) (equal o u) ∷ given (where_equal p q) (equal t v) ∷ []) (
        given_formed cs (where_equal p q) (equal o u) same (equal_formed cs [] true sort.Rest o u ho hu),
        (given_formed cs (where_equal p q) (equal t v) same (equal_formed cs [] true sort.Rest t v ht hv), tt),
      )

  split_formed : (n : ℕ) (ts : List Term) (f : Formula) → split_of cs n ts ≡ Some f → F cs f
  split_formed n (App Pair ts ∷ []) f e =
      when_formed cs (eqb n 0 && have_sorts cs (sort.Rest ∷ []) (App Pair ts ∷ [])) (neg (group (App Pair ts))) f e (λ h.
      negation cs [] (group (App Pair ts)) (group_formed cs [] (App Pair ts) (rest_sorted cs (App Pair ts) (and_parts (eqb n 0) (have_sorts cs (sort.Rest ∷ []) (App Pair ts ∷ [])) h).1)))
  split_formed n (App Pair (term_then o (term_then t no_terms)) ∷ App Pair (term_then u (term_then v no_terms)) ∷ []) f e =
      let x = app Pair (o ∷ t ∷ []) in
      let y = app Pair (u ∷ v ∷ []) in
      when_formed cs (eqb n 1 && have_sorts cs (sort.Rest ∷ sort.Rest ∷ []) (x ∷ y ∷ [])) (pairs_agree x y o t u v) f e (λ h.
      let k = sorted_from cs (sort.Rest ∷ sort.Rest ∷ []) (x ∷ y ∷ []) (and_parts (eqb n 1) (have_sorts cs (sort.Rest ∷ sort.Rest ∷ []) (x ∷ y ∷ [])) h).1 in
      let a = arguments_sorted cs (sort.Rest ∷ sort.Rest ∷ []) Pair (terms_from (o ∷ t ∷ [])) (λ z. z) k.0.1 in
      let b = arguments_sorted cs (sort.Rest ∷ sort.Rest ∷ []) Pair (terms_from (u ∷ v ∷ [])) (λ z. z) k.1.0.1 in
      pairs_formed x y o t u v k.0 k.1.0 a.0 a.1.0 b.0 b.1.0)
  split_formed n ts f e = none_some f e

  -- ---- whole numbers and truth values

  -- one more than the number is at most the other
  below_formed : (x y : Term) → S cs sort.Whole x → S cs sort.Whole y → F cs (at_most (app Add (x ∷ number (pos 1) ∷ [])) y)
  below_formed x y h k = at_most_formed cs [] (app Add (x ∷ number (pos 1) ∷ [])) y (sorted_two cs [] Add sort.Whole sort.Whole x (number (pos 1)) refl h (number_sorted cs [] (pos 1))) k

  three_ways_formed : (x y : Term) → S cs sort.Whole x → S cs sort.Whole y → F cs (three_ways x y)
  three_ways_formed x y h k =
      all_formed cs [] (equal x y ∷ at_most (app Add (x ∷ number (pos 1) ∷ [])) y ∷ at_most (app Add (y ∷ number (pos 1) ∷ [])) x ∷ [])
      (equal_formed cs [] true sort.Whole x y h k, (below_formed x y h k, (below_formed y x k h, tt)))

  apart_formed : (ts : List Term) (f : Formula) → apart_of cs ts ≡ Some f → F cs f
  apart_formed (x ∷ y ∷ []) f e =
      when_formed cs (have_sorts cs (sort.Whole ∷ sort.Whole ∷ []) (x ∷ y ∷ [])) (three_ways x y) f e (λ h.
      let a = sorted_from cs (sort.Whole ∷ sort.Whole ∷ []) (x ∷ y ∷ []) h in
      three_ways_formed x y a.0 a.1.0)
  apart_formed [] f e = none_some f e
  apart_formed (x ∷ []) f e = none_some f e
  apart_formed (x ∷ y ∷ z ∷ ts) f e = none_some f e

  division_formed : (x : Term) (d : ℤ) → S cs sort.Whole x → F cs (division x d)
  division_formed x d h =
      let y = number d in
      let q = app Quotient (x ∷ y ∷ []) in
      let r = app Remainder (x ∷ y ∷ []) in
      let none = number (pos 0) in
      let most = number (pos (unsigned_abs d - 1)) in
      let least = number (neg_ℤ (pos (unsigned_abs d - 1))) in
      let whole : (n : ℤ) → S cs sort.Whole (number n) = λ n. number_sorted cs [] n in
      let hq = sorted_two cs [] Quotient sort.Whole sort.Whole x y refl h (whole d) in
      let hr = sorted_two cs [] Remainder sort.Whole sort.Whole x y refl h (whole d) in
      let product = app Multiply (y ∷ q ∷ []) in
      let hp = sorted_two cs [] Multiply sort.Whole sort.Whole y q refl (whole d) hq in
      all_of_formed cs (
      equal x (app Add (product ∷ r ∷ []))
      ∷ given (at_most none x ∷ []) (at_most none r)
      ∷ given (at_most x none ∷ []) (at_most r none)
      ∷ at_most r most
      ∷ at_most least r
      ∷ []) (
        equal_formed cs [] true sort.Whole x (app Add (product ∷ r ∷ [])) h (sorted_two cs [] Add sort.Whole sort.Whole product r refl hp hr),
        (
          given_formed cs (at_most none x ∷ []) (at_most none r) (at_most_formed cs [] none x (whole (pos 0)) h, tt) (at_most_formed cs [] none r (whole (pos 0)) hr),
          (
            given_formed cs (at_most x none ∷ []) (at_most r none) (at_most_formed cs [] x none h (whole (pos 0)), tt) (at_most_formed cs [] r none hr (whole (pos 0))),
            (at_most_formed cs [] r most hr (whole (pos (unsigned_abs d - 1))), (at_most_formed cs [] least r (whole (neg_ℤ (pos (unsigned_abs d - 1)))) hr, tt)),
          ),
        ),
      )

  divided_formed : (x : Term) → S cs sort.Whole x → (o : Option ℤ) (f : Formula) → divided x o ≡ Some f → F cs f
  divided_formed x h (Some d) f e = when_formed cs (not (is_zero d)) (division x d) f e (λ _. division_formed x d h)
  divided_formed x h None f e = none_some f e

  quorem_formed : (ts : List Term) (f : Formula) → quorem_of cs ts ≡ Some f → F cs f
  quorem_formed (x ∷ y ∷ []) f e =
      let p = if_some (have_sorts cs (sort.Whole ∷ []) (x ∷ [])) (divided x (literal_of y)) f e in
      divided_formed x (sorted_from cs (sort.Whole ∷ []) (x ∷ []) p.0).0 (literal_of y) f p.1
  quorem_formed [] f e = none_some f e
  quorem_formed (x ∷ []) f e = none_some f e
  quorem_formed (x ∷ y ∷ z ∷ ts) f e = none_some f e

  two_valued_formed : (x : Term) → S cs sort.Truth x → F cs (two_valued x)
  two_valued_formed x h =
      let yes = app (Fixed true) [] in
      let no = app (Fixed false) [] in
      all_formed cs [] (equal x yes ∷ equal x no ∷ []) (equal_formed cs [] true sort.Truth x yes h (refl, refl), (equal_formed cs [] true sort.Truth x no h (refl, refl), tt))

  bool_formed : (ts : List Term) (f : Formula) → bool_of cs ts ≡ Some f → F cs f
  bool_formed (x ∷ []) f e = when_formed cs (have_sorts cs (sort.Truth ∷ []) (x ∷ [])) (two_valued x) f e (λ h. two_valued_formed x (sorted_from cs (sort.Truth ∷ []) (x ∷ []) h).0)
  bool_formed [] f e = none_some f e
  bool_formed (x ∷ y ∷ ts) f e = none_some f e

  -- ---- every rule

  numbered_formed : (sentence : ℕ → List Term → Option Formula) → ((n : ℕ) (ts : List Term) (f : Formula) → sentence n ts ≡ Some f → F cs f) → (ts : List Term) (f : Formula) → numbered sentence ts ≡ Some f → F cs f
  numbered_formed sentence h [] f e = none_some f e
  numbered_formed sentence h (n ∷ ts) f e = let p = and_then_some (λ k. sentence k ts) (natural_of n) f e in h p.0 ts f p.2

  pub instance_formed : (name : RuleName) (ts : List Term) (f : Formula) → instance_of cs name ts ≡ Some f → F cs f
  instance_formed rule.Read ts f e = read_formed cs ts f e
  instance_formed rule.Fresh ts f e = numbered_formed (fresh_of cs) fresh_formed ts f e
  instance_formed rule.Class ts f e = numbered_formed (class_of cs) class_formed ts f e
  instance_formed rule.Split ts f e = numbered_formed (split_of cs) split_formed ts f e
  instance_formed rule.Apart ts f e = apart_formed ts f e
  instance_formed rule.Quorem ts f e = quorem_formed ts f e
  instance_formed rule.Bool ts f e = bool_formed ts f e
