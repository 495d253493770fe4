-- What the rules say is true in every structure.
use Rattle.std.proofs.Common.{◌≡◌, ℕ, zero, suc, ◌<◌, ℤ, pos, negsuc, neg_ℤ, ◌-◌, List, [], ◌∷◌, Bool, true, false, not, ◌&&◌, ◌||◌, eqb, Option, Some, None, refl, sym, ◌∙◌, ap, subst, arith, ⊎_elim}
use Rattle.std.specs.Prelude.{if◌then◌else◌, unsigned_abs, option_map}
use Rattle.std.proofs.lemmas.Bool.{false≢true, true≢false, and_parts, ltb-true, eq-eqb}
use Rattle.ss_core.specs.Tree.{ClassTree}
use Rattle.ss_core.specs.Chain.{above, sub, below, IsChain, NoAlso}
use Rattle.ss_core.proofs.Chains.{sub_self, below_self, sub-below, sub_if_below, below_trans, below_up, below_fork}
use Rattle.ss_logic.specs.declared.Sort.TheVariants as sort
use Rattle.ss_logic.specs.Values.{Thing, reference, class_name, group_number, owner_pair, is_group, Entry, Value, whole, truth, thing, store, sort_of_value, as_thing, as_whole, as_store, as_truth, Structure}
use Rattle.ss_logic.specs.Terms.{ClassName, Add, Multiply, Quotient, Remainder, TypeOf, Level, Pair, New, NewArray, Term, App, no_terms, term_then, app, same_sorts, takes, sort_of, is_well_sorted, are_well_sorted, have_sorts}
use Rattle.ss_logic.specs.Formulas.{Formula, AreOf, is_below, neg}
use Rattle.ss_logic.proofs.Stable.{same_thing_refl}
use Rattle.ss_logic.proofs.Truth.{AreOf-values, AllClosed-sorts, values}
use Rattle.ss_logic.proofs.Numbered.{store_numbered}
use Rattle.ss_logic.specs.declared.RuleName.{RuleName}
use Rattle.ss_logic.specs.declared.RuleName.TheVariants as rule
use Rattle.ss_logic.specs.Shapes.{when, number, null_term, class_term, owner_of, next_of, equal, differ, at_most, sub_atom, allocated, given, where_equal, literal_of, natural_of, class_of_term}
use Rattle.ss_logic.specs.Rules.{next_is_new, new_is_grouped, group_is_new, store_before, fresh_of, class_fact, are_unrelated, stands_beside, is_class_term, class_pair, class_up, class_two, class_of, pairs_agree, split_of, apart_of, division, divided, quorem_of, bool_of, numbered, instance_of}
use Rattle.ss_store_rules.specs.Numbers.{is_zero}
use Rattle.ss_logic.proofs.Sentences.{T, V, given_true, all_true, equal_values}
use Rattle.ss_logic.proofs.Numbers.{three_ways_true, division_sum, rem_up, rem_down, rem_upper, rem_lower}
use Rattle.ss_logic.proofs.Options.{mapped_some, if_some, and_then_some}
use Rattle.ss_logic.proofs.Looking.{thing_value, whole_value, sorts_values, closed_list, read_true}

truth_value : (v : Value) → sort_of_value v ≡ sort.Truth → v ≡ truth (as_truth v)
truth_value (truth n) e = refl
truth_value (whole n) e = let no : ⊥ = cc in absurd no
truth_value (thing n) e = let no : ⊥ = cc in absurd no
truth_value (store n) e = let no : ⊥ = cc in absurd no

not_false : (b : Bool) → not b ≡ true → b ≡ false
not_false true h = absurd (false≢true h)
not_false false h = refl

if_yes : {A : Type 0} (b : Bool) (x y : A) → b ≡ true → (if b then x else y) ≡ x
if_yes true x y h = refl
if_yes false x y h = absurd (false≢true h)

none_some : {A P : Type 0} (y : A) → None ≡ Some y → P
none_some y e = absurd (let no : ⊥ = cc in no)

from_when : {A P : Type 0} (b : Bool) (a y : A) → when b a ≡ Some y → (b ≡ true → a ≡ y → P) → P
from_when true a y h k = k refl cc
from_when false a y h k = none_some y h

module _ (cs : List ClassTree) (m : Structure) where
  -- a term as the last step of an instance
  is_true : (g f : Formula) → g ≡ f → T cs m g → T cs m f
  is_true g f e t = subst (λ x. T cs m x) e t

  some_is : (g f : Formula) → Some g ≡ Some f → T cs m g → T cs m f
  some_is g f e t = let same : g ≡ f = cc in is_true g f same t

  -- ---- fresh

  next_is_new_true : (s : Term) → T cs m (next_is_new s)
  next_is_new_true s = all_true cs m (neg (allocated s (next_of s)) ∷ differ (next_of s) null_term ∷ [])
      ((λ t. let n = (as_store (V cs m s)).next in let l = ltb-true (as_store (V cs m s)).next (as_store (V cs m s)).next t in omega (arith, l)), ((λ e. let no : ⊥ = cc in no), tt))

  -- the owner of the new object
  new_owner : (s after : Term) → store_before after ≡ Some s → V cs m (owner_of after (next_of s)) ≡ thing (group_number (as_store (V cs m s)).next)
  new_owner s (App (New t) (term_then r no_terms)) e =
      let same : r ≡ s = cc in
      subst (λ x. V cs m (owner_of (app (New t) (x ∷ [])) (next_of s)) ≡ thing (group_number (as_store (V cs m s)).next)) (sym same)
      (ap (λ (x : Entry). thing x.owner) (if_yes _ _ _ (same_thing_refl (reference (as_store (V cs m s)).next))))
  new_owner s (App (NewArray t) (term_then r (term_then n no_terms))) e =
      let same : r ≡ s = cc in
      subst (λ x. V cs m (owner_of (app (NewArray t) (x ∷ n ∷ [])) (next_of s)) ≡ thing (group_number (as_store (V cs m s)).next)) (sym same)
      (ap (λ (x : Entry). thing x.owner) (if_yes _ _ _ (same_thing_refl (reference (as_store (V cs m s)).next))))
  new_owner s after e = none_some s e

  new_is_grouped_true : (after s : Term) → store_before after ≡ Some s → T cs m (new_is_grouped after s)
  new_is_grouped_true after s e = ap (λ v. is_group (as_thing v)) (new_owner s after e)

  group_is_new_true : (after s o : Term) → store_before after ≡ Some s → T cs m (group_is_new after s o)
  group_is_new_true after s o e =
      given_true cs m (allocated s o ∷ []) (differ (owner_of s o) (owner_of after (next_of s))) (λ h same.
      let p = store_numbered cs m s (as_thing (V cs m o)) (as_store (V cs m s)).next (ap as_thing (same ∙ new_owner s after e)) in
      let l = ltb-true (as_store (V cs m s)).next (as_store (V cs m s)).next p.1 in
      omega (arith, l))

  fresh_one : (n : ℕ) (s : Term) (f : Formula) → (b c : Bool) → (if b then Some (next_is_new s) else if c then option_map (new_is_grouped s) (store_before s) else None) ≡ Some f → T cs m f
  fresh_one n s f true c e = some_is (next_is_new s) f e (next_is_new_true s)
  fresh_one n s f false true e = let p = mapped_some (new_is_grouped s) (store_before s) f e in is_true _ f p.2 (new_is_grouped_true s p.0 p.1)
  fresh_one n s f false false e = none_some f e

  fresh_true : (n : ℕ) (ts : List Term) (f : Formula) → fresh_of cs n ts ≡ Some f → T cs m f
  fresh_true n (s ∷ []) f e = fresh_one n s f (eqb n 0) (eqb n 1) (if_some _ _ f e).1
  fresh_true n (s ∷ o ∷ []) f e =
      let q = if_some _ (option_map (λ before. group_is_new s before o) (store_before s)) f e in
      let p = mapped_some (λ before. group_is_new s before o) (store_before s) f q.1 in
      is_true _ f p.2 (group_is_new_true s p.0 o p.1)
  fresh_true n [] f e = none_some f e
  fresh_true n (a ∷ b ∷ c ∷ ts) f e = none_some f e

  -- ---- split

  pairs_true : (p q o t u v : Term) → V cs m p ≡ thing (owner_pair (as_thing (V cs m o)) (as_thing (V cs m t))) → V cs m q ≡ thing (owner_pair (as_thing (V cs m u)) (as_thing (V cs m v))) →
      sort_of_value (V cs m o) ≡ sort.Rest → sort_of_value (V cs m t) ≡ sort.Rest → sort_of_value (V cs m u) ≡ sort.Rest → sort_of_value (V cs m v) ≡ sort.Rest → T cs m (pairs_agree p q o t u v)
  pairs_true p q o t u v ep eq ro rt ru rv =
      let same = λ (h : V cs m p ≡ V cs m q). sym ep ∙ h ∙ eq in
      all_true cs m (given (where_equal p q) (equal o u) ∷ given (where_equal p q) (equal t v) ∷ []) (
        given_true cs m (where_equal p q) (equal o u) (λ h. thing_value _ ro ∙ ap thing (first_part _ _ _ _ (same (equal_values cs m p q h))) ∙ sym (thing_value _ ru)),
        (given_true cs m (where_equal p q) (equal t v) (λ h. thing_value _ rt ∙ ap thing (second_part _ _ _ _ (same (equal_values cs m p q h))) ∙ sym (thing_value _ rv)), tt),
      )
    where
      first_part : (a b c d : Thing) → thing (owner_pair a b) ≡ thing (owner_pair c d) → a ≡ c
      first_part a b c d e = cc

      second_part : (a b c d : Thing) → thing (owner_pair a b) ≡ thing (owner_pair c d) → b ≡ d
      second_part a b c d e = cc

  rest_sorts : (o t : Term) → same_sorts (sort_of cs [] o ∷ sort_of cs [] t ∷ []) (sort.Rest ∷ sort.Rest ∷ []) ≡ true → are_well_sorted cs [] (term_then o (term_then t no_terms)) ≡ true → AreOf (sort.Rest ∷ sort.Rest ∷ []) (values cs m (o ∷ t ∷ []))
  rest_sorts o t h k = sorts_values cs m (sort.Rest ∷ sort.Rest ∷ []) (o ∷ t ∷ []) h (closed_list cs m (term_then o (term_then t no_terms)) k)

  pair_sorts : (o t : Term) → is_well_sorted cs [] (app Pair (o ∷ t ∷ [])) ≡ true → AreOf (sort.Rest ∷ sort.Rest ∷ []) (values cs m (o ∷ t ∷ []))
  pair_sorts o t h = let p = and_parts (takes cs Pair (sort_of cs [] o ∷ sort_of cs [] t ∷ [])) (are_well_sorted cs [] (term_then o (term_then t no_terms))) h in rest_sorts o t p.0 p.1

  pair_parts : (o t u v : Term) → have_sorts cs (sort.Rest ∷ sort.Rest ∷ []) (app Pair (o ∷ t ∷ []) ∷ app Pair (u ∷ v ∷ []) ∷ []) ≡ true →
      AreOf (sort.Rest ∷ sort.Rest ∷ []) (values cs m (o ∷ t ∷ [])) × AreOf (sort.Rest ∷ sort.Rest ∷ []) (values cs m (u ∷ v ∷ []))
  pair_parts o t u v h =
      let c = AllClosed-sorts cs (sort.Rest ∷ sort.Rest ∷ []) (app Pair (o ∷ t ∷ []) ∷ app Pair (u ∷ v ∷ []) ∷ []) h in
      (pair_sorts o t c.0, pair_sorts u v c.1.0)

  split_true : (n : ℕ) (ts : List Term) (f : Formula) → split_of cs n ts ≡ Some f → T cs m f
  split_true n (App Pair ts ∷ []) f e = from_when _ _ f e (λ _ same. is_true _ f same (λ t. false≢true t))
  split_true n (App Pair (term_then o (term_then t no_terms)) ∷ App Pair (term_then u (term_then v no_terms)) ∷ []) f e =
      from_when _ _ f e (λ h same. is_true _ f same
      (let k = (and_parts (eqb n 1) (have_sorts cs (sort.Rest ∷ sort.Rest ∷ []) (app Pair (o ∷ t ∷ []) ∷ app Pair (u ∷ v ∷ []) ∷ [])) h).1 in
      let a = pair_parts o t u v k in
      pairs_true (app Pair (o ∷ t ∷ [])) (app Pair (u ∷ v ∷ [])) o t u v refl refl a.0.0 a.0.1.0 a.1.0 a.1.1.0))
  split_true n ts f e = none_some f e

  -- ---- whole numbers and truth values

  apart_true : (ts : List Term) (f : Formula) → apart_of cs ts ≡ Some f → T cs m f
  apart_true (x ∷ y ∷ []) f e = from_when _ _ f e (λ h same. is_true _ f same
      (let a = AreOf-values cs m (sort.Whole ∷ sort.Whole ∷ []) (x ∷ y ∷ []) h in
      λ n. three_ways_true (as_whole (V cs m x)) (as_whole (V cs m y))
      (λ q. n.0 (whole_value _ a.0 ∙ ap whole q ∙ sym (whole_value _ a.1.0)))
      (λ q. n.1.0 q)
      (λ q. n.1.1.0 q)))
  apart_true [] f e = none_some f e
  apart_true (x ∷ []) f e = none_some f e
  apart_true (x ∷ y ∷ z ∷ ts) f e = none_some f e

  abs_positive : (d : ℤ) → not (is_zero d) ≡ true → 0 < unsigned_abs d
  abs_positive (pos zero) h = absurd (false≢true h)
  abs_positive (pos (suc n)) h = omega arith
  abs_positive (negsuc n) h = omega arith

  division_true : (x : Term) (d : ℤ) → sort_of_value (V cs m x) ≡ sort.Whole → not (is_zero d) ≡ true → T cs m (division x d)
  division_true x d w z =
      let a = as_whole (V cs m x) in
      let h = abs_positive d z in
      let y = number d in
      let r = app Remainder (x ∷ y ∷ []) in
      all_true cs m (
      equal x (app Add (app Multiply (y ∷ app Quotient (x ∷ y ∷ []) ∷ []) ∷ r ∷ []))
      ∷ given (at_most (number (pos 0)) x ∷ []) (at_most (number (pos 0)) r)
      ∷ given (at_most x (number (pos 0)) ∷ []) (at_most r (number (pos 0)))
      ∷ at_most r (number (pos (unsigned_abs d - 1)))
      ∷ at_most (number (neg_ℤ (pos (unsigned_abs d - 1)))) r
      ∷ []) (
        whole_value _ w ∙ ap whole (division_sum a d),
        (
          given_true cs m (at_most (number (pos 0)) x ∷ []) (at_most (number (pos 0)) (app Remainder (x ∷ number d ∷ []))) (λ k. rem_up a d k.0),
          (
            given_true cs m (at_most x (number (pos 0)) ∷ []) (at_most (app Remainder (x ∷ number d ∷ [])) (number (pos 0))) (λ k. rem_down a d k.0),
            (rem_upper a d h, (rem_lower a d h, tt)),
          ),
        ),
      )

  quorem_true : (ts : List Term) (f : Formula) → quorem_of cs ts ≡ Some f → T cs m f
  quorem_true (x ∷ y ∷ []) f e =
      let p = if_some (have_sorts cs (sort.Whole ∷ []) (x ∷ [])) (divided x (literal_of y)) f e in
      by_literal (literal_of y) (AreOf-values cs m (sort.Whole ∷ []) (x ∷ []) p.0).0 p.1
    where
      by_literal : (o : Option ℤ) → sort_of_value (V cs m x) ≡ sort.Whole → divided x o ≡ Some f → T cs m f
      by_literal (Some d) w q = from_when _ _ f q (λ z same. is_true _ f same (division_true x d w z))
      by_literal None w q = none_some f q
  quorem_true [] f e = none_some f e
  quorem_true (x ∷ []) f e = none_some f e
  quorem_true (x ∷ y ∷ z ∷ ts) f e = none_some f e

  two_true : (v : Value) (b : Bool) → v ≡ truth b → (v ≡ truth true → ⊥) → (v ≡ truth false → ⊥) → ⊥
  two_true v true e yes_ no_ = yes_ e
  two_true v false e yes_ no_ = no_ e

  bool_true : (ts : List Term) (f : Formula) → bool_of cs ts ≡ Some f → T cs m f
  bool_true (x ∷ []) f e = from_when _ _ f e (λ h same. is_true _ f same
      (λ n. two_true (V cs m x) _ (truth_value _ (AreOf-values cs m (sort.Truth ∷ []) (x ∷ []) h).0) n.0 n.1.0))
  bool_true [] f e = none_some f e
  bool_true (x ∷ y ∷ ts) f e = none_some f e

  -- ---- classes

  module _ (chain : IsChain cs) (none : NoAlso cs) where
    sub_from : (c t : ℕ) → sub cs c t ≡ true → below cs c t ≡ true
    sub_from c t h = sym (sub-below cs none c t) ∙ h

    class_fact_true : (c t : ℕ) → T cs m (class_fact cs c t)
    class_fact_true c t = decided (sub cs c t) refl
      where
        decided : (b : Bool) → sub cs c t ≡ b → T cs m (if b then sub_atom (class_term c) (class_term t) else neg (sub_atom (class_term c) (class_term t)))
        decided true h = h
        decided false h = λ k. false≢true (sym h ∙ k)

    below_above : (t : ℕ) → not (eqb t 0) ≡ true → below cs t (above cs t) ≡ true
    below_above t z =
        let nz = λ (e : t ≡ 0). true≢false (sym (eq-eqb t 0 e) ∙ not_false (eqb t 0) z) in
        below_up cs chain t (above cs t) nz ∙ or_last (eqb t (above cs t)) (below cs (above cs t) (above cs t)) (below_self cs (above cs t))
      where
        or_last : (a b : Bool) → b ≡ true → (a || b) ≡ true
        or_last true b h = refl
        or_last false b h = h

    up_thing : (x : Thing) (t : ℕ) → not (eqb t 0) ≡ true → is_below cs x (class_name t) ≡ true → is_below cs x (class_name (above cs t)) ≡ true
    up_thing (class_name c) t z h = sub_if_below cs c (above cs t) (below_trans cs chain c t (above cs t) (sub_from c t h) (below_above t z))
    up_thing x t z h = absurd (false≢true h)

    apart_thing : (x : Thing) (c t : ℕ) → are_unrelated cs c t ≡ true → is_below cs x (class_name c) ≡ true → is_below cs x (class_name t) ≡ true → ⊥
    apart_thing (class_name d) c t u h k =
        let p = and_parts (not (sub cs c t) && not (sub cs t c) && not (stands_beside cs c)) (not (stands_beside cs t)) u in
        let q = and_parts (not (sub cs c t) && not (sub cs t c)) (not (stands_beside cs c)) p.0 in
        let r = and_parts (not (sub cs c t)) (not (sub cs t c)) q.0 in
        ⊎_elim
        (λ l. true≢false (sym (sub_if_below cs c t l) ∙ not_false (sub cs c t) r.0))
        (λ l. true≢false (sym (sub_if_below cs t c l) ∙ not_false (sub cs t c) r.1))
        (below_fork cs chain d c t (sub_from d c h) (sub_from d t k))
    apart_thing x c t u h k = false≢true h

    class_self : (x : Term) → is_class_term x ≡ true → T cs m (sub_atom x x)
    class_self (App (ClassName t) ts) h = sub_self cs t
    class_self (App TypeOf ts) h = sub_self cs _
    class_self (App Level ts) h = sub_self cs _
    class_self x h = absurd (false≢true h)

    class_pair_true : (o p : Option ℕ) (f : Formula) → class_pair cs o p ≡ Some f → T cs m f
    class_pair_true (Some c) (Some t) f e = some_is (class_fact cs c t) f e (class_fact_true c t)
    class_pair_true (Some c) None f e = none_some f e
    class_pair_true None p f e = none_some f e

    class_up_true : (x : Term) (o : Option ℕ) (f : Formula) → class_up cs x o ≡ Some f → T cs m f
    class_up_true x (Some t) f e = from_when _ _ f e (λ z same. is_true _ f same
        (given_true cs m (sub_atom x (class_term t) ∷ []) (sub_atom x (class_term (above cs t))) (λ h. up_thing _ t z h.0)))
    class_up_true x None f e = none_some f e

    class_two_true : (x : Term) (o p : Option ℕ) (f : Formula) → class_two cs x o p ≡ Some f → T cs m f
    class_two_true x (Some c) (Some t) f e = from_when _ _ f e (λ u same. is_true _ f same
        (given_true cs m (sub_atom x (class_term c) ∷ []) (neg (sub_atom x (class_term t))) (λ h k. apart_thing _ c t u h.0 k)))
    class_two_true x (Some c) None f e = none_some f e
    class_two_true x None p f e = none_some f e

    class_here : (x t : Term) (f : Formula) (b c : Bool) → (if b then class_pair cs (class_of_term x) (class_of_term t) else if c then class_up cs x (class_of_term t) else None) ≡ Some f → T cs m f
    class_here x t f true c e = class_pair_true (class_of_term x) (class_of_term t) f e
    class_here x t f false true e = class_up_true x (class_of_term t) f e
    class_here x t f false false e = none_some f e

    class_true : (n : ℕ) (ts : List Term) (f : Formula) → class_of cs n ts ≡ Some f → T cs m f
    class_true n (x ∷ []) f e = from_when _ _ f e (λ h same. is_true _ f same
        (let p = and_parts (eqb n 3 && is_class_term x) (have_sorts cs (sort.Rest ∷ []) (x ∷ [])) h in class_self x (and_parts (eqb n 3) (is_class_term x) p.0).1))
    class_true n (x ∷ t ∷ []) f e = class_here x t f (eqb n 0) (eqb n 1 && have_sorts cs (sort.Rest ∷ []) (x ∷ [])) e
    class_true n (x ∷ c ∷ t ∷ []) f e = class_two_true x (class_of_term c) (class_of_term t) f (if_some _ _ f e).1
    class_true n [] f e = none_some f e
    class_true n (a ∷ b ∷ c ∷ d ∷ ts) f e = none_some f e

    numbered_true : (sentence : ℕ → List Term → Option Formula) → ((n : ℕ) (ts : List Term) (f : Formula) → sentence n ts ≡ Some f → T cs m f) → (ts : List Term) (f : Formula) → numbered sentence ts ≡ Some f → T cs m f
    numbered_true sentence h [] f e = none_some f e
    numbered_true sentence h (n ∷ ts) f e = let p = and_then_some _ (natural_of n) f e in h p.0 ts f p.2

    -- each instance is true
    pub instance_of_true : (name : RuleName) (ts : List Term) (f : Formula) → instance_of cs name ts ≡ Some f → T cs m f
    instance_of_true rule.Read ts f e = read_true cs m ts f e
    instance_of_true rule.Fresh ts f e = numbered_true (fresh_of cs) fresh_true ts f e
    instance_of_true rule.Class ts f e = numbered_true (class_of cs) class_true ts f e
    instance_of_true rule.Split ts f e = numbered_true (split_of cs) split_true ts f e
    instance_of_true rule.Apart ts f e = apart_true ts f e
    instance_of_true rule.Quorem ts f e = quorem_true ts f e
    instance_of_true rule.Bool ts f e = bool_true ts f e
