-- A trigger of a well formed `forall` matches a well sorted term or a well formed atom. Then what stands for the bound names has their sorts.
use Rattle.std.proofs.Common.{◌≡◌, ℕ, zero, suc, ◌<◌, List, [], ◌∷◌, ◌++◌, length, true, false, not, ◌&&◌, Option, Some, None, refl, sym, ◌∙◌, ap, subst, ⊎_elim, arith}
use Rattle.std.specs.Prelude.{replicate, option_and_then, if◌then◌else◌}
use Rattle.std.specs.List.{list_any}
use Rattle.std.proofs.lemmas.Bool.{false≢true, and_parts, and_from, or_cases, eqb-true}
use Rattle.ss_core.specs.Tree.{ClassTree}
use Rattle.ss_logic.specs.declared.Sort.{Sort}
use Rattle.ss_logic.specs.declared.Sort.TheVariants as sort
use Rattle.ss_logic.specs.Terms.{Symbol, Number, Constant, Field, Element, Length, Level, Owner, Next, Term, Bound, App, Terms, no_terms, term_then, term_list, same_sort, same_sorts, is_store_sort, has_field, takes, sort_of, sorts_of, is_well_sorted, are_well_sorted, have_sorts}
use Rattle.ss_logic.specs.Formulas.{Predicate, Allocated, Committed, Ready, Formula, Literal, takes_sorts, is_well_formed}
use Rattle.ss_logic.specs.Equal.{same_symbol, equal_symbols, same_predicate, equal_predicates}
use Rattle.ss_logic.proofs.Truth.{equal_sorts, same_sort_refl}
use Rattle.ss_logic.proofs.Options.{mapped_some, if_some, and_then_some}
use Rattle.ss_logic_means.specs.Sorts.{HasSort}
use Rattle.ss_logic.specs.Matching.{is_read, is_read_atom, is_bound, has_bound, is_trigger, is_trigger_atom, all_matched, all_found, match_term, match_atom, is_plain_whole, is_one_whole}
use Rattle.ss_logic_means.proofs.Matched.{none_is, some_is, Stands, AllStand, all_stand, bound_there}

equal_lists : (ss rs : List Sort) → same_sorts ss rs ≡ true → ss ≡ rs
equal_lists [] [] h = refl
equal_lists [] (r ∷ rs) h = absurd (false≢true h)
equal_lists (s ∷ ss) [] h = absurd (false≢true h)
equal_lists (s ∷ ss) (r ∷ rs) h =
    let p = and_parts (same_sort s r) (same_sorts ss rs) h in
    ap (λ x. x ∷ ss) (equal_sorts s r p.0) ∙ ap (λ xs. r ∷ xs) (equal_lists ss rs p.1)

both_are : (ss rs qs : List Sort) → same_sorts ss qs ≡ true → same_sorts rs qs ≡ true → ss ≡ rs
both_are ss rs qs h k = equal_lists ss qs h ∙ sym (equal_lists rs qs k)

-- a read takes arguments of one list of sorts
read_takes : (cs : List ClassTree) (f : Symbol) (ss rs : List Sort) → is_read f ≡ true → takes cs f ss ≡ true → takes cs f rs ≡ true → ss ≡ rs
read_takes cs (Field f) ss rs r h k =
    both_are ss rs (sort.Store ∷ sort.Rest ∷ []) (and_parts (has_field cs f) (same_sorts ss (sort.Store ∷ sort.Rest ∷ [])) h).1 (and_parts (has_field cs f) (same_sorts rs (sort.Store ∷ sort.Rest ∷ [])) k).1
read_takes cs (Element s) ss rs r h k =
    let qs = sort.Store ∷ sort.Rest ∷ sort.Whole ∷ [] in
    both_are ss rs (sort.Store ∷ sort.Rest ∷ sort.Whole ∷ []) (and_parts (same_sorts ss qs) (not (is_store_sort s)) h).0 (and_parts (same_sorts rs qs) (not (is_store_sort s)) k).0
read_takes cs Length ss rs r h k = both_are ss rs (sort.Rest ∷ []) h k
read_takes cs Level ss rs r h k = both_are ss rs (sort.Store ∷ sort.Rest ∷ []) h k
read_takes cs Owner ss rs r h k = both_are ss rs (sort.Store ∷ sort.Rest ∷ []) h k
read_takes cs Next ss rs r h k = both_are ss rs (sort.Store ∷ []) h k
read_takes cs f ss rs r h k = absurd (false≢true r)

atom_takes : (p : Predicate) (ss rs : List Sort) → is_read_atom p ≡ true → takes_sorts p ss ≡ true → takes_sorts p rs ≡ true → ss ≡ rs
atom_takes Allocated ss rs r h k = both_are ss rs (sort.Store ∷ sort.Rest ∷ []) h k
atom_takes Committed ss rs r h k = both_are ss rs (sort.Store ∷ sort.Rest ∷ []) h k
atom_takes Ready ss rs r h k = both_are ss rs (sort.Store ∷ sort.Rest ∷ []) h k
atom_takes p ss rs r h k = absurd (false≢true r)

module _ (cs : List ClassTree) (bound : List Sort) where
  -- a term of the sort of the bound name stands for it
  abbrev Has : List (Option Term) → ℕ → Type 0
  Has found k = (u : Term) × Stands found k u × HasSort cs [] (sort_of cs bound (Bound k)) u

  parts_equal : (s r : Sort) (ss rs : List Sort) → ◌≡◌ {A = List Sort} (s ∷ ss) (r ∷ rs) → (s ≡ r) × (ss ≡ rs)
  parts_equal s r ss rs e = (cc, cc)

  here : (found : List (Option Term)) (t u : Term) (k : ℕ) (rest more : Terms) → AllStand found (term_then t rest) (term_then u more) → sort_of cs bound t ≡ sort_of cs [] u → is_well_sorted cs [] u ≡ true → is_bound k t ≡ true → Has found k
  here found (Bound j) u k rest more a e w h = subst (Has found) (eqb-true j k h) (u, a.0, (sym e, w))
  here found (App f ts) u k rest more a e w h = absurd (false≢true h)

  among : (found : List (Option Term)) (ts us : Terms) → AllStand found ts us → sorts_of cs bound ts ≡ sorts_of cs [] us → are_well_sorted cs [] us ≡ true → (k : ℕ) → list_any (is_bound k) (term_list ts) ≡ true → Has found k
  among found no_terms no_terms a e w k h = absurd (false≢true h)
  among found no_terms (term_then u us) a e w k h = absurd a
  among found (term_then t ts) no_terms a e w k h = absurd a
  among found (term_then t ts) (term_then u us) a e w k h =
      let p = and_parts (is_well_sorted cs [] u) (are_well_sorted cs [] us) w in
      let q = parts_equal (sort_of cs bound t) (sort_of cs [] u) (sorts_of cs bound ts) (sorts_of cs [] us) e in
      ⊎_elim
      (λ (i : is_bound k t ≡ true). here found t u k ts us a q.0 p.0 i)
      (λ (i : list_any (is_bound k) (term_list ts) ≡ true). among found ts us a.1 q.1 p.1 k i)
      (or_cases (is_bound k t) (list_any (is_bound k) (term_list ts)) h)

  -- all bound names below n, where arguments of the sorts of a trigger match
  all_stand_there : (n : ℕ) (found all : List (Option Term)) (ts us : Terms) → has_bound n ts ≡ true → sorts_of cs bound ts ≡ sorts_of cs [] us → are_well_sorted cs [] us ≡ true → all_matched found ts us ≡ Some all →
      (length all ≡ length found) × ((k : ℕ) → k < n → Has all k)
  all_stand_there n found all ts us h e w m =
      let s = all_stand found ts us all m in
      (s.0.count, λ k l. among all ts us s.1 e w k (bound_there n ts h k l))

module _ (cs : List ClassTree) where
  all_have : (ss more : List Sort) (found : List (Option Term)) (ts : List Term) → length found ≡ length ss → ((k : ℕ) → k < length ss → Has cs (ss ++ more) found k) → all_found found ≡ Some ts → have_sorts cs ss ts ≡ true
  all_have [] more [] ts n h e = subst (λ us. have_sorts cs [] us ≡ true) (some_is [] ts e) refl
  all_have [] more (o ∷ found) ts n h e = absurd (omega (arith, n))
  all_have (s ∷ ss) more [] ts n h e = absurd (omega (arith, n))
  all_have (s ∷ ss) more (None ∷ found) ts n h e = none_is ts e
  all_have (s ∷ ss) more (Some u ∷ found) ts n h e =
      let r = mapped_some (λ (us : List Term). u ∷ us) (all_found found) ts e in
      let first = h 0 (omega arith) in
      let same : first.0 ≡ u = let f = first.1 in cc in
      let sorted = subst (HasSort cs [] s) same first.2 in
      let rest = all_have ss more found r.0 (omega (arith, n)) (λ k l. h (suc k) (omega (arith, l))) r.1 in
      subst (λ us. have_sorts cs (s ∷ ss) us ≡ true) r.2
      (and_from (same_sort (sort_of cs [] u) s && is_well_sorted cs [] u) (have_sorts cs ss r.0)
      (and_from (same_sort (sort_of cs [] u) s) (is_well_sorted cs [] u) (ap (λ x. same_sort x s) sorted.0 ∙ same_sort_refl s) sorted.1)
      rest)

  abbrev nothing : Option Term
  nothing = None

  no_names : (n : ℕ) → length (replicate n nothing) ≡ n
  no_names zero = refl
  no_names (suc n) = ap suc (no_names n)

  from_start : (ss more : List Sort) (ps us : Terms) (ts : List Term) (all : List (Option Term)) → has_bound (length ss) ps ≡ true → sorts_of cs (ss ++ more) ps ≡ sorts_of cs [] us → are_well_sorted cs [] us ≡ true →
      all_matched (replicate (length ss) None) ps us ≡ Some all → all_found all ≡ Some ts → have_sorts cs ss ts ≡ true
  from_start ss more ps us ts all h e w m f =
      let there = all_stand_there cs (ss ++ more) (length ss) (replicate (length ss) None) all ps us h e w m in
      all_have ss more all ts (there.0 ∙ no_names (length ss)) there.1 f

  pub term_match_sorted : (ss more : List Sort) (p t : Term) (ts : List Term) → is_trigger (length ss) p ≡ true → is_well_sorted cs (ss ++ more) p ≡ true → is_well_sorted cs [] t ≡ true → match_term (length ss) p t ≡ Some ts → have_sorts cs ss ts ≡ true
  term_match_sorted ss more (Bound k) t ts r w v e = absurd (false≢true r)
  term_match_sorted ss more (App f ps) (Bound k) ts r w v e = none_is ts e
  term_match_sorted ss more (App f ps) (App g us) ts r w v e =
      let found = and_then_some all_found (if same_symbol f g then all_matched (replicate (length ss) None) ps us else None) ts e in
      let same = if_some (same_symbol f g) (all_matched (replicate (length ss) None) ps us) found.0 found.1 in
      let q = and_parts (is_read f) (has_bound (length ss) ps) r in
      let a = and_parts (takes cs f (sorts_of cs (ss ++ more) ps)) (are_well_sorted cs (ss ++ more) ps) w in
      let b = and_parts (takes cs g (sorts_of cs [] us)) (are_well_sorted cs [] us) v in
      let alike = read_takes cs f (sorts_of cs (ss ++ more) ps) (sorts_of cs [] us) q.0 a.0 (subst (λ x. takes cs x (sorts_of cs [] us) ≡ true) (sym (equal_symbols f g same.0)) b.0) in
      from_start ss more ps us ts found.0 q.1 alike b.1 same.1 found.2

  pub atom_match_sorted : (ss more : List Sort) (p f : Formula) (ts : List Term) → is_trigger_atom (length ss) p ≡ true → is_well_formed cs (ss ++ more) p ≡ true → is_well_formed cs [] f ≡ true → match_atom (length ss) p f ≡ Some ts → have_sorts cs ss ts ≡ true
  atom_match_sorted ss more (Literal sign p ps) (Literal other q us) ts r w v e =
      let same = if_some (same_predicate p q) (option_and_then all_found (all_matched (replicate (length ss) None) ps us)) ts e in
      let found = and_then_some all_found (all_matched (replicate (length ss) None) ps us) ts same.1 in
      let k = and_parts (is_read_atom p) (has_bound (length ss) ps) r in
      let a = and_parts (takes_sorts p (sorts_of cs (ss ++ more) ps)) (are_well_sorted cs (ss ++ more) ps) w in
      let b = and_parts (takes_sorts q (sorts_of cs [] us)) (are_well_sorted cs [] us) v in
      let alike = atom_takes p (sorts_of cs (ss ++ more) ps) (sorts_of cs [] us) k.0 a.0 (subst (λ x. takes_sorts x (sorts_of cs [] us) ≡ true) (sym (equal_predicates p q same.0)) b.0) in
      from_start ss more ps us ts found.0 k.1 alike b.1 found.1 found.2
  atom_match_sorted ss more p f ts r w v e = none_is ts e

  -- a literal or a constant for whole numbers has no arguments
  no_arguments : (bound : List Sort) (ts : Terms) → same_sorts (sorts_of cs bound ts) [] ≡ true → (same_sorts (sorts_of cs [] ts) [] && are_well_sorted cs [] ts) ≡ true
  no_arguments bound no_terms h = refl
  no_arguments bound (term_then t ts) h = absurd (false≢true h)

  plain : (bound : List Sort) (t : Term) → is_plain_whole t ≡ true → is_well_sorted cs bound t ≡ true → have_sorts cs (sort.Whole ∷ []) (t ∷ []) ≡ true
  plain bound (App (Number n) ts) p w = and_from (takes cs (Number n) (sorts_of cs [] ts) && are_well_sorted cs [] ts) true (no_arguments bound ts (and_parts (same_sorts (sorts_of cs bound ts) []) (are_well_sorted cs bound ts) w).0) refl
  plain bound (App (Constant r k) ts) p w =
      and_from (same_sort r sort.Whole && (takes cs (Constant r k) (sorts_of cs [] ts) && are_well_sorted cs [] ts)) true
      (and_from (same_sort r sort.Whole) (takes cs (Constant r k) (sorts_of cs [] ts) && are_well_sorted cs [] ts) p (no_arguments bound ts (and_parts (same_sorts (sorts_of cs bound ts) []) (are_well_sorted cs bound ts) w).0)) refl
  plain bound t p w = absurd (false≢true p)

  pub whole_sorted : (bound : List Sort) (ss : List Sort) (t : Term) → is_one_whole ss ≡ true → is_plain_whole t ≡ true → is_well_sorted cs bound t ≡ true → have_sorts cs ss (t ∷ []) ≡ true
  whole_sorted bound (s ∷ []) t o p w = subst (λ r. have_sorts cs (r ∷ []) (t ∷ []) ≡ true) (sym (equal_sorts s sort.Whole o)) (plain bound t p w)
  whole_sorted bound ss t o p w = absurd (false≢true o)
