-- What known `or`s are, and what follows of them.
use Rattle.std.proofs.Common.{◌≡◌, ℕ, ◌+◌, ◌<◌, List, [], ◌∷◌, ◌++◌, length, map, take, get_or, Bool, true, false, eqb, refl, sym, ◌∙◌, ap, subst, inl, inr, ◌⊎◌, ⊎_elim, arith}
use Rattle.std.specs.List.{Contains}
use Rattle.std.proofs.lemmas.Bool.{true≢false, eqb-true}
use Rattle.std.proofs.lemmas.List.{map-append}
use Rattle.std.proofs.lemmas.List.Elements.{Contains-append_left, Contains-append_right, Contains-append_cases}
use Rattle.std.proofs.lemmas.Option.{slice_get-get_or}
use Rattle.ss_bit_set.specs.declared.bit_set.BitSet.{BitSet}
use Rattle.ss_bit_set.specs.Marked.{marked}
use Rattle.ss_logic.specs.Formulas.{Formula, Formulas, Literal, And, Or, Forall, Exists, formula_list, formulas_from}
use Rattle.ss_logic_countermodels.specs.Refuting.{told_in}
use Rattle.ss_terms.specs.declared.forms.FormulaId.{FormulaId}
use Rattle.ss_terms.specs.Forms.{Forms, formula_at, formulas_at, HasFormulas}
use Rattle.ss_rules_occurring.specs.Found.{AreMarked, formula_number}
use Rattle.ss_logic.specs.Includes.{Includes}
use Rattle.ss_search_procedure_rules.specs.Closed.{basics, IsSatisfied, TwoMayHold}
use Rattle.ss_logic.proofs.Lists.{contains_none, map_from, map_to, any_at}
use Rattle.ss_search_reached.specs.declared.looking.Looking.{Looking}
use Rattle.ss_search_reached.specs.Following.{Occur, IsOpenBranch, AreUnits}
use Rattle.ss_search_reached.specs.Looks.{known_at, HoldsFrom, IsPartOf}
use Rattle.ss_search_reached.proofs.Lists.{single, one_more, has_formula, part_there, told_of_part, occur_append, contains_get}
use Rattle.ss_terms.proofs.Longer.{HasFormulas-push}
use Rattle.ss_search_reached.proofs.Holding.{two_hold}

one_id : (f g : FormulaId) → f.0 ≡ g.0 → f ≡ g
one_id f g e = ap (λ (n : ℕ). let r : FormulaId = record { 0 = n } in r) e

-- what is marked is known
pub marked_known : (b : Forms) (set : BitSet) (known : List FormulaId) (f : FormulaId) → AreMarked set (map formula_number known) → marked set f.0 ≡ true → Contains (formulas_at b known) (formula_at b f)
marked_known b set known f h m =
    let r = any_at (eqb f.0) (map formula_number known) (sym (h f.0) ∙ m) in
    let g = map_from formula_number known r.0 r.1 in
    subst (λ x. Contains (formulas_at b known) (formula_at b x)) (sym (one_id f g.0 (eqb-true f.0 r.0 r.2 ∙ sym g.2))) (map_to (formula_at b) known g.0 g.1)

pub met : (b : Forms) (known : List Formula) (fs : List FormulaId) (f : FormulaId) → Contains fs f → Contains known (formula_at b f) → IsSatisfied known (formulas_from (formulas_at b fs))
met b known fs f c k = (formula_at b f, part_there b fs f c, k)

-- ---- one branch

or_parts : (fs gs : Formulas) → Or fs ≡ Or gs → fs ≡ gs
or_parts fs gs e = cc

module _ (s : Looking) (fs : List FormulaId) where
  abbrev parts : Formulas
  parts = formulas_from (formulas_at s.bank.now fs)

  pub met_branch : IsSatisfied (known_at s) parts → IsOpenBranch (known_at s) (known_at s) (Or parts)
  met_branch h gs e = inl (subst (IsSatisfied (known_at s)) (or_parts parts gs e) h)

  pub open_branch : (i j : ℕ) → HoldsFrom s fs 0 i → HoldsFrom s fs (i + 1) j → IsOpenBranch (known_at s) (known_at s) (Or parts)
  open_branch i j p q gs e = inr (subst (TwoMayHold (basics (known_at s))) (or_parts parts gs e)
      (let d : FormulaId = record { 0 = 0 } in
      let a = slice_get-get_or fs i d p.within in
      let b = slice_get-get_or fs j d q.within in
      two_hold s.bank.now (basics (known_at s)) fs i j (get_or fs i d) (get_or fs j d) (let l = q.later in omega (arith, l)) a b (p.holds (get_or fs i d) a) (q.holds (get_or fs j d) b)))

  pub one_branch : (part : FormulaId) → HasFormulas s.bank.now fs → Contains fs part → IsPartOf s (Or parts) part
  one_branch part has c = (
    has_formula s.bank.now fs part has c,
    λ gs e. subst (λ xs. Contains (formula_list xs) (formula_at s.bank.now part)) (or_parts parts gs e) (part_there s.bank.now fs part c),
    λ p o. (Or parts, (0, omega arith, refl), told_of_part parts (formula_at s.bank.now part) p (part_there s.bank.now fs part c) (subst (λ x. Contains (told_in x) p) (sym (single (formula_at s.bank.now part) o.0 o.1)) o.2)),
  )

abbrev pub is_or : Formula → Bool
is_or (Or fs) = true
is_or (Literal sign p ts) = false
is_or (And fs) = false
is_or (Forall ss f) = false
is_or (Exists ss f) = false

-- what is no `or` is open
pub other_branch : (s : Looking) (f g : Formula) → f ≡ g → is_or g ≡ false → IsOpenBranch (known_at s) (known_at s) f
other_branch s f g e n fs k = absurd (true≢false (sym (ap is_or (sym e ∙ k)) ∙ n))

-- ---- all of them

met_more : (known more : List Formula) (fs : Formulas) → Includes more known → IsSatisfied known fs → IsSatisfied more fs
met_more known more fs i h = (h.0, h.1, i h.0 h.2)

open_more : (known fs gs : List Formula) (f : Formula) → Includes gs fs → IsOpenBranch known fs f → IsOpenBranch known gs f
open_more known fs gs f i h xs e = ⊎_elim (λ m. inl (met_more fs gs xs i m)) (λ t. inr t) (h xs e)

module _ (s : Looking) where
  abbrev b : Forms
  b = s.bank.now

  abbrev known : List FormulaId
  known = s.known.now

  abbrev all_with : List FormulaId → List Formula
  all_with units = formulas_at b known ++ formulas_at b units

  more_units : (units : List FormulaId) (u : FormulaId) → Includes (all_with (units ++ u ∷ [])) (all_with units)
  more_units units u f c = subst (λ gs. Contains (formulas_at b known ++ gs) f) (sym (map-append (formula_at b) units (u ∷ [])))
      (⊎_elim
      (λ k. Contains-append_left (formulas_at b known) (formulas_at b units ++ formulas_at b (u ∷ [])) f k)
      (λ k. Contains-append_right (formulas_at b known) (formulas_at b units ++ formulas_at b (u ∷ [])) f (Contains-append_left (formulas_at b units) (formulas_at b (u ∷ [])) f k))
      (Contains-append_cases (formulas_at b known) (formulas_at b units) f c))

  last_unit : (units : List FormulaId) (u : FormulaId) → Contains (all_with (units ++ u ∷ [])) (formula_at b u)
  last_unit units u = Contains-append_right (formulas_at b known) (formulas_at b (units ++ u ∷ [])) (formula_at b u)
      (map_to (formula_at b) (units ++ u ∷ []) u (Contains-append_right units (u ∷ []) u (0, omega arith, refl)))

  known_there : (units : List FormulaId) → Includes (all_with units) (formulas_at b known)
  known_there units f c = Contains-append_left (formulas_at b known) (formulas_at b units) f c

  seen_more : (i : ℕ) (d : FormulaId) (P : Formula → Type 0) → i < length known → ((f : Formula) → Contains (formulas_at b (take i known)) f → P f) → P (formula_at b (get_or known i d)) → (f : Formula) → Contains (formulas_at b (take (i + 1) known)) f → P f
  seen_more i d P h before here f c =
      let r = map_from (formula_at b) (take (i + 1) known) f c in
      subst P r.2 (one_more (λ g. P (formula_at b g)) known i d h (λ g k. before (formula_at b g) (map_to (formula_at b) (take i known) g k)) here r.0 r.1)

  pub no_units : (units : List FormulaId) → units ≡ [] → AreUnits b known (take 0 known) units
  no_units units e = subst (AreUnits b known (take 0 known)) (sym e) (record { has = tt; occur = λ p o. absurd (contains_none o.0 o.1); branches = λ f c. absurd (contains_none f c) })

  -- a part follows of the next formula
  pub one_follows : (i : ℕ) (d : FormulaId) (units : List FormulaId) (part : FormulaId) → i < length known → AreUnits b known (take i known) units → IsPartOf s (formula_at b (get_or known i d)) part → AreUnits b known (take (i + 1) known) (units ++ part ∷ [])
  one_follows i d units part h u is = record {
    has = HasFormulas-push b units part u.has is.0;
    occur = subst (Occur (formulas_at b known)) (sym (map-append (formula_at b) units (part ∷ [])))
        (occur_append (formulas_at b known) (formulas_at b units) (formula_at b part ∷ []) u.occur
        (λ p o. let r = is.2 p o in (formula_at b (get_or known i d), map_to (formula_at b) known (get_or known i d) (contains_get known i d h), subst (λ x. Contains (told_in x) p) (sym (single (formula_at b (get_or known i d)) r.0 r.1)) r.2)));
    branches = seen_more i d (IsOpenBranch (formulas_at b known) (all_with (units ++ part ∷ []))) h
        (λ f c. open_more (formulas_at b known) (all_with units) (all_with (units ++ part ∷ [])) f (more_units units part) (u.branches f c))
        (λ fs e. inl (formula_at b part, is.1 fs e, last_unit units part));
  }

  -- nothing does
  pub none_follows : (i : ℕ) (d : FormulaId) (units : List FormulaId) → i < length known → AreUnits b known (take i known) units → IsOpenBranch (formulas_at b known) (formulas_at b known) (formula_at b (get_or known i d)) → AreUnits b known (take (i + 1) known) units
  none_follows i d units h u is = record {
    has = u.has;
    occur = u.occur;
    branches = seen_more i d (IsOpenBranch (formulas_at b known) (all_with units)) h u.branches (open_more (formulas_at b known) (formulas_at b known) (all_with units) (formula_at b (get_or known i d)) (known_there units) is);
  }
