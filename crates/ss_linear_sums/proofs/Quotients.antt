-- Parts that are divided.
use Rattle.std.proofs.Common.{◌≡◌, ℕ, ◌+◌, ◌<◌, ℤ, neg_ℤ, List, [], ◌∷◌, ◌++◌, length, drop, get_or, Bool, true, false, Option, Some, None, option_and_then, refl, sym, ◌∙◌, ap, subst, append_assoc}
use Rattle.std.specs.Prelude.{if◌then◌else◌}
use Rattle.std.specs.Int.{int_div_euclid, int_rem_euclid}
use Rattle.std.proofs.lemmas.List.{map-append}
use Rattle.ss_logic.specs.Terms.{Add, Term, app}
use Rattle.ss_logic.specs.Shapes.{number, at_most}
use Rattle.ss_logic.specs.Sums.{is_zero, checked, LinearSum, divided, multiple, sum_onto, sum_term, bounded}
use Rattle.ss_terms.specs.Forms.{Forms, term_at, formula_at, HasTerm, HasFormula, IsGrown, IsFormulaNumber}
use Rattle.ss_terms.specs.declared.forms.FormulaId.{FormulaId}
use Rattle.ss_linear_sums.specs.declared.forms.Part.{Part}
use Rattle.ss_linear_sums.specs.Linear.{part_at, parts_at, HasParts}
use Rattle.ss_linear_sums.specs.Parts.{with_coefficient}
use Rattle.ss_linear_sums.specs.Weighted.{divided_part}
use Rattle.ss_linear_sums.proofs.Places.{HasParts-get, drop_parts}

module _ (b : Forms) (d : ℤ) (p : Part) where
  abbrev Quotient : Term × ℤ
  Quotient = (term_at b p.term, int_div_euclid p.coefficient d)

  abbrev Onto : List (Term × ℤ) → List Part → Option (List (Term × ℤ))
  Onto rest qs = option_and_then (λ more. Some (parts_at b qs ++ more)) (divided d rest)

  all_of_it : (o : Option (List (Term × ℤ))) → o ≡ option_and_then (λ more. Some ([] ++ more)) o
  all_of_it None = refl
  all_of_it (Some x) = refl

  with_quotient : (rest : List (Term × ℤ)) (t : Bool) →
      (if t then option_and_then (λ more. Some (Quotient ∷ more)) (divided d rest) else None)
      ≡ option_and_then (λ qs. Onto rest qs) (if t then Some (with_coefficient (int_div_euclid p.coefficient d) p ∷ []) else None)
  with_quotient rest true = refl
  with_quotient rest false = refl

  one_divided_by : (rest : List (Term × ℤ)) (t : Bool) →
      (if t then divided d rest else if is_zero (int_rem_euclid p.coefficient d) then option_and_then (λ more. Some (Quotient ∷ more)) (divided d rest) else None)
      ≡ option_and_then (λ qs. Onto rest qs) (if t then Some [] else if is_zero (int_rem_euclid p.coefficient d) then Some (with_coefficient (int_div_euclid p.coefficient d) p ∷ []) else None)
  one_divided_by rest true = all_of_it (divided d rest)
  one_divided_by rest false = with_quotient rest (is_zero (int_rem_euclid p.coefficient d))

  one_divided : (rest : List (Term × ℤ)) → divided d (part_at b p ∷ rest) ≡ option_and_then (λ qs. Onto rest qs) (divided_part d p)
  one_divided rest = one_divided_by rest (is_zero p.coefficient)

  has_if : (t : Bool) (qs : List Part) → (if t then Some (with_coefficient (int_div_euclid p.coefficient d) p ∷ []) else None) ≡ Some qs → HasTerm b p.term → HasParts b qs
  has_if true qs e h = let same : with_coefficient (int_div_euclid p.coefficient d) p ∷ [] ≡ qs = cc in subst (HasParts b) same (h, tt)
  has_if false qs e h = absurd (let nothing : ⊥ = cc in nothing)

  has_part : (t : Bool) (qs : List Part) → (if t then Some [] else if is_zero (int_rem_euclid p.coefficient d) then Some (with_coefficient (int_div_euclid p.coefficient d) p ∷ []) else None) ≡ Some qs → HasTerm b p.term → HasParts b qs
  has_part true qs e h = let same : [] ≡ qs = cc in subst (HasParts b) same tt
  has_part false qs e h = has_if (is_zero (int_rem_euclid p.coefficient d)) qs e h

  pub divided_has : (qs : List Part) → divided_part d p ≡ Some qs → HasTerm b p.term → HasParts b qs
  divided_has qs e h = has_part (is_zero p.coefficient) qs e h

module _ (b : Forms) (d : ℤ) (ps : List Part) (i : ℕ) (x : Part) (l : i < length ps) where
  next_divided : divided d (drop i (parts_at b ps)) ≡ option_and_then (λ qs. option_and_then (λ more. Some (parts_at b qs ++ more)) (divided d (drop (i + 1) (parts_at b ps)))) (divided_part d (get_or ps i x))
  next_divided = ap (divided d) (drop_parts b ps i x l) ∙ one_divided b d (get_or ps i x) (drop (i + 1) (parts_at b ps))

  pub divided_stop : divided_part d (get_or ps i x) ≡ None → divided d (drop i (parts_at b ps)) ≡ None
  divided_stop e = next_divided ∙ rw e refl

  pub divided_none : (qs : List Part) → divided_part d (get_or ps i x) ≡ Some qs → divided d (drop (i + 1) (parts_at b ps)) ≡ None → divided d (drop i (parts_at b ps)) ≡ None
  divided_none qs e f = next_divided ∙ rw (e, f) refl

  pub divided_some : (qs : List Part) (rest : List (Term × ℤ)) → divided_part d (get_or ps i x) ≡ Some qs → divided d (drop (i + 1) (parts_at b ps)) ≡ Some rest → divided d (drop i (parts_at b ps)) ≡ Some (parts_at b qs ++ rest)
  divided_some qs rest e f = next_divided ∙ rw (e, f) refl

-- parts that stand after others
pub joined_parts : (b : Forms) (old qs new : List Part) (rest : List (Term × ℤ)) → new ≡ old ++ qs → parts_at b old ++ (parts_at b qs ++ rest) ≡ parts_at b new ++ rest
joined_parts b old qs new rest e = sym (append_assoc (parts_at b old) (parts_at b qs) rest) ∙ ap (λ xs. xs ++ rest) (sym (ap (parts_at b) e ∙ map-append (part_at b) old qs))

-- one part more as a term
pub onto_next : (a b : Forms) → IsGrown a b → (ps : List Part) (i : ℕ) (d : Part) → i < length ps → HasParts a ps → (x y : Term) → y ≡ app Add (x ∷ multiple (part_at b (get_or ps i d)) ∷ []) →
    sum_onto y (drop (i + 1) (parts_at a ps)) ≡ sum_onto x (drop i (parts_at a ps))
onto_next a b g ps i d l h x y e =
    ap (λ z. sum_onto z (drop (i + 1) (parts_at a ps))) (e ∙ ap (λ t. app Add (x ∷ multiple (t, (get_or ps i d).coefficient) ∷ [])) (g.same_terms (get_or ps i d).term (HasParts-get a ps i d l h)))
    ∙ sym (ap (sum_onto x) (drop_parts a ps i d l))

-- what is given has a number
pub bounded_number : (new : Forms) (d : ℤ) (a : LinearSum) (k : ℤ) (ps : List (Term × ℤ)) (f : FormulaId) → checked (neg_ℤ a.constant) ≡ Some k → divided d a.parts ≡ Some ps →
    HasFormula new f → formula_at new f ≡ at_most (sum_term ps) (number (int_div_euclid k d)) → IsFormulaNumber new (bounded d a) (Some f)
bounded_number new d a k ps f e g h is = rw (e, g) (f, refl, h, is)
