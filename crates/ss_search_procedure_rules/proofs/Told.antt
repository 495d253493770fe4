-- What is told in a formula is told in itself and in its negation. A list has it where it has one of the two.
use Rattle.std.proofs.Common.{◌≡◌, List, [], ◌∷◌, Bool, true, false, refl, sym, subst, ⊎_elim}
use Rattle.std.specs.Prelude.{◌==◌}
use Rattle.std.specs.Bool.{beq}
use Rattle.std.specs.List.{Contains, list_all}
use Rattle.std.proofs.lemmas.List.Elements.{Contains-append_left, Contains-append_right, Contains-append_cases}
use Rattle.ss_logic.specs.declared.Sort.{Sort}
use Rattle.ss_logic.specs.Formulas.{Formula, Formulas, Literal, And, Or, Forall, Exists, no_formulas, formula_then, neg}
use Rattle.ss_logic.proofs.Truth.{neg_neg}
use Rattle.ss_logic.specs.Occurring.{atoms_in, all_atoms_in, atoms, terms}
use Rattle.ss_logic_countermodels.specs.Refuting.{Model, Agrees, comes_out, told_in, all_told_in, told, is_equal_inside, are_congruent, are_alike, are_apart, implies}
use Rattle.ss_logic.specs.Includes.{Includes}
use Rattle.ss_search_procedure_rules.specs.Closed.{is_basic}
use Rattle.ss_logic.proofs.Lists.{contains_head, contains_split, contains_none, all_of_fewer, pairs_of_fewer}
use Rattle.ss_search_procedure_rules.proofs.Occurring.{from_collected, to_collected, terms_of_more}

pub record IsTold (p : Formula) : Type 0 where
  pub basic : is_basic p ≡ true
  pub negation_basic : is_basic (neg p) ≡ true
  pub out : (m : Model) → comes_out m p ≡ m.truth p
  pub in_itself : Contains (told_in p) p
  pub in_negation : Contains (told_in (neg p)) p

pub record IsAtom (a : Formula) : Type 0 where
  pub in_itself : Contains (atoms_in a) a
  pub in_negation : Contains (atoms_in (neg a)) a

single : {A : Type 0} (x y : A) → Contains (x ∷ []) y → x ≡ y
single x y h = ⊎_elim (λ e. e) (λ k. absurd (contains_none y k)) (contains_split x [] y h)

is_so : (b : Bool) → beq b true ≡ b
is_so true = refl
is_so false = refl

quantified_told : (ss : List Sort) (f p : Formula) → Forall ss f ≡ p → IsTold p
quantified_told ss f p e = subst IsTold e (record {
  basic = refl;
  negation_basic = refl;
  out = λ m. refl;
  in_itself = contains_head (Forall ss f) [];
  in_negation = subst (λ g. Contains (Forall ss g ∷ []) (Forall ss f)) (sym (neg_neg f)) (contains_head (Forall ss f) []);
})

mutual
  pub is_told : (f p : Formula) → Contains (told_in f) p → IsTold p
  is_told (Literal sign q ts) p h = subst IsTold (single (Literal true q ts) p h) (record { basic = refl; negation_basic = refl; out = λ m. is_so (m.truth (Literal true q ts)); in_itself = contains_head (Literal true q ts) []; in_negation = contains_head (Literal true q ts) [] })
  is_told (And fs) p h = are_told fs p h
  is_told (Or fs) p h = are_told fs p h
  is_told (Forall ss f) p h = quantified_told ss f p (single (Forall ss f) p h)
  is_told (Exists ss f) p h = quantified_told ss (neg f) p (single (Forall ss (neg f)) p h)

  are_told : (fs : Formulas) (p : Formula) → Contains (all_told_in fs) p → IsTold p
  are_told no_formulas p h = absurd (contains_none p h)
  are_told (formula_then f fs) p h = ⊎_elim (λ a. is_told f p a) (λ b. are_told fs p b) (Contains-append_cases (told_in f) (all_told_in fs) p h)

mutual
  pub is_atom : (f a : Formula) → Contains (atoms_in f) a → IsAtom a
  is_atom (Literal sign q ts) a h = subst IsAtom (single (Literal true q ts) a h) (record { in_itself = contains_head (Literal true q ts) []; in_negation = contains_head (Literal true q ts) [] })
  is_atom (And fs) a h = are_atoms fs a h
  is_atom (Or fs) a h = are_atoms fs a h
  is_atom (Forall ss f) a h = absurd (contains_none a h)
  is_atom (Exists ss f) a h = absurd (contains_none a h)

  are_atoms : (fs : Formulas) (a : Formula) → Contains (all_atoms_in fs) a → IsAtom a
  are_atoms no_formulas a h = absurd (contains_none a h)
  are_atoms (formula_then f fs) a h = ⊎_elim (λ k. is_atom f a k) (λ k. are_atoms fs a k) (Contains-append_cases (atoms_in f) (all_atoms_in fs) a h)

mutual
  pub atom_told : (f a : Formula) → Contains (atoms_in f) a → Contains (told_in f) a
  atom_told (Literal sign q ts) a h = h
  atom_told (And fs) a h = atoms_told fs a h
  atom_told (Or fs) a h = atoms_told fs a h
  atom_told (Forall ss f) a h = absurd (contains_none a h)
  atom_told (Exists ss f) a h = absurd (contains_none a h)

  atoms_told : (fs : Formulas) (a : Formula) → Contains (all_atoms_in fs) a → Contains (all_told_in fs) a
  atoms_told no_formulas a h = h
  atoms_told (formula_then f fs) a h = ⊎_elim
      (λ k. Contains-append_left (told_in f) (all_told_in fs) a (atom_told f a k))
      (λ k. Contains-append_right (told_in f) (all_told_in fs) a (atoms_told fs a k))
      (Contains-append_cases (atoms_in f) (all_atoms_in fs) a h)

-- ---- a model of more is one of fewer

-- what is told in the second list is told in the first, atoms as atoms
pub record Tells (fs gs : List Formula) : Type 0 where
  pub formulas : (g p : Formula) → Contains gs g → Contains (told_in g) p → (f : Formula) × Contains fs f × Contains (told_in f) p
  pub atoms : (g a : Formula) → Contains gs g → Contains (atoms_in g) a → (f : Formula) × Contains fs f × Contains (atoms_in f) a

pub told_of_more : (fs gs : List Formula) → Tells fs gs → Includes (told fs) (told gs)
told_of_more fs gs t p h =
    let r = from_collected told_in gs p h in
    let s = t.formulas r.0 p r.1 r.2 in
    to_collected told_in fs s.0 p s.1 s.2

pub atoms_of_more : (fs gs : List Formula) → Tells fs gs → Includes (atoms fs) (atoms gs)
atoms_of_more fs gs t a h =
    let r = from_collected atoms_in gs a h in
    let s = t.atoms r.0 a r.1 r.2 in
    to_collected atoms_in fs s.0 a s.1 s.2

pub agrees_by : (m : Model) (fs gs : List Formula) → Includes (told fs) (told gs) → Includes (terms fs) (terms gs) → list_all (comes_out m) gs ≡ true → Agrees m fs → Agrees m gs
agrees_by m fs gs ps ts e r = record {
  true_ones = e;
  congruent = pairs_of_fewer (λ x y. implies (are_congruent m x y) (m.class x == m.class y)) (terms fs) (terms gs) ts r.congruent;
  alike = pairs_of_fewer (λ f g. implies (are_alike m f g) (beq (m.truth f) (m.truth g))) (told fs) (told gs) ps r.alike;
  inside = all_of_fewer (is_equal_inside m) (told fs) (told gs) ps r.inside;
  apart = pairs_of_fewer (are_apart m) (terms fs) (terms gs) ts r.apart;
}

pub model_of_fewer : (m : Model) (fs gs : List Formula) → Tells fs gs → list_all (comes_out m) gs ≡ true → Agrees m fs → Agrees m gs
model_of_fewer m fs gs t e r = agrees_by m fs gs (told_of_more fs gs t) (terms_of_more (atoms gs) (atoms fs) (atoms_of_more fs gs t)) e r
