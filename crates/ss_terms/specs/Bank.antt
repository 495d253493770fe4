-- What holds of every bank.
use Rattle.std.specs.Prelude.{◌≡◌, ℕ, ◌*◌, ◌+◌, List, [], length, map, true, Some, slice_get}
use Rattle.std.specs.Map.{keys_of}
use Rattle.ss_core.specs.Tree.{ClassTree}
use Rattle.ss_logic.specs.declared.Sort.{Sort}
use Rattle.ss_logic.specs.Terms as tree
use Rattle.ss_logic.specs.Terms.{sort_of, is_well_sorted}
use Rattle.ss_logic.specs.Formulas as logic
use Rattle.ss_logic.specs.Formulas.{is_well_formed}
use Rattle.ss_terms_interned.specs.Interned.{AreInterned}
use Rattle.ss_terms.specs.declared.forms.TermId.{TermId}
use Rattle.ss_terms.specs.declared.forms.Term.{Term}
use Rattle.ss_terms.specs.declared.forms.Formula.{Formula}
use Rattle.ss_terms.specs.declared.bank.Beside.{Beside}
use Rattle.ss_terms.specs.declared.bank.BesideTerm.{BesideTerm}
use Rattle.ss_terms.specs.Highest.{highest_of_term, highest}
use Rattle.ss_terms.specs.Forms.{Forms, Shape, term_shape, shape_of, build_term, no_term, term_at, build_formula, nothing, pair_at, TermBelow, ShapeBelow, AreNamed, opposite_shape, IsBankOf}

abbrev pub forms_of : List Sort → List (Term × BesideTerm) → List (Formula × Beside) → Forms
forms_of fields terms formulas = record { fields = fields; terms = map term_shape (keys_of terms); formulas = map shape_of (keys_of formulas) }

-- the formula is one of those that stand before their negations
abbrev pub IsPlain : logic.Formula → Type 0
IsPlain (logic.Literal holds p ts) = holds ≡ true
IsPlain (logic.And fs) = Unit {0}
IsPlain (logic.Or fs) = ⊥
IsPlain (logic.Forall ss f) = Unit {0}
IsPlain (logic.Exists ss f) = ⊥

abbrev pub AnyTerm : tree.Term → Type 0
AnyTerm x = Unit {0}

abbrev pub PairBelow : ℕ → ℕ → Shape → Type 0
PairBelow terms k n = ShapeBelow terms (k * 2) n

abbrev pub number : ℕ → TermId
number k = record { 0 = k }

-- what stands beside a term, in each program of which the bank is one
pub record IsBesideTerm (b : Forms) (x : tree.Term) (e : BesideTerm) : Type 0 where
  pub sort : (cs : List ClassTree) → IsBankOf cs b → e.sort ≡ sort_of cs [] x
  pub sorted : (cs : List ClassTree) → IsBankOf cs b → e.is_well_sorted ≡ is_well_sorted cs [] x
  pub constants : e.highest ≡ highest_of_term x

-- what stands beside the formula k
pub record IsBeside (b : Forms) (k : ℕ) (e : Formula × Beside) : Type 0 where
  pub negation : shape_of e.1.negation ≡ opposite_shape (shape_of e.0)
  pub formed : (cs : List ClassTree) → IsBankOf cs b → e.1.is_well_formed ≡ is_well_formed cs [] (pair_at b k)
  pub constants : e.1.highest ≡ highest (pair_at b k)
  pub named : AreNamed e.1.terms (k + 1) b

pub record IsBank (fields : List Sort) (terms : List (Term × BesideTerm)) (formulas : List (Formula × Beside)) : Type 0 where
  pub terms_apart : AreInterned no_term build_term TermBelow AnyTerm (map term_shape (keys_of terms))
  pub formulas_apart : AreInterned nothing (build_formula (term_at (forms_of fields terms formulas))) (PairBelow (length (map term_shape (keys_of terms)))) IsPlain (map shape_of (keys_of formulas))
  pub terms_beside : (k : ℕ) (e : Term × BesideTerm) → slice_get terms k ≡ Some e → IsBesideTerm (forms_of fields terms formulas) (term_at (forms_of fields terms formulas) (number k)) e.1
  pub beside : (k : ℕ) (e : Formula × Beside) → slice_get formulas k ≡ Some e → IsBeside (forms_of fields terms formulas) k e
