-- Where nothing was added, what is known is open.
use Rattle.std.proofs.Common.{◌≡◌, List, refl, inl, inr, ◌⊎◌, ⊎_elim}
use Rattle.std.specs.List.{Contains}
use Rattle.std.proofs.lemmas.List.Elements.{Contains-append_cases}
use Rattle.ss_core.specs.Tree.{ClassTree}
use Rattle.ss_logic.specs.Formulas.{Formula, And, Or}
use Rattle.ss_terms.specs.declared.forms.FormulaId.{FormulaId}
use Rattle.ss_terms.specs.Forms.{Forms, formulas_at}
use Rattle.ss_search_clashes.specs.Numbered.{class_of}
use Rattle.ss_logic.specs.Includes.{Includes}
use Rattle.ss_search_procedure_rules.specs.Closed.{basics, IsSaturated}
use Rattle.ss_search_procedure_rules.specs.Clashes.{model_by}
use Rattle.ss_search_procedure_rules.proofs.Facts.{refuting}
use Rattle.ss_search_reached.specs.declared.reached.Reached.{Reached}
use Rattle.ss_search_reached.specs.Known.{known_in}
use Rattle.ss_search_reached.specs.Following.{IsOpenBranch, AreUnits, IsOpen}

unfoldable pub open_is_saturated : (cs : List ClassTree) (b : Forms) (r : Reached) → IsOpen cs b r → IsSaturated cs (known_in b r)
open_is_saturated cs b r h = record {
  parts = λ fs c. h.spread (And fs) c fs refl;
  branches = λ fs c. h.branches (Or fs) c fs refl;
  model = model_by (class_of b r.classes.items) (basics (known_in b r));
  refutes = refuting cs (class_of b r.classes.items) (basics (known_in b r)) h.sums.facts h.fits h.sums.literals h.sums.equalities h.sums.none;
}

pub open_model : (cs : List ClassTree) (b : Forms) (r : Reached) (h : IsOpen cs b r) → (open_is_saturated cs b r h).model ≡ model_by (class_of b r.classes.items) (basics (known_in b r))
unfolding open_is_saturated
open_model cs b r h = refl

-- what follows is known already
pub units_known : (b : Forms) (known units : List FormulaId) → AreUnits b known known units → Includes (formulas_at b known) (formulas_at b units) →
    (f : Formula) → Contains (formulas_at b known) f → IsOpenBranch (formulas_at b known) (formulas_at b known) f
units_known b known units u i f c fs e = ⊎_elim
    (λ m. inl (m.0, m.1, ⊎_elim (λ k. k) (λ k. i m.0 k) (Contains-append_cases (formulas_at b known) (formulas_at b units) m.0 m.2)))
    (λ t. inr t)
    (u.branches f c fs e)
