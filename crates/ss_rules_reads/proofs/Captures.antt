-- What is said of an owner where the group of an object was captured, over planned terms.
use Rattle.std.proofs.Common.{◌≡◌, ℕ, List, [], ◌∷◌, map, Bool, true, false, refl}
use Rattle.ss_logic.specs.Equal.{same_term}
use Rattle.ss_logic.specs.Formulas.{Formula}
use Rattle.ss_logic.specs.Shapes.{null_term, class_term, owner_of, pair_of}
use Rattle.ss_logic.specs.Reads.{OwnerLook, over_capture}
use Rattle.ss_terms.specs.declared.forms.TermId.{TermId}
use Rattle.ss_terms.specs.Forms.{Forms, term_at}
use Rattle.ss_rules_basic.specs.declared.plans.Slot.TheVariants.{Known}
use Rattle.ss_rules_basic.specs.Plans.{slot_value, clause_at}
use Rattle.ss_rules_reads.specs.Captured.{captured_clauses}

module _ (b : Forms) (after s o e p : TermId) (t : ℕ) where
  -- what the clauses say
  abbrev Said : Bool → Bool → List Formula
  Said null captured =
      map (clause_at (slot_value (term_at b) (
      owner_of (term_at b after) (term_at b p)
      ∷ owner_of (term_at b s) (term_at b p)
      ∷ owner_of (term_at b s) (term_at b e)
      ∷ class_term t
      ∷ null_term
      ∷ pair_of (term_at b o) (class_term t)
      ∷ []))) (captured_clauses null captured (Known e))

  abbrev Meant : List Formula
  Meant = over_capture (term_at b after) t (term_at b s) (term_at b o) (term_at b e) (OwnerLook (term_at b p))

  pub captures_said : (null captured : Bool) → null ≡ same_term (term_at b e) null_term → captured ≡ same_term (owner_of (term_at b s) (term_at b p)) (owner_of (term_at b s) (term_at b e)) →
      Said null captured ≡ Meant
  captures_said true true n j = rw (← n, ← j) refl
  captures_said true false n j = rw (← n, ← j) refl
  captures_said false true n j = rw (← n, ← j) refl
  captures_said false false n j = rw (← n, ← j) refl
