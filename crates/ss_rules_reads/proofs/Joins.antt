-- What is said of an owner where two objects were joined, over planned terms.
use Rattle.std.proofs.Common.{◌≡◌, List, [], ◌∷◌, map, Bool, true, false, refl}
use Rattle.ss_logic.specs.Equal.{same_term}
use Rattle.ss_logic.specs.Formulas.{Formula}
use Rattle.ss_logic.specs.Shapes.{null_term, owner_of}
use Rattle.ss_logic.specs.Reads.{OwnerLook, over_join}
use Rattle.ss_terms.specs.declared.forms.TermId.{TermId}
use Rattle.ss_terms.specs.Forms.{Forms, term_at}
use Rattle.ss_rules_basic.specs.declared.plans.Slot.TheVariants.{Known}
use Rattle.ss_rules_basic.specs.Plans.{slot_value, clause_at}
use Rattle.ss_rules_reads.specs.Joined.{joined_clauses}

module _ (b : Forms) (after s o e p : TermId) where
  -- what the clauses say
  abbrev Said : Bool → Bool → Bool → List Formula
  Said null joined other =
      map (clause_at (slot_value (term_at b) (
      owner_of (term_at b after) (term_at b p)
      ∷ owner_of (term_at b s) (term_at b p)
      ∷ owner_of (term_at b s) (term_at b e)
      ∷ owner_of (term_at b s) (term_at b o)
      ∷ null_term
      ∷ []))) (joined_clauses null joined other (Known e))

  abbrev Meant : List Formula
  Meant = over_join (term_at b after) (term_at b s) (term_at b o) (term_at b e) (OwnerLook (term_at b p))

  pub joins_said : (null joined other : Bool) → null ≡ same_term (term_at b e) null_term → joined ≡ same_term (owner_of (term_at b s) (term_at b p)) (owner_of (term_at b s) (term_at b e)) →
      other ≡ same_term (owner_of (term_at b s) (term_at b p)) (owner_of (term_at b s) (term_at b o)) → Said null joined other ≡ Meant
  joins_said true true true n j k = rw (← n, ← j, ← k) refl
  joins_said true true false n j k = rw (← n, ← j, ← k) refl
  joins_said true false true n j k = rw (← n, ← j, ← k) refl
  joins_said true false false n j k = rw (← n, ← j, ← k) refl
  joins_said false true true n j k = rw (← n, ← j, ← k) refl
  joins_said false true false n j k = rw (← n, ← j, ← k) refl
  joins_said false false true n j k = rw (← n, ← j, ← k) refl
  joins_said false false false n j k = rw (← n, ← j, ← k) refl
