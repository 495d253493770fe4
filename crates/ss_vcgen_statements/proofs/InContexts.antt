-- What checks and new constants leave as it is: the locals, the store, the guard and what is known, and so what expressions mean.
use Rattle.std.proofs.Common.{◌≡◌, ℕ, List, [], ◌∷◌, Bool, true, false, refl, sym, ap, ◌∙◌}
use Rattle.ss_core.specs.declared.names.Kind.{Kind}
use Rattle.ss_core.specs.declared.names.Place.{Place}
use Rattle.ss_core.specs.declared.names.Mark.{Mark}
use Rattle.ss_core.specs.declared.names.Mark.TheVariants as mark
use Rattle.ss_core.specs.Tree.{ExprTree}
use Rattle.ss_logic.specs.declared.Sort.{Sort}
use Rattle.ss_logic.specs.Terms.{Term}
use Rattle.ss_logic.specs.Formulas.{Formula}
use Rattle.ss_logic.specs.Express.{Meant, One, Either, Says, meant}
use Rattle.ss_vcgen_heaps.specs.Parts.{Part, parts}
use Rattle.ss_core.specs.declared.names.Kind.TheVariants as kind
use Rattle.std.specs.Prelude.{slice_get}
use Rattle.ss_logic.specs.Terms.{Pack, app}
use Rattle.ss_logic.specs.Shapes.{null_term, differ}
use Rattle.ss_vcgen_heaps.specs.Positions.{Position, Walk, check, check_all, check_unless, check_parts, context_at, site, evaluate, evaluate_all, meant_at, settled, local_term, term_or_null, with_store}
use Rattle.ss_vcgen_heaps.specs.Obligations.{check_owners, check_local, is_known_local, pack, owned_are_full, invariants_said, classes_of}
use Rattle.ss_vcgen_statements.specs.Words.{checked_level, checked_invariants}

-- the locals, the store, the guard and what is known are the same
pub record IsAlike (k l : Position) : Type 0 where
  pub locals : k.locals ≡ l.locals
  pub store : k.store ≡ l.store
  pub known : k.known ≡ l.known
  pub guard : k.guard ≡ l.guard

pub alike : (k : Position) → IsAlike k k
alike k = record { locals = refl; store = refl; known = refl; guard = refl }

pub alike_then : (j k l : Position) → IsAlike j k → IsAlike k l → IsAlike j l
alike_then j k l p q = record { locals = p.locals ∙ q.locals; store = p.store ∙ q.store; known = p.known ∙ q.known; guard = p.guard ∙ q.guard }

module _ (w : Walk) where
  pub parts_alike : (ps : List Part) (k : Position) → IsAlike (check_parts w ps k) k
  parts_alike [] k = alike k
  parts_alike (p ∷ ps) k = let h = parts_alike ps (check w p.kind p.place p.formula k) in record { locals = h.locals; store = h.store; known = h.known; guard = h.guard }

  pub evaluate_alike : (e : ExprTree) (k : Position) → IsAlike (evaluate w e k) k
  evaluate_alike e k = parts_alike (parts e (site w) k.known (context_at w k)) k

  pub all_alike : (es : List ExprTree) (k : Position) → IsAlike (evaluate_all w es k) k
  all_alike [] k = alike k
  all_alike (e ∷ es) k = alike_then (evaluate_all w es (evaluate w e k)) (evaluate w e k) k (all_alike es (evaluate w e k)) (evaluate_alike e k)

  pub unless_alike : (known : Bool) (kind : Kind) (at : Place) (f : Formula) (k : Position) → IsAlike (check_unless known w kind at f k) k
  unless_alike true kind at f k = alike k
  unless_alike false kind at f k = record { locals = refl; store = refl; known = refl; guard = refl }

  pub checks_alike : (kind : Kind) (at : Place) (fs : List Formula) (k : Position) → IsAlike (check_all w kind at fs k) k
  checks_alike kind at [] k = alike k
  checks_alike kind at (f ∷ fs) k = let h = checks_alike kind at fs (check w kind at f k) in record { locals = h.locals; store = h.store; known = h.known; guard = h.guard }

  pub owners_alike : (m : Mark) (at : Place) (o : Term) (t : ℕ) (v : Term) (k : Position) → IsAlike (check_owners m w at o t v k) k
  owners_alike mark.Plain at o t v k = alike k
  owners_alike mark.Rep at o t v k = record { locals = refl; store = refl; known = refl; guard = refl }
  owners_alike mark.Peer at o t v k = record { locals = refl; store = refl; known = refl; guard = refl }

pub settled_alike : (m : Meant) (s : Sort) (k : Position) → IsAlike (settled m s k) k
settled_alike (One t) s k = alike k
settled_alike (Either xs) s k = record { locals = refl; store = refl; known = refl; guard = refl }
settled_alike (Says f) s k = record { locals = refl; store = refl; known = refl; guard = refl }

pub context_alike : (w : Walk) (k l : Position) → IsAlike k l → context_at w k ≡ context_at w l
context_alike w k l h = ap (λ ls. context_at w (record k { locals = ls })) h.locals ∙ ap (λ s. context_at w (record k { locals = l.locals; store = s })) h.store

pub meant_alike : (w : Walk) (e : ExprTree) (k l : Position) → IsAlike k l → meant_at w e k ≡ meant_at w e l
meant_alike w e k l h = ap (meant e) (context_alike w k l h)

-- what packing asks for of the invariants speaks of the position before
module _ (w : Walk) (at : Place) (x t : ℕ) where
  local_alike : (k : Position) → IsAlike (check_local w at x k) k
  local_alike k = unless_alike w (is_known_local w k x) kind.Null at (differ (local_term x k) null_term) k

  level_alike : (k : Position) → IsAlike (checked_level w at x t k) k
  level_alike k = let h = local_alike k in record { locals = h.locals; store = h.store; known = h.known; guard = h.guard }

  -- the object and the store of these are those of others
  swapped : (f : Term → Term → Position) (k l : Position) → IsAlike k l → f k.store (local_term x k) ≡ f l.store (local_term x l)
  swapped f k l h = ap (λ s. f s (local_term x k)) h.store ∙ ap (λ ls. f l.store (term_or_null (slice_get ls x))) h.locals

  pub packed_at : (k : Position) → with_store (app (Pack t) (k.store ∷ local_term x k ∷ [])) (checked_invariants w at x t (checked_level w at x t k)) ≡ pack w at x t k
  packed_at k =
      let l = checked_level w at x t k in
      swapped (λ s o. with_store (app (Pack t) (k.store ∷ local_term x k ∷ [])) (check w kind.PackOwned at (owned_are_full s o t) (check_all w kind.Invariant at (invariants_said (classes_of w) s o t) l))) l k (level_alike k)
