-- Parts of the walk over statements that one function does.
use Rattle.std.specs.Prelude.{◌≡◌, ℕ, List, [], ◌∷◌}
use Rattle.ss_core.specs.declared.names.Kind.TheVariants as kind
use Rattle.ss_core.specs.declared.names.Place.{Place}
use Rattle.ss_core.specs.declared.names.Mark.{Mark}
use Rattle.ss_core.specs.Tree.{ExprTree}
use Rattle.ss_core.specs.Chain.{above}
use Rattle.ss_logic.specs.Terms.{Set, Term, app}
use Rattle.ss_logic.specs.Formulas.{Formula, neg}
use Rattle.ss_logic.specs.Shapes.{class_term, level_of, owner_of, pair_of, equal, differ, sub_atom, allocated, committed}
use Rattle.ss_logic.specs.Express.{and_of, or_of, is_full}
use Rattle.ss_terms.specs.declared.forms.TermId.{TermId}
use Rattle.ss_terms.specs.Forms.{Forms, terms_at, HasTerms, IsGrown}
use Rattle.ss_vcgen_heaps.specs.Positions.{Position, Walk, check, check_all, local_term}
use Rattle.ss_vcgen_heaps.specs.Obligations.{classes_of, check_not_null, check_local, check_owners, owned_store, is_index, invariants_said, owned_are_full}
use Rattle.ss_vcgen_builder.specs.declared.builder.Builder.{Builder}
use Rattle.ss_vcgen_builder.specs.Builder.{position_at, Becomes}

-- the bank may have grown, and nothing else has changed
abbrev pub Stays : Builder → Builder → Type 0
Stays s t = Becomes s t (λ b. position_at b s)

-- the bank has the terms, and in it and in each that it grows to they are these
pub record AreTerms (a : Forms) (ts : List TermId) (say : Forms → List Term) : Type 0 where
  pub has : HasTerms a ts
  pub are : (b : Forms) → IsGrown a b → terms_at b ts ≡ say b

-- ---- writes

abbrev pub checked_write : Walk → Place → ExprTree → Mark → ℕ → Term → Term → Position → Position
checked_write w at e m t o v k = check_owners m w at o t v (check w kind.WriteLevel at (neg (sub_atom (level_of k.store o) (class_term t))) (check_not_null w at e o k))

abbrev pub written_store : ℕ → Mark → ℕ → Term → Term → Position → Term
written_store f m t o v k = app (Set f) (owned_store m k.store o t v ∷ o ∷ v ∷ [])

abbrev pub checked_element : Walk → Place → ExprTree → Term → Term → Position → Position
checked_element w at e a i k = check w kind.WriteCommitted at (neg (committed k.store a)) (check w kind.Index at (is_index a i) (check_not_null w at e a k))

-- ---- levels

abbrev pub checked_unpack : Walk → Place → ℕ → ℕ → Position → Position
checked_unpack w at x t k =
    let o = local_term x k in
    check w kind.UnpackCommitted at (neg (committed k.store o)) (check w kind.UnpackLevel at (equal (level_of k.store o) (class_term t)) (check_local w at x k))

abbrev pub checked_level : Walk → Place → ℕ → ℕ → Position → Position
checked_level w at x t k = check w kind.PackLevel at (equal (level_of k.store (local_term x k)) (class_term (above (classes_of w) t))) (check_local w at x k)

abbrev pub checked_invariants : Walk → Place → ℕ → ℕ → Position → Position
checked_invariants w at x t k =
    let o = local_term x k in
    check w kind.PackOwned at (owned_are_full k.store o t) (check_all w kind.Invariant at (invariants_said (classes_of w) k.store o t) k)

-- it is new, or not owned by the object at the class, or full and not committed
abbrev pub full_where_owned : Term → Term → ℕ → Term → Formula
full_where_owned s o t v = or_of (neg (allocated s v) ∷ differ (owner_of s v) (pair_of o (class_term t)) ∷ and_of (is_full s v ∷ neg (committed s v) ∷ []) ∷ [])
