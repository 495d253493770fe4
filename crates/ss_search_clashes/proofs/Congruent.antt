-- A join by congruence, and the arguments that are read of its terms.
use Rattle.std.proofs.Common.{◌≡◌, ℕ, ◌+◌, ◌<◌, List, [], ◌∷◌, ◌++◌, length, Bool, true, None, Some, subst, sym}
use Rattle.std.specs.Prelude.{slice_get}
use Rattle.ss_logic_means.specs.Steps.{Cong}
use Rattle.ss_terms.specs.declared.forms.TermId.{TermId}
use Rattle.ss_terms.specs.declared.forms.Symbol.{Symbol}
use Rattle.ss_terms.specs.Forms.{Forms, TermShape, AppShape, term_at}
use Rattle.ss_terms.specs.Bank.{number}
use Rattle.ss_deriv.specs.declared.line.Line.{Line}
use Rattle.ss_deriv.specs.Lines.{lines_of}
use Rattle.ss_equality_rules.specs.declared.Merge.{Merge}
use Rattle.ss_equality_rules.specs.declared.Join.{Join}
use Rattle.ss_equality_rules.specs.Equal.{AreFormsOf}
use Rattle.ss_equality_rules.specs.Names.{IsLog}
use Rattle.ss_equality_rules.specs.Whole.{AreCaused}
use Rattle.ss_search_clashes.specs.Ways.{ways, ArePaired}
use Rattle.ss_search_clashes.specs.Needed.{Marks, IsCongruence, MarksJoin}
use Rattle.ss_search_clashes.specs.Placed.{chains, AddsChains, IsPlaced}
use Rattle.ss_search_clashes.proofs.Lists.{one_there}
use Rattle.ss_search_clashes.proofs.Arguments.{inside}
use Rattle.ss_search_clashes.proofs.Marks.{congruence_of, paired_of, marks_arguments}
use Rattle.ss_search_clashes.proofs.Places.{placed_congruence}

module _ (b : Forms) (fs : List TermShape) (forms : AreFormsOf b fs) (ms : List Merge) (terms : ℕ) (es : List Join) (log : IsLog terms es) (caused : AreCaused fs ms es) (j : ℕ) (e : Join) (at : slice_get es j ≡ Some e) (why : e.why ≡ None) where
  found : (xs : List TermId) × (ys : List TermId) × IsCongruence fs e xs ys
  found = congruence_of terms es log fs ms caused j e at why

  pub left_inside : e.left < length b.terms
  left_inside = inside b fs forms e.left (AppShape found.2.function found.0) found.2.left

  pub right_inside : e.right < length b.terms
  right_inside = inside b fs forms e.right (AppShape found.2.function found.1) found.2.right

  -- these are the arguments of the term
  abbrev pub AreRead : ℕ → List TermId → Type 0
  AreRead t us = (ts : List TermShape) → AreFormsOf b ts → (f : Symbol) (xs : List TermId) → slice_get ts t ≡ Some (AppShape f xs) → us ≡ xs

  module _ (us vs : List TermId) (left : AreRead e.left us) (right : AreRead e.right vs) where
    lefts : us ≡ found.0
    lefts = left fs forms found.2.function found.0 found.2.left

    rights : vs ≡ found.1
    rights = right fs forms found.2.function found.1 found.2.right

    pub arguments_paired : ArePaired es us vs
    arguments_paired = subst (λ xs. ArePaired es xs vs) (sym lefts) (subst (λ ys. ArePaired es found.0 ys) (sym rights) (paired_of terms es log fs ms caused j e at found.0 found.1 found.2))

    pub arguments_marked : (d : Join) → slice_get es j ≡ Some d → (old new : List Bool) → slice_get old j ≡ Some true → Marks (ways es us vs) old new → MarksJoin fs es j d old new
    arguments_marked d at_d old new marked m =
        subst (λ z. MarksJoin fs es j z old new) (one_there es j e d at at_d) (marks_arguments terms es log fs ms caused j e found.0 found.1 us vs old new marked found.2 lefts rights m)

    pub arguments_placed : (d : Join) → slice_get es j ≡ Some d → (places : List ℕ) (known : ℕ) (old mid new : List Line) (equalities : List ℕ) (place : ℕ) → AddsChains b (chains b es places us vs) known old mid [] equalities →
        lines_of b new ≡ lines_of b mid ++ Cong (term_at b (number e.left)) (term_at b (number e.right)) equalities ∷ [] → place ≡ known + length mid → IsPlaced b fs ms es places known d old new place
    arguments_placed d at_d places known old mid new equalities place added lines_are place_is =
        subst (λ z. IsPlaced b fs ms es places known z old new place) (one_there es j e d at at_d)
        (placed_congruence b fs ms es places known e old mid new us vs found.0 found.1 equalities place found.2 lefts rights added lines_are place_is)
