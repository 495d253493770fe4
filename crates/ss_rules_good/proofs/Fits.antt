-- What the rules say of reads and fields that fit.
use Rattle.std.proofs.Common.{◌≡◌, ℕ, List, Bool, true, false, Option, Some, None, refl, sym, ◌∙◌, ap}
use Rattle.std.specs.Prelude.{if◌then◌else◌}
use Rattle.ss_core.specs.Tree.{ClassTree}
use Rattle.std.proofs.Common.{[], ◌∷◌, ◌≤◌, length, arith}
use Rattle.ss_terms.specs.declared.forms.TermId.{TermId}
use Rattle.ss_terms.specs.Forms.{Forms, term_at, terms_at}
use Rattle.ss_logic.specs.Terms.{Term}
use Rattle.ss_logic.specs.Formulas.{Formula}
use Rattle.ss_logic.specs.Shapes.{when, natural_of}
use Rattle.ss_logic.specs.Reads.{Look, look_from, is_look}
use Rattle.ss_logic.specs.Good.{typed_look, typed_read, typed_of, ready_look, ready_read}
use Rattle.ss_rules_basic.specs.Looks.{fitting}

some_none : {A : Type 0} (a : A) → Some a ≡ None → ⊥
some_none a e = cc

none_some : {A : Type 0} (a : A) → None ≡ Some a → ⊥
none_some a e = cc

-- ---- reads

-- a rule that asks of its read that it fits
abbrev asked : List ClassTree → (Look → Option Formula) → Option Look → Option Formula
asked cs says (Some l) = if is_look cs l then says l else None
asked cs says None = None

asked_fit : (cs : List ClassTree) (says : Look → Option Formula) (o : Option Look) (l : Look) → fitting cs o ≡ Some l → says l ≡ asked cs says o
asked_fit cs says None l e = absurd (none_some l e)
asked_fit cs says (Some k) l e = test (is_look cs k) refl
  where
    test : (b : Bool) → is_look cs k ≡ b → says l ≡ (if is_look cs k then says k else None)
    test true h =
        let same : Some k ≡ Some l = ap (λ b. when b k) (sym h) ∙ e in
        let one : l ≡ k = cc in
        ap says one ∙ sym (ap (λ b. if b then says k else None) h)
    test false h = absurd (none_some l (ap (λ b. when b k) (sym h) ∙ e))

asked_none : (cs : List ClassTree) (says : Look → Option Formula) (o : Option Look) → fitting cs o ≡ None → asked cs says o ≡ None
asked_none cs says None e = refl
asked_none cs says (Some k) e = test (is_look cs k) refl
  where
    test : (b : Bool) → is_look cs k ≡ b → (if is_look cs k then says k else None) ≡ None
    test true h = absurd (some_none k (ap (λ b. when b k) (sym h) ∙ e))
    test false h = ap (λ b. if b then says k else None) h

typed_asked : (cs : List ClassTree) (s : Term) (o : Option Look) → asked cs (typed_look cs s) o ≡ typed_read cs s o
typed_asked cs s None = refl
typed_asked cs s (Some l) = refl

ready_asked : (cs : List ClassTree) (s : Term) (o : Option Look) → asked cs (ready_look cs s) o ≡ ready_read cs s o
ready_asked cs s None = refl
ready_asked cs s (Some l) = refl

module _ (cs : List ClassTree) (s : Term) (o : Option Look) where
  pub typed_fit : (l : Look) → fitting cs o ≡ Some l → typed_look cs s l ≡ typed_read cs s o
  typed_fit l e = asked_fit cs (typed_look cs s) o l e ∙ typed_asked cs s o

  pub typed_none : fitting cs o ≡ None → typed_read cs s o ≡ None
  typed_none e = sym (typed_asked cs s o) ∙ asked_none cs (typed_look cs s) o e

  pub ready_fit : (l : Look) → fitting cs o ≡ Some l → ready_look cs s l ≡ ready_read cs s o
  ready_fit l e = asked_fit cs (ready_look cs s) o l e ∙ ready_asked cs s o

  pub ready_none : fitting cs o ≡ None → ready_read cs s o ≡ None
  ready_none e = sym (ready_asked cs s o) ∙ asked_none cs (ready_look cs s) o e

-- too many arguments name no read
pub many_typed : (cs : List ClassTree) (s : Term) (b : Forms) (ts : List TermId) → 5 ≤ length ts → typed_of cs s (terms_at b ts) ≡ None
many_typed cs s b [] h = absurd (omega arith)
many_typed cs s b (k ∷ []) h = absurd (omega arith)
many_typed cs s b (k ∷ t ∷ []) h = absurd (omega arith)
many_typed cs s b (k ∷ t ∷ u ∷ []) h = absurd (omega arith)
many_typed cs s b (k ∷ t ∷ u ∷ v ∷ []) h = absurd (omega arith)
many_typed cs s b (k ∷ t ∷ u ∷ v ∷ w ∷ ts) h = unnamed (natural_of (term_at b k)) refl
  where
    unnamed : (n : Option ℕ) → natural_of (term_at b k) ≡ n → typed_read cs s (look_from (term_at b k) (terms_at b (t ∷ u ∷ v ∷ w ∷ ts))) ≡ None
    unnamed None e = rw e refl
    unnamed (Some n) e = rw e refl
