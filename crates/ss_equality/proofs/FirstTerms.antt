-- The first terms and their signatures.
use Rattle.std.proofs.Common.{◌≡◌, ℕ, ◌+◌, ◌-◌, ◌<◌, ◌≤◌, List, [], ◌∷◌, ◌++◌, length, Some, refl, sym, ◌∙◌, ap, subst, ⊎_elim, arith}
use Rattle.std.specs.Prelude.{slice_get}
use Rattle.std.proofs.lemmas.List.{length_push}
use Rattle.ss_terms.specs.Forms.{Forms, TermShape, term_at, term_of, TermBelow}
use Rattle.ss_terms.specs.Bank.{number}
use Rattle.ss_equality_rules.specs.declared.Merge.{Merge}
use Rattle.ss_equality_rules.specs.declared.Join.{Join}
use Rattle.ss_equality_rules.specs.declared.Pending.{Pending}
use Rattle.ss_equality_rules.specs.Equal.{AreFormsOf, AreFirstFormsOf}
use Rattle.ss_equality_rules.specs.Whole.{Signature, IsOnTheWay, numbers}
use Rattle.ss_equality_rules.proofs.Lists.{pushed}
use Rattle.ss_equality_rules.proofs.Way.{all_wait, numbers_have, numbers_next, numbers_end}

pub first_none : (b : Forms) (ts : List TermShape) → ts ≡ [] → AreFirstFormsOf b 0 ts
first_none b ts e = subst (AreFirstFormsOf b 0) (sym e) (record {
  all = refl;
  built = λ t n at. absurd (none t n at);
  below = λ t n at. absurd (none t n at);
})
  where
    none : (t : ℕ) (n : TermShape) → slice_get {X = TermShape} [] t ≡ Some n → ⊥
    none t n at = cc

pub first_more : (b : Forms) (k : ℕ) (ts ts' : List TermShape) (n : TermShape) → AreFirstFormsOf b k ts → ts' ≡ ts ++ n ∷ [] → term_at b (number k) ≡ term_of (term_at b) n → TermBelow k n → AreFirstFormsOf b (k + 1) ts'
first_more b k ts ts' n f e is small = subst (AreFirstFormsOf b (k + 1)) (sym e) (record {
  all = length_push ts n ∙ ap (λ z. z + 1) f.all;
  built = λ t m at. ⊎_elim
      (λ old. f.built t m old)
      (λ new. subst (λ z. term_at b (number t) ≡ term_of (term_at b) z) new.1 (ap (λ z. term_at b (number z)) (new.0 ∙ f.all) ∙ is))
      (pushed ts n m t at);
  below = λ t m at. ⊎_elim
      (λ old. f.below t m old)
      (λ new. subst (λ z. TermBelow t z) new.1 (subst (λ z. TermBelow z n) (sym (new.0 ∙ f.all)) small))
      (pushed ts n m t at);
})

pub first_all : (b : Forms) (k : ℕ) (ts : List TermShape) → AreFirstFormsOf b k ts → k ≡ length b.terms → AreFormsOf b ts
first_all b k ts f e = subst (λ (n : ℕ). AreFirstFormsOf b n ts) e f

pub all_numbers : (fs : List TermShape) (es : List Join) (sigs : List Signature) (ps : List Pending) → es ≡ [] → sigs ≡ [] → ps ≡ [] → IsOnTheWay fs [] es sigs ps (numbers 0 (length fs - 0))
all_numbers fs es sigs ps a b c =
    subst (λ x. IsOnTheWay fs [] x sigs ps (numbers 0 (length fs - 0))) (sym a)
    (subst (λ x. IsOnTheWay fs [] [] x ps (numbers 0 (length fs - 0))) (sym b)
    (subst (λ x. IsOnTheWay fs [] [] [] x (numbers 0 (length fs - 0))) (sym c)
    (all_wait fs (numbers 0 (length fs - 0)) (λ w h. numbers_have 0 (length fs - 0) w (omega arith) (omega (arith, h))))))

module _ (fs : List TermShape) (ms : List Merge) (es : List Join) (sigs : List Signature) (ps : List Pending) (i n : ℕ) (on : IsOnTheWay fs ms es sigs ps (numbers i (n - i))) where
  pub one_number : i < n → IsOnTheWay fs ms es sigs ps (i ∷ numbers (i + 1) (n - (i + 1)))
  one_number h = subst (IsOnTheWay fs ms es sigs ps) (numbers_next i n h) on

  pub no_number : n ≤ i → IsOnTheWay fs ms es sigs ps []
  no_number h = subst (IsOnTheWay fs ms es sigs ps) (numbers_end i n h) on
