-- A formula under more bound names is true where it was.
use Rattle.std.proofs.Common.{◌≡◌, ℕ, suc, ◌+◌, List, [], ◌∷◌, ◌++◌, length, refl, ◌∙◌, ap, append_assoc, arith}
use Rattle.std.specs.Prelude.{slice_get, unwrap_or}
use Rattle.std.proofs.Math.Path.{fun_ext}
use Rattle.ss_core.specs.Tree.{ClassTree}
use Rattle.ss_logic.specs.Values.{null, Value, thing, Structure}
use Rattle.ss_logic.specs.Terms.{Term, Bound, App, Terms, no_terms, term_then, applied, value_of, values_of}
use Rattle.ss_logic.specs.Formulas.{Formula, Formulas, Literal, And, Or, Forall, Exists, no_formulas, formula_then, Holds, Signed, AreOf, True, AllTrue, NoneTrue}
use Rattle.ss_logic.specs.Frames.{lifted_term, lifted_terms, lifted, all_lifted}

past : (vs e : List Value) (k : ℕ) → slice_get (vs ++ e) (length vs + k) ≡ slice_get e k
past [] e k = let n : 0 + k ≡ k = omega arith in ap (slice_get e) n
past (v ∷ vs) e k = let n : suc (length vs) + k ≡ suc (length vs + k) = omega arith in ap (slice_get (v ∷ vs ++ e)) n ∙ past vs e k

module _ (cs : List ClassTree) (m : Structure) (vs : List Value) where
  mutual
    value_lifted : (e : List Value) (t : Term) → value_of cs m (vs ++ e) (lifted_term (length vs) t) ≡ value_of cs m e t
    value_lifted e (Bound k) = ap (λ o. unwrap_or o (thing null)) (past vs e k)
    value_lifted e (App f ts) = ap (applied cs m f) (values_lifted e ts)

    values_lifted : (e : List Value) (ts : Terms) → values_of cs m (vs ++ e) (lifted_terms (length vs) ts) ≡ values_of cs m e ts
    values_lifted e no_terms = refl
    values_lifted e (term_then t ts) = ap (λ v. v ∷ values_of cs m (vs ++ e) (lifted_terms (length vs) ts)) (value_lifted e t) ∙ ap (λ us. value_of cs m e t ∷ us) (values_lifted e ts)

  longer : (e us : List Value) → (vs ++ e) ++ us ≡ vs ++ (e ++ us)
  longer e us = append_assoc vs e us

  mutual
    pub True-lifted : (e : List Value) (f : Formula) → True cs m (vs ++ e) (lifted (length vs) f) ≡ True cs m e f
    True-lifted e (Literal sign p ts) = ap (λ us. Signed sign (Holds cs m p us)) (values_lifted e ts)
    True-lifted e (And fs) = AllTrue-lifted e fs
    True-lifted e (Or fs) = ap (λ (X : Type 0). X → ⊥) (NoneTrue-lifted e fs)
    True-lifted e (Forall ss f) =
        ap (λ (P : List Value → Type 0). (us : List Value) → AreOf ss us → P us)
        (fun_ext (λ us. ap (λ w. True cs m w (lifted (length vs) f)) (longer e us) ∙ True-lifted (e ++ us) f))
    True-lifted e (Exists ss f) =
        ap (λ (P : List Value → Type 0). ((us : List Value) → AreOf ss us → P us → ⊥) → ⊥)
        (fun_ext (λ us. ap (λ w. True cs m w (lifted (length vs) f)) (longer e us) ∙ True-lifted (e ++ us) f))

    AllTrue-lifted : (e : List Value) (fs : Formulas) → AllTrue cs m (vs ++ e) (all_lifted (length vs) fs) ≡ AllTrue cs m e fs
    AllTrue-lifted e no_formulas = refl
    AllTrue-lifted e (formula_then f fs) =
        ap (λ (X : Type 0). X × AllTrue cs m (vs ++ e) (all_lifted (length vs) fs)) (True-lifted e f)
        ∙ ap (λ (Y : Type 0). True cs m e f × Y) (AllTrue-lifted e fs)

    NoneTrue-lifted : (e : List Value) (fs : Formulas) → NoneTrue cs m (vs ++ e) (all_lifted (length vs) fs) ≡ NoneTrue cs m e fs
    NoneTrue-lifted e no_formulas = refl
    NoneTrue-lifted e (formula_then f fs) =
        ap (λ (X : Type 0). (X → ⊥) × NoneTrue cs m (vs ++ e) (all_lifted (length vs) fs)) (True-lifted e f)
        ∙ ap (λ (Y : Type 0). (True cs m e f → ⊥) × Y) (NoneTrue-lifted e fs)
