-- What numbers of a bank say of instances of the rule on invariants.
use Rattle.std.proofs.Common.{◌≡◌, ℕ, List, [], ◌∷◌, map, true, Option, Some, None, Result, Ok, Err, refl, ◌∙◌, ap, subst}
use Rattle.std.specs.Prelude.{IfOk, Vec, if◌then◌else◌}
use Rattle.std.specs.declared.alloc.Global.{Global}
use Rattle.ss_core.specs.Tree.{ClassTree, ExprTree}
use Rattle.ss_store_rules.specs.Admissible.{invariants}
use Rattle.ss_logic.specs.declared.Sort.TheVariants as sort
use Rattle.ss_logic.specs.Terms.{Term, have_sorts}
use Rattle.ss_logic.specs.Shapes.{class_of_term}
use Rattle.ss_logic.specs.Express.{holds_formula}
use Rattle.ss_logic.specs.Express as spec
use Rattle.ss_logic.specs.Invariants.{invariant_context, packed_invariants, invariants_at, invariants_of}
use Rattle.ss_terms.specs.declared.forms.TermId.{TermId}
use Rattle.ss_terms.specs.declared.forms.FormulaId.{FormulaId}
use Rattle.ss_terms.specs.Forms.{Forms, term_at, HasTerm, IsFormulaNumber, IsGrown}
use Rattle.ss_terms.proofs.Grown.{IsGrown-refl}
use Rattle.ss_vcgen_express.specs.Numbers.{IsFormula, AreFormulas}
use Rattle.ss_vcgen_heaps.specs.Contracts.{conditions}

module _ (cs : List ClassTree) (store object : TermId) (class : ℕ) where
  -- conditions of the context of an invariant say what the invariants do
  pub each_so : {E : Type 0} (r : Result (Vec FormulaId Global) E) (a : Forms) (context : Forms → spec.Context) (es : List ExprTree) → es ≡ invariants cs class →
      ((b : Forms) → context b ≡ invariant_context cs (term_at b store) (term_at b object) class) → IfOk r (λ v. AreFormulas a v.items (λ b. conditions es (context b))) →
      IfOk r (λ v. AreFormulas a v.items (λ b. map (λ e. holds_formula e (invariant_context cs (term_at b store) (term_at b object) class)) (invariants cs class)))
  each_so (Ok v) a context es same is h = record {
    has = h.has;
    are = λ b g. h.are b g ∙ ap (λ s. map (λ e. holds_formula e s) es) (is b) ∙ ap (λ xs. map (λ e. holds_formula e (invariant_context cs (term_at b store) (term_at b object) class)) xs) same;
  }
  each_so (Err z) a context es same is h = tt

  -- the instance of the bank that has become this one
  pub instance_so : (a b : Forms) (f : FormulaId) → IsGrown a b → HasTerm a store → HasTerm a object → IsFormula b f (λ x. packed_invariants cs (term_at x store) (term_at x object) class) →
      IsFormulaNumber b (Some (packed_invariants cs (term_at a store) (term_at a object) class)) (Some f)
  instance_so a b f g s o h = (
    f,
    refl,
    h.has,
    h.is b (IsGrown-refl b) ∙ ap (λ t. packed_invariants cs t (term_at b object) class) (g.same_terms store s) ∙ ap (λ t. packed_invariants cs (term_at a store) t class) (g.same_terms object o),
  )

-- an instance at a class is one at terms that are an object and the name of the class
pub terms_so : {E : Type 0} (r : Result (Option FormulaId) E) (b : Forms) (cs : List ClassTree) (s o t : Term) (class : Option ℕ) →
    true ≡ have_sorts cs (sort.Store ∷ sort.Rest ∷ []) (s ∷ o ∷ []) → class ≡ class_of_term t → IfOk r (λ f. IsFormulaNumber b (invariants_at cs s o class) f) → IfOk r (λ f. IsFormulaNumber b (invariants_of cs s (o ∷ t ∷ [])) f)
terms_so r b cs s o t class sorts same h =
    subst (λ k. IfOk r (λ f. IsFormulaNumber b (if k then invariants_at cs s o (class_of_term t) else None) f)) sorts (subst (λ k. IfOk r (λ f. IsFormulaNumber b (invariants_at cs s o k) f)) same h)
