-- Conditions: all the parts of an expression, and that it is true.
use Rattle.std.proofs.Common.{◌≡◌, ℕ, ◌+◌, ◌<◌, List, [], ◌∷◌, ◌++◌, length, map, take, get_or, refl, sym, ◌∙◌, ap, Result, Ok, Err}
use Rattle.std.specs.Prelude.{IfOk}
use Rattle.std.proofs.lemmas.List.{take_more, map_push, map-append}
use Rattle.ss_core.specs.declared.expr.Expr.{Expr}
use Rattle.ss_core.specs.Tree.{ExprTree}
use Rattle.ss_core.specs.View.{expr, exprs}
use Rattle.ss_store_rules.specs.NonNull.{Site, Known}
use Rattle.ss_logic.specs.Formulas.{Formula}
use Rattle.ss_logic.specs.Express as spec
use Rattle.ss_terms.specs.declared.forms.FormulaId.{FormulaId}
use Rattle.ss_terms.specs.Forms.{Forms, formula_at, formulas_at, HasFormulas, IsGrown}
use Rattle.ss_terms.proofs.Grown.{IsGrown-then, HasFormulas-grown}
use Rattle.ss_vcgen_express.specs.declared.meant.Meant.{Meant}
use Rattle.ss_vcgen_express.specs.declared.context.Context.{Context}
use Rattle.ss_vcgen_express.specs.Marked.{Marked, marked, formulas_of}
use Rattle.ss_vcgen_express.specs.Numbers.{IsFormula, AreFormulas}
use Rattle.ss_vcgen_express.specs.Contexts.{context_at}
use Rattle.ss_terms.proofs.Longer.{HasFormulas-push}
use Rattle.ss_vcgen_express.proofs.Marking.{marked_are_defined}
use Rattle.ss_vcgen_walk.specs.declared.parts.Part.{Part}
use Rattle.ss_vcgen_walk.specs.Parts.{parts_at, HasParts}
use Rattle.ss_vcgen_walk.specs.Reading.{Expressed, Defines}

-- what the parts say
abbrev pub formulas_in : List Part → List FormulaId
formulas_in ps = map (λ (p : Part). p.formula) ps

pub formulas_in_parts : (b : Forms) (ps : List Part) → formulas_at b (formulas_in ps) ≡ formulas_of (parts_at b ps)
formulas_in_parts b [] = refl
formulas_in_parts b (p ∷ ps) = ap (λ fs. formula_at b p.formula ∷ fs) (formulas_in_parts b ps)

pub HasFormulas-parts : (b : Forms) (ps : List Part) → HasParts b ps → HasFormulas b (formulas_in ps)
HasFormulas-parts b [] h = tt
HasFormulas-parts b (p ∷ ps) h = (h.0, HasFormulas-parts b ps h.1)

pub formulas_in_more : (ps : List Part) (i : ℕ) (d : Part) (made after : List FormulaId) → i < length ps → after ≡ made ++ (get_or ps i d).formula ∷ [] → made ≡ formulas_in (take i ps) → after ≡ formulas_in (take (i + 1) ps)
formulas_in_more ps i d made after at e was =
    e ∙ ap (λ l. l ++ (get_or ps i d).formula ∷ []) was ∙ sym (map_push (λ (p : Part). p.formula) (take i ps) (get_or ps i d)) ∙ ap formulas_in (sym (take_more ps i d at))

-- where it is read it is defined
pub defines : {E : Type 0} (r : Result Meant E) (c : Forms) (ps before : List Part) (t : ExprTree) (site : Site) (k : Known) (sc : Context) →
    IfOk r (λ m. Expressed c m ps (λ b. spec.meant t (context_at b sc)) (λ b. parts_at b before ++ marked t site k (context_at b sc))) → IfOk r (λ m. Defines c m ps before t sc)
defines (Ok m) c ps before t site k sc h = record {
  meant = h.meant;
  has = h.parts.has;
  defined = λ b j.
      ap formulas_of (h.parts.are b j)
      ∙ map-append (λ (x : Marked). x.part.formula) (parts_at b before) (marked t site k (context_at b sc))
      ∙ ap (λ l. formulas_of (parts_at b before) ++ l) (marked_are_defined site t k (context_at b sc));
}
defines (Err z) c ps before t site k sc h = tt

-- all the parts and one more formula
pub with_last : (a c : Forms) (ps : List Part) (list : List FormulaId) (f : FormulaId) (says : Forms → Formula) → IsGrown a c → list ≡ formulas_in ps → IsFormula a f says →
    (b : Forms) → IsGrown c b → formulas_at b list ++ formula_at b f ∷ [] ≡ formulas_of (parts_at b ps) ++ says b ∷ []
with_last a c ps list f says g e is b k =
    ap (λ l. formulas_at b l ++ formula_at b f ∷ []) e
    ∙ ap (λ l. l ++ formula_at b f ∷ []) (formulas_in_parts b ps)
    ∙ ap (λ x. formulas_of (parts_at b ps) ++ x ∷ []) (is.is b (IsGrown-then a c b g k))

-- one more condition
pub conditions_more : (say : Forms → ExprTree → Formula) (a c : Forms) (es : List Expr) (i : ℕ) (d : Expr) (made after : List FormulaId) (f : FormulaId) → IsGrown a c → i < length es → after ≡ made ++ f ∷ [] →
    AreFormulas a made (λ b. map (say b) (exprs (take i es))) → IsFormula c f (λ b. say b (expr (get_or es i d))) → AreFormulas c after (λ b. map (say b) (exprs (take (i + 1) es)))
conditions_more say a c es i d made after f g at e was is = record {
  has = rw e (HasFormulas-push c made f (HasFormulas-grown a c g made was.has) is.has);
  are = λ b k.
      ap (formulas_at b) e
      ∙ map_push (formula_at b) made f
      ∙ ap (λ l. l ++ formula_at b f ∷ []) (was.are b (IsGrown-then a c b g k))
      ∙ ap (λ x. map (say b) (exprs (take i es)) ++ x ∷ []) (is.is b k)
      ∙ sym (map_push (say b) (exprs (take i es)) (expr (get_or es i d)))
      ∙ ap (map (say b)) (sym (map_push expr (take i es) (get_or es i d)))
      ∙ ap (λ l. map (say b) (exprs l)) (sym (take_more es i d at));
}

-- the condition that is found there
pub at_item : (say : Forms → ExprTree → Formula) (c : Forms) (es : List Expr) (i : ℕ) (d : Expr) (f : FormulaId) → d ≡ get_or es i d → IsFormula c f (λ b. say b (expr d)) → IsFormula c f (λ b. say b (expr (get_or es i d)))
at_item say c es i d f e is = record { has = is.has; is = λ b k. is.is b k ∙ ap (λ x. say b (expr x)) e }
