-- Origins that are noted beside a list.
use Rattle.std.proofs.Common.{◌≡◌, List, [], ◌∷◌, ◌++◌, length, refl, sym, ◌∙◌, ap, subst}
use Rattle.std.proofs.lemmas.List.{map_push, length-map}
use Rattle.ss_core.specs.Tree.{ClassTree}
use Rattle.ss_logic.specs.Terms.{Term}
use Rattle.ss_logic.specs.Formulas.{Formula}
use Rattle.ss_logic.specs.Occurring.{with_formula}
use Rattle.ss_logic_means.specs.Origins.{Choice, Said, Instance, IsOrigin, AreOrigins}
use Rattle.ss_logic_means.proofs.ListedOrigins.{no_origins, one_origin_more, not_new, is_new}
use Rattle.ss_terms.specs.declared.forms.FormulaId.{FormulaId}
use Rattle.ss_terms.specs.Forms.{Forms, terms_at, formula_at, HasTerms, IsGrown}
use Rattle.ss_terms.proofs.Grown.{HasFormula-grown, HasTerms-grown, terms_at-grown}
use Rattle.ss_rules_asked.specs.Numbers.{asked_with}
use Rattle.ss_rules_asked.proofs.Grown.{HasRule-grown, rule_at-grown}
use Rattle.ss_rules_occurring.specs.declared.found.FormulaList.{FormulaList}
use Rattle.ss_rules_occurring.specs.Found.{formulas_of, Holds}
use Rattle.ss_rules_opened.specs.declared.origins.Source.{Source}
use Rattle.ss_rules_opened.specs.declared.origins.Source.TheVariants as source
use Rattle.ss_rules_opened.specs.declared.origins.Origin.{Origin}
use Rattle.ss_rules_opened.specs.Views.{origin_with, origin_at, origins_at, HasSource, HasOrigins, ComeFrom}

-- ---- as the bank grows

module _ (a b : Forms) (g : IsGrown a b) where
  HasSource-grown : (s : Source) → HasSource a s → HasSource b s
  HasSource-grown (source.Premise i) h = tt
  HasSource-grown source.Denied h = tt
  HasSource-grown (source.Rule r) h = HasRule-grown a b g r h
  HasSource-grown (source.Forall f) h = HasFormula-grown a b g f h

  pub origin_with-grown : (s : Source) (ts : List Term) → HasSource a s → origin_with b s ts ≡ origin_with a s ts
  origin_with-grown (source.Premise i) ts h = refl
  origin_with-grown source.Denied ts h = refl
  origin_with-grown (source.Rule r) ts h = ap (λ x. Said (asked_with x ts)) (rule_at-grown a b g r h)
  origin_with-grown (source.Forall f) ts h = ap (λ x. Instance x ts) (g.same_formulas f h)

  HasOrigins-grown : (os : List Origin) → HasOrigins a os → HasOrigins b os
  HasOrigins-grown [] h = tt
  HasOrigins-grown (o ∷ os) h = (HasSource-grown o.source h.0, HasTerms-grown a b g o.terms.items h.1, HasOrigins-grown os h.2)

  origins_at-grown : (os : List Origin) → HasOrigins a os → origins_at b os ≡ origins_at a os
  origins_at-grown [] h = refl
  origins_at-grown (o ∷ os) h =
      ap (λ x. x ∷ origins_at b os) (origin_with-grown o.source (terms_at b o.terms.items) h.0 ∙ ap (origin_with a o.source) (terms_at-grown a b g o.terms.items h.1))
      ∙ ap (λ xs. origin_at a o ∷ xs) (origins_at-grown os h.2)

  module _ (cs : List ClassTree) (premises : List Formula) (goal : Formula) (choices : List Choice) where
    pub ComeFrom-grown : (fs : List Formula) (os : List Origin) → ComeFrom cs premises goal choices a fs os → ComeFrom cs premises goal choices b fs os
    ComeFrom-grown fs os h = record {
      has = HasOrigins-grown os h.has;
      are = subst (AreOrigins cs premises goal choices fs) (sym (origins_at-grown os h.has)) h.are;
    }

-- ---- one formula more

HasOrigins-push : (b : Forms) (os : List Origin) (o : Origin) → HasOrigins b os → HasSource b o.source → HasTerms b o.terms.items → HasOrigins b (os ++ o ∷ [])
HasOrigins-push b [] o h k l = (k, l, tt)
HasOrigins-push b (p ∷ os) o h k l = (h.0, h.1, HasOrigins-push b os o h.2 k l)

module _ (cs : List ClassTree) (premises : List Formula) (goal : Formula) (choices : List Choice) (b : Forms) where
  pub none_come : ComeFrom cs premises goal choices b [] []
  none_come = record { has = tt; are = no_origins cs premises goal choices }

  -- the list has the formula, and the origin stands after those before
  pub one_more_comes : (fs gs : List Formula) (f : Formula) (os ps : List Origin) (o : Origin) → gs ≡ fs ++ f ∷ [] → ps ≡ os ++ o ∷ [] → HasSource b o.source → HasTerms b o.terms.items →
      IsOrigin cs premises goal choices fs (origin_at b o) f → ComeFrom cs premises goal choices b fs os → ComeFrom cs premises goal choices b gs ps
  one_more_comes fs gs f os ps o e n k l is h =
      subst (λ xs. ComeFrom cs premises goal choices b xs ps) (sym e)
      (subst (λ ys. ComeFrom cs premises goal choices b (fs ++ f ∷ []) ys) (sym n)
      (record {
        has = HasOrigins-push b os o h.has k l;
        are = subst (AreOrigins cs premises goal choices (fs ++ f ∷ [])) (sym (map_push (origin_at b) os o)) (one_origin_more cs premises goal choices fs (origins_at b os) f (origin_at b o) h.are is);
      }))

module _ (b : Forms) (s after : FormulaList) (f : FormulaId) (added : Holds b after (with_formula (formulas_of b s) (formula_at b f))) where
  pub list_stays : length after.list.items ≡ length s.list.items → formulas_of b after ≡ formulas_of b s
  list_stays e = not_new (formulas_of b s) (formulas_of b after) (formula_at b f) added.are (length-map after.list.items (formula_at b) ∙ e ∙ sym (length-map s.list.items (formula_at b)))

  pub list_grows : (length after.list.items ≡ length s.list.items → ⊥) → formulas_of b after ≡ formulas_of b s ++ formula_at b f ∷ []
  list_grows n = is_new (formulas_of b s) (formulas_of b after) (formula_at b f) added.are (λ e. n (sym (length-map after.list.items (formula_at b)) ∙ e ∙ length-map s.list.items (formula_at b)))
