-- Where what instances say comes from.
use Rattle.std.proofs.Common.{◌≡◌, List, [], ◌∷◌, ◌++◌, length, refl, sym, ◌∙◌, ap, subst, Result, Ok, Err, Option, Some, Vec, Global}
use Rattle.std.specs.Prelude.{OnOk, option_map}
use Rattle.ss_core.specs.Tree.{ClassTree}
use Rattle.ss_logic.specs.Formulas.{Formula}
use Rattle.ss_logic.specs.Asked.{said}
use Rattle.ss_logic.specs.Occurring.{with_formula}
use Rattle.ss_terms.specs.declared.forms.TermId.{TermId}
use Rattle.ss_terms.specs.declared.forms.FormulaId.{FormulaId}
use Rattle.ss_terms.specs.Forms.{Forms, terms_at, formula_at, HasTerms, IsFormulaNumber, IsGrown}
use Rattle.ss_rules_asked.specs.declared.asked.Asked.{Asked}
use Rattle.ss_rules_asked.specs.Numbers.{rule_at, arguments_at, asked_at, asked_with, HasRule, HasArguments}
use Rattle.ss_rules_asked.proofs.Grown.{HasRule-grown, rule_at-grown, asked_at-grown}
use Rattle.ss_rules_occurring.specs.declared.found.FormulaList.{FormulaList}
use Rattle.ss_rules_occurring.specs.Found.{formulas_of, Holds, HasFound}
use Rattle.ss_rules_occurring.proofs.Growing.{formulas_of-grown}
use Rattle.ss_rules_opened.specs.declared.origins.Source.TheVariants as source
use Rattle.ss_rules_opened.specs.declared.origins.Origin.{Origin}
use Rattle.ss_rules_opened.specs.Views.{ComeFrom, StillCome}
use Rattle.ss_rules_opened.proofs.Noting.{ComeFrom-grown, one_more_comes, list_grows}
use Rattle.ss_rules.proofs.Making.{number_is}

-- a formula that is new, noted after its arguments were made
pub new_noted : (cs : List ClassTree) (a b : Forms) (g : IsGrown a b) (s after : FormulaList) (f : FormulaId) (added : Holds a after (with_formula (formulas_of a s) (formula_at a f))) → (length after.list.items ≡ length s.list.items → ⊥) →
    (x : Asked) → HasRule a x.rule → (terms : Vec TermId Global) → HasTerms b terms.items → terms_at b terms.items ≡ arguments_at a x.arguments.items → (os ps : List Origin) → ps ≡ os ++ (record { source = source.Rule x.rule; terms = terms }) ∷ [] →
    said cs (asked_at a x) ≡ Some (formula_at a f) → StillCome cs a (formulas_of a s) os b (formulas_of b after) ps
new_noted cs a b g s after f added new x rule terms has at os ps e is premises goal choices h =
    one_more_comes cs premises goal choices b (formulas_of a s) (formulas_of b after) (formula_at a f) os ps (record { source = source.Rule x.rule; terms = terms })
    (formulas_of-grown a b after g (record { marked = added.marked; has = added.has; are = refl }) ∙ list_grows a s after f added new)
    e (HasRule-grown a b g x.rule rule) has
    (ap (said cs) (ap (λ r. asked_with r (terms_at b terms.items)) (rule_at-grown a b g x.rule rule) ∙ ap (asked_with (rule_at a x.rule)) at) ∙ is)
    (ComeFrom-grown a b g cs premises goal choices (formulas_of a s) os h)

module _ (cs : List ClassTree) (a b d : Forms) (g : IsGrown a b) (s : FormulaList) (has : HasFound a s) (x : Asked) (rule : HasRule a x.rule) (arguments : HasArguments a x.arguments.items) (o : Option FormulaId) (at : IsFormulaNumber b (said cs (asked_at a x)) o)
    (os : List Origin) (gs : List Formula) (ps : List Origin) where
  -- noted after the instance was made
  pub found_noted : ((ks : List ClassTree) → said ks (asked_at b x) ≡ option_map (formula_at b) o → StillCome ks b (formulas_of b s) os d gs ps) → StillCome cs a (formulas_of a s) os d gs ps
  found_noted still premises goal choices h =
      still cs (ap (said cs) (asked_at-grown a b g x rule arguments) ∙ sym (number_is b (said cs (asked_at a x)) o at)) premises goal choices
      (ComeFrom-grown a b g cs premises goal choices (formulas_of b s) os (subst (λ fs. ComeFrom cs premises goal choices a fs os) (sym (formulas_of-grown a b s g has)) h))

pub ok_found_noted : {A E : Type 0} (r : Result A E) (cs : List ClassTree) (a b d : Forms) (g : IsGrown a b) (s : FormulaList) (has : HasFound a s) (x : Asked) (rule : HasRule a x.rule) (arguments : HasArguments a x.arguments.items) (o : Option FormulaId) (at : IsFormulaNumber b (said cs (asked_at a x)) o) →
    (os : List Origin) (gs : List Formula) (ps : List Origin) → OnOk r ((ks : List ClassTree) → said ks (asked_at b x) ≡ option_map (formula_at b) o → StillCome ks b (formulas_of b s) os d gs ps) → OnOk r (StillCome cs a (formulas_of a s) os d gs ps)
ok_found_noted (Ok y) cs a b d g s has x rule arguments o at os gs ps h = found_noted cs a b d g s has x rule arguments o at os gs ps h
ok_found_noted (Err z) cs a b d g s has x rule arguments o at os gs ps h = tt

-- where there is a formula
pub ok_some_noted : {A E : Type 0} (r : Result A E) (b : Forms) (o : Option FormulaId) (f : FormulaId) (x : List ClassTree → Option Formula) (P : List ClassTree → Type 0) → o ≡ Some f → OnOk r ((cs : List ClassTree) → x cs ≡ Some (formula_at b f) → P cs) →
    OnOk r ((cs : List ClassTree) → x cs ≡ option_map (formula_at b) o → P cs)
ok_some_noted (Ok y) b o f x P e h = λ cs is. h cs (is ∙ ap (option_map (formula_at b)) e)
ok_some_noted (Err z) b o f x P e h = tt
