-- Instances that aren't made again.
use Rattle.std.proofs.Common.{◌≡◌, ℕ, zero, suc, List, [], ◌∷◌, ◌++◌, length, true, refl, sym, ◌∙◌, ap, subst, rules, Option, Some, None}
use Rattle.std.specs.Prelude.{slice_get, IfSome}
use Rattle.std.specs.Bool.{Decides}
use Rattle.std.specs.Cmp.Lexicographic.{pointwise}
use Rattle.std.proofs.lemmas.Bool.{and_parts, eqb-true, eq-eqb, false≢true}
use Rattle.std.proofs.lemmas.Slice.Eq.{slice_eq-Decides}
use Rattle.ss_core.specs.Tree.{ClassTree}
use Rattle.ss_logic.specs.Formulas.{Formula}
use Rattle.ss_logic.specs.Asked.{said}
use Rattle.ss_logic.specs.declared.RuleName.{RuleName}
use Rattle.ss_logic.specs.declared.GoodRule.{GoodRule}
use Rattle.ss_logic.specs.contracts.RuleNamePartialEq.TheImpl as name_eq
use Rattle.ss_logic.specs.contracts.GoodRulePartialEq.TheImpl as good_eq
use Rattle.ss_terms.specs.declared.forms.TermId.{TermId}
use Rattle.ss_terms.specs.declared.forms.FormulaId.{FormulaId}
use Rattle.ss_terms.specs.contracts.forms.TermIdPartialEq.TheImpl as term_id_eq
use Rattle.ss_terms.specs.Forms.{Forms, IsFormulaNumber, IsGrown}
use Rattle.ss_terms.proofs.Grown.{HasFormula-grown}
use Rattle.ss_rules_asked.specs.declared.asked.Argument.{Argument}
use Rattle.ss_rules_asked.specs.declared.asked.Argument.TheVariants as argument
use Rattle.ss_rules_asked.specs.declared.asked.Rule.{Rule}
use Rattle.ss_rules_asked.specs.declared.asked.Rule.TheVariants as rule
use Rattle.ss_rules_asked.specs.declared.asked.Asked.{Asked}
use Rattle.ss_rules_asked.specs.contracts.asked.ArgumentPartialEq.TheImpl as argument_eq
use Rattle.ss_rules_asked.specs.contracts.asked.RulePartialEq.TheImpl as rule_eq
use Rattle.ss_rules_asked.specs.contracts.asked.AskedPartialEq.TheImpl as asked_eq
use Rattle.ss_rules_asked.specs.Numbers.{asked_at, asked_with, rule_at, arguments_at, HasRule, HasArguments, HasAsked}
use Rattle.ss_rules_asked.proofs.Grown.{asked_at-grown, HasRule-grown, HasArguments-grown}
use Rattle.ss_rules.specs.declared.made.Made.{Made}
use Rattle.ss_rules_occurring.specs.declared.found.FormulaList.{FormulaList}
use Rattle.ss_rules_occurring.specs.Found.{formulas_of, Holds, HasFound}
use Rattle.ss_rules_occurring.proofs.Growing.{formulas_of-grown}
use Rattle.ss_rules.specs.AreMade.{AreMade, AreNumbers}
use Rattle.ss_rules.specs.Said.{with_said}

pub if_some : {A : Type 0} (P : A → Type 0) (o : Option A) → ((x : A) → o ≡ Some x → P x) → IfSome o P
if_some P None h = tt
if_some P (Some x) h = h x refl

-- ---- in a bank that has grown

pub IsFormulaNumber-grown : (a b : Forms) → IsGrown a b → (o : Option Formula) (r : Option FormulaId) → IsFormulaNumber a o r → IsFormulaNumber b o r
IsFormulaNumber-grown a b g None r h = h
IsFormulaNumber-grown a b g (Some x) r (f, e, has, is) = (f, e, HasFormula-grown a b g f has, g.same_formulas f has ∙ is)

asked_there : (b : Forms) (xs : List Asked) (k : ℕ) (x : Asked) → HasAsked b xs → slice_get xs k ≡ Some x → HasRule b x.rule × HasArguments b x.arguments.items
asked_there b [] k x h e = cc
asked_there b (y ∷ xs) zero x h e = let same : y ≡ x = cc in subst (λ (z : Asked). HasRule b z.rule × HasArguments b z.arguments.items) same (h.0, h.1)
asked_there b (y ∷ xs) (suc k) x h e = asked_there b xs k x h.2 e

pub HasAsked-grown : (a b : Forms) → IsGrown a b → (xs : List Asked) → HasAsked a xs → HasAsked b xs
HasAsked-grown a b g [] h = tt
HasAsked-grown a b g (x ∷ xs) h = (HasRule-grown a b g x.rule h.0, HasArguments-grown a b g x.arguments.items h.1, HasAsked-grown a b g xs h.2)

module _ (cs : List ClassTree) where
  pub AreNumbers-grown : (a b : Forms) → IsGrown a b → (xs : List Asked) (fs : List (Option FormulaId)) → HasAsked a xs → AreNumbers cs a xs fs → AreNumbers cs b xs fs
  AreNumbers-grown a b g xs fs h are = λ k x o e f.
      let at = asked_there a xs k x h e in
      subst (λ y. IsFormulaNumber b (said cs y) o) (sym (asked_at-grown a b g x at.0 at.1)) (IsFormulaNumber-grown a b g (said cs (asked_at a x)) o (are k x o e f))

  pub AreMade-grown : (a b : Forms) → IsGrown a b → (m : Made) → AreMade cs a m → AreMade cs b m
  AreMade-grown a b g m h = record { has = HasAsked-grown a b g m.asked.items h.has; are = AreNumbers-grown a b g m.asked.items m.found.items h.has h.are }

  pub no_numbers : (b : Forms) (xs : List Asked) (fs : List (Option FormulaId)) → fs ≡ [] → AreNumbers cs b xs fs
  no_numbers b xs fs none = subst (AreNumbers cs b xs) (sym none) (λ k x o e f. cc)

  pushed : {P : Type 0} (fs : List (Option FormulaId)) (o : Option FormulaId) (k : ℕ) (p : Option FormulaId) → slice_get (fs ++ o ∷ []) k ≡ Some p → (slice_get fs k ≡ Some p → P) → (k ≡ length fs → o ≡ p → P) → P
  pushed [] o zero p e old new = let same : o ≡ p = cc in new refl same
  pushed [] o (suc k) p e old new = cc
  pushed (y ∷ fs) o zero p e old new = old e
  pushed (y ∷ fs) o (suc k) p e old new = pushed fs o k p e old (λ d s. new (ap suc d) s)

  -- one number more
  pub next_number : (a b : Forms) → IsGrown a b → (xs : List Asked) (fs gs : List (Option FormulaId)) (o : Option FormulaId) (i : ℕ) (d : Asked) → HasAsked a xs → i ≡ length fs → slice_get xs i ≡ Some d →
      AreNumbers cs a xs fs → gs ≡ fs ++ o ∷ [] → IsFormulaNumber b (said cs (asked_at a d)) o → AreNumbers cs b xs gs
  next_number a b g xs fs gs o i d h count there are is number = subst (AreNumbers cs b xs) (sym is) (λ k x p e f.
      pushed fs o k p f
      (λ old. AreNumbers-grown a b g xs fs h are k x p e old)
      (λ last same.
      let one : x ≡ d = cc in
      let at = asked_there a xs k x h e in
      subst (λ q. IsFormulaNumber b (said cs (asked_at b x)) q) same
      (subst (λ y. IsFormulaNumber b (said cs y) o) (sym (asked_at-grown a b g x at.0 at.1 ∙ ap (asked_at a) one)) number)))

-- ---- the same instance

term_id_Decides : (a b : TermId) → Decides ((term_id_eq.ghosts).eq a b) (a ≡ b)
term_id_Decides a b = search rules

name_Decides : (a b : RuleName) → Decides ((name_eq.ghosts).eq a b) (a ≡ b)
name_Decides a b = search rules

good_Decides : (a b : GoodRule) → Decides ((good_eq.ghosts).eq a b) (a ≡ b)
good_Decides a b = search rules

argument_Decides : (a b : Argument) → Decides ((argument_eq.ghosts).eq a b) (a ≡ b)
argument_Decides (argument.Term t) (argument.Term u) = (λ e. ap argument.Term ((term_id_Decides t u).0 e), λ e. let same : t ≡ u = cc in (term_id_Decides t u).1 same)
argument_Decides (argument.Number n) (argument.Number m) = (λ e. ap argument.Number (eqb-true n m e), λ e. let same : n ≡ m = cc in eq-eqb n m same)
argument_Decides (argument.Class n) (argument.Class m) = (λ e. ap argument.Class (eqb-true n m e), λ e. let same : n ≡ m = cc in eq-eqb n m same)
argument_Decides _ _ = (λ e. absurd (false≢true e), λ e. cc)

same_rule : (a b : Rule) → (rule_eq.ghosts).eq a b ≡ true → a ≡ b
same_rule (rule.True x) (rule.True y) e = ap rule.True ((name_Decides x y).0 e)
same_rule (rule.Good x s) (rule.Good y t) e =
    let p = and_parts ((good_eq.ghosts).eq x y) ((term_id_eq.ghosts).eq s t) e in
    ap (λ z. rule.Good z s) ((good_Decides x y).0 p.0) ∙ ap (rule.Good y) ((term_id_Decides s t).0 p.1)
same_rule (rule.Invariants s) (rule.Invariants t) e = ap rule.Invariants ((term_id_Decides s t).0 e)
same_rule _ _ e = absurd (false≢true e)

pub same_asked : (b : Forms) (x y : Asked) → (asked_eq.ghosts).eq x y ≡ true → asked_at b x ≡ asked_at b y
same_asked b x y e =
    let p = and_parts ((rule_eq.ghosts).eq x.rule y.rule) (pointwise (argument_eq.ghosts).eq x.arguments.items y.arguments.items) e in
    ap (λ r. asked_with (rule_at b r) (arguments_at b x.arguments.items)) (same_rule x.rule y.rule p.0)
    ∙ ap (λ xs. asked_with (rule_at b y.rule) (arguments_at b xs)) ((slice_eq-Decides argument_Decides x.arguments.items y.arguments.items (pointwise (argument_eq.ghosts).eq x.arguments.items y.arguments.items) refl).0 p.1)

-- ---- a list with what it says

pub holds_in : (a b c : Forms) (start s : FormulaList) (o x : Option Formula) → IsGrown a b → HasFound a start → o ≡ x → Holds c s (with_said (formulas_of b start) o) → Holds c s (with_said (formulas_of a start) x)
holds_in a b c start s o x g h e k = record { marked = k.marked; has = k.has; are = k.are ∙ ap (λ fs. with_said fs o) (formulas_of-grown a b start g h) ∙ ap (with_said (formulas_of a start)) e }
