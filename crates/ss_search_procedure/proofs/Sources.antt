-- What the origin of a formula makes known, and what guards it.
use Rattle.std.proofs.Common.{◌≡◌, ℕ, zero, suc, ◌≤◌, List, [], ◌∷◌, length, true, ◌&&◌, Some, refl, sym, ◌∙◌, ap, subst}
use Rattle.std.specs.Prelude.{slice_get, option_and_then}
use Rattle.std.proofs.lemmas.Bool.{and_parts}
use Rattle.std.proofs.lemmas.List.{drop_all}
use Rattle.std.proofs.lemmas.Option.{slice_get-map}
use Rattle.ss_core.specs.Tree.{ClassTree}
use Rattle.ss_logic.specs.Terms.{Term}
use Rattle.ss_logic.specs.Formulas.{Good, Formula, Forall, Exists, Literal, And, Or, formulas_from, atom, is_well_formed, neg, put}
use Rattle.ss_logic.proofs.Truth.{neg_neg}
use Rattle.ss_logic.specs.declared.RuleName.{RuleName}
use Rattle.ss_logic.specs.declared.GoodRule.{GoodRule}
use Rattle.ss_logic.specs.GoodRules.{good_instance_of}
use Rattle.ss_logic.proofs.Options.{mapped_some}
use Rattle.ss_logic.specs.Invariants.{invariants_of}
use Rattle.ss_logic_means.specs.Sorts.{AreWellFormed}
use Rattle.ss_logic_means.proofs.Sorting.{neg_formed}
use Rattle.ss_logic_means.specs.Steps as tree
use Rattle.ss_logic_means.specs.Steps.{good_store}
use Rattle.ss_logic.specs.Asked.{Rule, OfGood, OfInvariants, if_good}
use Rattle.ss_logic_means.specs.Origins.{Choice, Origin, Premise, Denied, Said, Instance, opened_by}
use Rattle.ss_terms.specs.declared.forms.FormulaId.{FormulaId}
use Rattle.ss_terms.specs.declared.forms.TermId.{TermId}
use Rattle.ss_terms.specs.Forms.{Forms, term_at, terms_at, formula_at, formulas_at}
use Rattle.ss_rules_asked.specs.declared.asked.Rule.TheVariants as rule
use Rattle.ss_rules_opened.specs.declared.origins.Source.{Source}
use Rattle.ss_rules_opened.specs.declared.origins.Source.TheVariants as source
use Rattle.ss_rules_opened.specs.declared.origins.Origin as code
use Rattle.ss_rules_opened.specs.Views.{origin_with, origin_at}
use Rattle.ss_search_path.specs.Paths.{Makes}
use Rattle.ss_search_path.proofs.Making.{premise_makes, denied_makes, rule_makes, good_makes, invariants_makes, instance_makes}
use Rattle.ss_search_path.specs.Standing.{line_from, IsGuarded}
use Rattle.ss_search_procedure.specs.Starting.{ComesFrom, IsStated}

pub at_formed : (cs : List ClassTree) (fs : List Formula) → AreWellFormed cs [] fs → (i : ℕ) (f : Formula) → slice_get fs i ≡ Some f → is_well_formed cs [] f ≡ true
at_formed cs [] h i f e = cc
at_formed cs (g ∷ fs) h zero f e = let same : g ≡ f = cc in subst (λ x. is_well_formed cs [] x ≡ true) same h.0
at_formed cs (g ∷ fs) h (suc i) f e = at_formed cs fs h.1 i f e

module _ (cs : List ClassTree) (premises : List Formula) (goal : Formula) (choices : List Choice) where
  -- ---- facts

  premise_stated : (i : ℕ) (p f : Formula) → slice_get premises i ≡ Some p → opened_by choices p ≡ f → ComesFrom cs premises goal choices (Premise i) f → IsStated cs premises goal choices (Premise i) p 0 f
  premise_stated i p f at opened h = record { makes = λ known. premise_makes cs premises goal known i p at (at_formed cs premises h.given.1 i p at); opened = opened }

  denied_stated : (n f : Formula) → n ≡ neg goal → ComesFrom cs premises goal choices Denied f → IsStated cs premises goal choices Denied n 0 f
  denied_stated n f is h = record { makes = λ known. denied_makes cs premises goal known n is h.given.0; opened = ap (opened_by choices) is ∙ h.origin }

  rule_stated : (name : RuleName) (ts : List Term) (f : Formula) (from : ℕ) → length choices ≤ from → ComesFrom cs premises goal choices (Said (Rule name ts)) f → IsStated cs premises goal choices (Said (Rule name ts)) f from f
  rule_stated name ts f from past h = record { makes = λ known. rule_makes cs premises goal known name ts f h.origin; opened = ap (λ xs. opened_by xs f) (drop_all from choices past) }

  -- ---- guarded formulas

  guard_formed : (guard body f : Formula) → f ≡ Or (formulas_from (neg guard ∷ body ∷ [])) → is_well_formed cs [] f ≡ true → is_well_formed cs [] guard ≡ true
  guard_formed guard body f is formed =
      let p = and_parts (is_well_formed cs [] (neg guard)) (is_well_formed cs [] body && true) (subst (λ x. is_well_formed cs [] x ≡ true) is formed) in
      subst (λ x. is_well_formed cs [] x ≡ true) (neg_neg guard) (neg_formed cs [] (neg guard) p.0)

  stored : (known : List Formula) (place : ℕ) (s : Term) → slice_get known place ≡ Some (atom Good (s ∷ [])) → option_and_then good_store (slice_get known place) ≡ Some s
  stored known place s at = ap (option_and_then good_store) at

  good_guarded : (name : GoodRule) (s : Term) (ts : List Term) (f : Formula) → ComesFrom cs premises goal choices (Said (OfGood name s ts)) f → IsGuarded cs (Said (OfGood name s ts)) f
  good_guarded name s ts f h =
      let r = mapped_some (if_good s) (good_instance_of cs name s ts) f h.origin in
      record {
        guard = atom Good (s ∷ []);
        body = r.0;
        is = sym r.2;
        cut = refl;
        formed = guard_formed (atom Good (s ∷ [])) r.0 f (sym r.2) h.formed;
        makes = λ premises goal known place at. good_makes cs premises goal known name place ts r.0 s (stored known place s at) r.1;
      }

  invariants_guarded : (s : Term) (ts : List Term) (f : Formula) → ComesFrom cs premises goal choices (Said (OfInvariants s ts)) f → IsGuarded cs (Said (OfInvariants s ts)) f
  invariants_guarded s ts f h =
      let r = mapped_some (if_good s) (invariants_of cs s ts) f h.origin in
      record {
        guard = atom Good (s ∷ []);
        body = r.0;
        is = sym r.2;
        cut = refl;
        formed = guard_formed (atom Good (s ∷ [])) r.0 f (sym r.2) h.formed;
        makes = λ premises goal known place at. invariants_makes cs premises goal known place ts r.0 s (stored known place s at) r.1 h.invariants;
      }

  instance_guarded : (w : Formula) (ts : List Term) (f : Formula) → ComesFrom cs premises goal choices (Instance w ts) f → IsGuarded cs (Instance w ts) f
  instance_guarded (Forall ss g) ts f h =
      let is = h.origin in
      let whole = guard_formed (Forall ss g) (put ts g) f (sym is.1) h.formed in
      record {
        guard = Forall ss g;
        body = put ts g;
        is = sym is.1;
        cut = refl;
        formed = whole;
        makes = λ premises goal known place at. instance_makes cs premises goal known place ts (put ts g) ss g at (is.2 h.before_formed) refl whole;
      }
  instance_guarded (Literal s p us) ts f h = absurd h.origin
  instance_guarded (And fs) ts f h = absurd h.origin
  instance_guarded (Or fs) ts f h = absurd h.origin
  instance_guarded (Exists ss g) ts f h = absurd h.origin

-- ---- by the numbers of a bank

module _ (cs : List ClassTree) (b : Forms) (premises : List FormulaId) (goal : FormulaId) (choices : List Choice) (o : code.Origin) where
  abbrev ts : List Term
  ts = terms_at b o.terms.items

  abbrev Comes : Origin → Formula → Type 0
  Comes w f = ComesFrom cs (formulas_at b premises) (formula_at b goal) choices w f

  abbrev Stated : Origin → Formula → ℕ → Formula → Type 0
  Stated w fact from f = IsStated cs (formulas_at b premises) (formula_at b goal) choices w fact from f

  comes_with : (s : Source) → o.source ≡ s → (f : Formula) → Comes (origin_at b o) f → Comes (origin_with b s ts) f
  comes_with s is f h = subst (λ (r : Source). Comes (origin_with b r ts) f) is h

  stated_with : (s : Source) → o.source ≡ s → (fact : Formula) (from : ℕ) (f : Formula) → Stated (origin_with b s ts) fact from f → Stated (origin_at b o) fact from f
  stated_with s is fact from f h = subst (λ (r : Source). Stated (origin_with b r ts) fact from f) (sym is) h

  guarded_with : (s : Source) → o.source ≡ s → (f : Formula) → IsGuarded cs (origin_with b s ts) f → IsGuarded cs (origin_at b o) f
  guarded_with s is f h = subst (λ (r : Source). IsGuarded cs (origin_with b r ts) f) (sym is) h

  pub stated_premise : (i : ℕ) → o.source ≡ source.Premise i → (p : FormulaId) → ((q : FormulaId) → slice_get premises i ≡ Some q → p ≡ q) → (f : Formula) → Comes (origin_at b o) f → Stated (origin_at b o) (formula_at b p) 0 f
  stated_premise i is p says f h =
      let from = comes_with (source.Premise i) is f h in
      let r = mapped_some (opened_by choices) (slice_get (formulas_at b premises) i) f from.origin in
      let q = mapped_some (formula_at b) (slice_get premises i) r.0 (sym (slice_get-map (formula_at b) premises i) ∙ r.1) in
      let same = ap (formula_at b) (says q.0 q.1) ∙ q.2 in
      stated_with (source.Premise i) is (formula_at b p) 0 f
      (premise_stated cs (formulas_at b premises) (formula_at b goal) choices i (formula_at b p) f (r.1 ∙ ap Some (sym same)) (ap (opened_by choices) same ∙ r.2) from)

  pub stated_denied : o.source ≡ source.Denied → (n : FormulaId) → formula_at b n ≡ neg (formula_at b goal) → (f : Formula) → Comes (origin_at b o) f → Stated (origin_at b o) (formula_at b n) 0 f
  stated_denied is n denies f h = stated_with source.Denied is (formula_at b n) 0 f (denied_stated cs (formulas_at b premises) (formula_at b goal) choices (formula_at b n) f denies (comes_with source.Denied is f h))

  pub stated_rule : (name : RuleName) → o.source ≡ source.Rule (rule.True name) → (from : ℕ) → length choices ≤ from → (f : Formula) → Comes (origin_at b o) f → Stated (origin_at b o) f from f
  stated_rule name is from past f h =
      stated_with (source.Rule (rule.True name)) is f from f (rule_stated cs (formulas_at b premises) (formula_at b goal) choices name ts f from past (comes_with (source.Rule (rule.True name)) is f h))

  pub guarded_good : (name : GoodRule) (s : TermId) → o.source ≡ source.Rule (rule.Good name s) → (f : Formula) → Comes (origin_at b o) f → IsGuarded cs (origin_at b o) f
  guarded_good name s is f h =
      guarded_with (source.Rule (rule.Good name s)) is f (good_guarded cs (formulas_at b premises) (formula_at b goal) choices name (term_at b s) ts f (comes_with (source.Rule (rule.Good name s)) is f h))

  pub guarded_invariants : (s : TermId) → o.source ≡ source.Rule (rule.Invariants s) → (f : Formula) → Comes (origin_at b o) f → IsGuarded cs (origin_at b o) f
  guarded_invariants s is f h =
      guarded_with (source.Rule (rule.Invariants s)) is f (invariants_guarded cs (formulas_at b premises) (formula_at b goal) choices (term_at b s) ts f (comes_with (source.Rule (rule.Invariants s)) is f h))

  pub guarded_instance : (w : FormulaId) → o.source ≡ source.Forall w → (f : Formula) → Comes (origin_at b o) f → IsGuarded cs (origin_at b o) f
  guarded_instance w is f h =
      guarded_with (source.Forall w) is f (instance_guarded cs (formulas_at b premises) (formula_at b goal) choices (formula_at b w) ts f (comes_with (source.Forall w) is f h))

-- the line of an origin as it is read
pub line_makes : (cs : List ClassTree) (premises : List Formula) (goal : Formula) (known : List Formula) (b : Forms) (o p : code.Origin) (line : tree.Line) (f : Formula) → o ≡ p → line ≡ line_from (origin_at b p) 0 →
    Makes cs premises goal known (line_from (origin_at b o) 0) f → Makes cs premises goal known line f
line_makes cs premises goal known b o p line f same is h = subst (λ (l : tree.Line). Makes cs premises goal known l f) (ap (λ (q : code.Origin). line_from (origin_at b q) 0) same ∙ sym is) h
