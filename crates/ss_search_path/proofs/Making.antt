-- What the lines make known, which is well formed.
use Rattle.std.proofs.Common.{◌≡◌, ℕ, List, [], ◌∷◌, ◌++◌, true, ◌&&◌, Some, option_and_then, sym, ◌∙◌, ap, subst}
use Rattle.std.specs.Prelude.{slice_get}
use Rattle.std.proofs.lemmas.Bool.{and_parts}
use Rattle.ss_core.specs.Tree.{ClassTree}
use Rattle.ss_logic.specs.declared.Sort.{Sort}
use Rattle.ss_logic.specs.Terms.{Term, have_sorts}
use Rattle.ss_logic.specs.Formulas.{Formula, Literal, And, Or, Forall, Exists, is_well_formed, neg, put}
use Rattle.ss_logic.specs.declared.RuleName.{RuleName}
use Rattle.ss_logic.specs.declared.GoodRule.{GoodRule}
use Rattle.ss_logic.specs.Shapes.{when}
use Rattle.ss_logic.specs.Rules.{instance_of}
use Rattle.ss_logic.specs.GoodRules.{good_instance_of}
use Rattle.ss_logic.proofs.Options.{when_some}
use Rattle.ss_logic.specs.Invariants.{invariants_of}
use Rattle.ss_logic_means.specs.Scenes.{AreInvariants}
use Rattle.ss_logic_means.proofs.Stated as stated
use Rattle.ss_logic_means.specs.Steps.{Premise, Denied, Part, Inst, Choose, Rule, GoodLine, InvariantsLine, part_of, body_at, are_constants, are_new, chosen, choice, good_store}
use Rattle.ss_logic_means.proofs.Ruling.{instance_formed}
use Rattle.ss_logic_means.proofs.Goods.{good_instance_formed}
use Rattle.ss_logic_means.proofs.Putting.{forall_formed, choice_formed, part_formed}
use Rattle.ss_terms.proofs.Tested.{neg_formed}
use Rattle.ss_search_path.specs.Paths.{Makes}

module _ (cs : List ClassTree) (premises : List Formula) (goal : Formula) (known : List Formula) where
  pub premise_makes : (i : ℕ) (f : Formula) → slice_get premises i ≡ Some f → is_well_formed cs [] f ≡ true → Makes cs premises goal known (Premise i) f
  premise_makes i f is formed = record { fact = is; formed = formed }

  pub denied_makes : (f : Formula) → f ≡ neg goal → is_well_formed cs [] goal ≡ true → Makes cs premises goal known Denied f
  denied_makes f is formed = record { fact = ap Some (sym is); formed = ap (is_well_formed cs []) is ∙ neg_formed cs [] goal ∙ formed }

  pub part_makes : (i j : ℕ) (whole f : Formula) → slice_get known i ≡ Some whole → part_of j whole ≡ Some f → is_well_formed cs [] whole ≡ true → Makes cs premises goal known (Part i j) f
  part_makes i j whole f at is formed = record { fact = ap (option_and_then (part_of j)) at ∙ is; formed = part_formed cs j whole f formed is }

  pub instance_makes : (i : ℕ) (ts : List Term) (f : Formula) (ss : List Sort) (body : Formula) → slice_get known i ≡ Some (Forall ss body) → have_sorts cs ss ts ≡ true → f ≡ put ts body → is_well_formed cs [] (Forall ss body) ≡ true →
      Makes cs premises goal known (Inst i ts) f
  instance_makes i ts f ss body at sorts is formed = record {
    fact = ap (option_and_then (body_at cs ts)) at ∙ ap (λ t. when t (put ts body)) sorts ∙ ap Some (sym is);
    formed = ap (is_well_formed cs []) is ∙ forall_formed cs ss body ts formed sorts;
  }

  chosen_formed : (used : List Formula) (whole : Formula) (ts : List Term) (f : Formula) → choice used whole ts ≡ Some f → is_well_formed cs [] whole ≡ true → is_well_formed cs [] f ≡ true
  chosen_formed used (Literal s p us) ts f is formed = cc
  chosen_formed used (And fs) ts f is formed = cc
  chosen_formed used (Or fs) ts f is formed = cc
  chosen_formed used (Forall ss body) ts f is formed = cc
  chosen_formed used (Exists ss body) ts f is formed =
      let w = when_some (are_constants ss ts && are_new (body ∷ used) ts) (chosen ss body ts) f is in
      let p = and_parts (are_constants ss ts) (are_new (body ∷ used) ts) w.0 in
      subst (λ g. is_well_formed cs [] g ≡ true) w.1 (choice_formed cs ss body ts formed p.0)

  pub choice_makes : (whole : Formula) (ts : List Term) (f : Formula) → choice (goal ∷ premises ++ known) whole ts ≡ Some f → is_well_formed cs [] whole ≡ true → Makes cs premises goal known (Choose whole ts) f
  choice_makes whole ts f is formed = record { fact = is; formed = chosen_formed (goal ∷ premises ++ known) whole ts f is formed }

  pub rule_makes : (name : RuleName) (ts : List Term) (f : Formula) → instance_of cs name ts ≡ Some f → Makes cs premises goal known (Rule name ts) f
  rule_makes name ts f is = record { fact = is; formed = instance_formed cs name ts f is }

  pub good_makes : (name : GoodRule) (i : ℕ) (ts : List Term) (f : Formula) (s : Term) → option_and_then good_store (slice_get known i) ≡ Some s → good_instance_of cs name s ts ≡ Some f → Makes cs premises goal known (GoodLine name i ts) f
  good_makes name i ts f s at is = record { fact = ap (option_and_then (λ t. good_instance_of cs name t ts)) at ∙ is; formed = good_instance_formed cs name s ts f is }

  pub invariants_makes : (i : ℕ) (ts : List Term) (f : Formula) (s : Term) → option_and_then good_store (slice_get known i) ≡ Some s → invariants_of cs s ts ≡ Some f → AreInvariants cs → Makes cs premises goal known (InvariantsLine i ts) f
  invariants_makes i ts f s at is are = record { fact = ap (option_and_then (λ t. invariants_of cs t ts)) at ∙ is; formed = stated.instance_formed cs are s f ts is }
