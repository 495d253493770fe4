-- Sentences on good stores: the instances of the rules on good stores, with those of the rule on invariants.
use Rattle.std.specs.Prelude.{◌≡◌, ℕ, List, [], ◌∷◌, Some, slice_get}
use Rattle.ss_core.specs.Tree.{ClassTree}
use Rattle.ss_logic.specs.Terms.{Term}
use Rattle.ss_logic.specs.Formulas.{Good, Formula, atom}
use Rattle.ss_logic.specs.declared.GoodRule.{GoodRule}
use Rattle.ss_logic.specs.GoodRules.{good_instance_of}
use Rattle.ss_logic.specs.Invariants.{invariants_of}

-- what one of the rules says of the store, if it is good
pub data IsOfGood (cs : List ClassTree) (s : Term) (f : Formula) : Type 0 where
  Instance : (name : GoodRule) (ts : List Term) → good_instance_of cs name s ts ≡ Some f → IsOfGood cs s f
  OfInvariants : (ts : List Term) → invariants_of cs s ts ≡ Some f → IsOfGood cs s f

-- A sentence on a store that one of the premises says is good.
pub record FollowsFromGood (cs : List ClassTree) (premises : List Formula) (f : Formula) : Type 0 where
  pub place : ℕ
  pub store : Term
  pub is_good : slice_get premises place ≡ Some (atom Good (store ∷ []))
  pub sentence : IsOfGood cs store f

abbrev pub AllFollowFromGood : List ClassTree → List Formula → List Formula → Type 0
AllFollowFromGood cs premises [] = Unit {0}
AllFollowFromGood cs premises (f ∷ fs) = FollowsFromGood cs premises f × AllFollowFromGood cs premises fs
