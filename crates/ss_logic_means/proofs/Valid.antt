-- What is derived is valid, since the rules are true.
use Rattle.std.proofs.Common.{List}
use Rattle.ss_core.specs.Tree.{ClassTree}
use Rattle.ss_core.specs.Chain.{IsChain, NoAlso}
use Rattle.ss_logic.specs.Formulas.{Formula, IsValid}
use Rattle.ss_logic.proofs.Ruling.{instance_of_true}
use Rattle.ss_logic.proofs.Goods.{good_instance_true}
use Rattle.ss_logic_means.specs.Scenes.{AreInvariants}
use Rattle.ss_logic_means.proofs.Invariants.{invariants_true}
use Rattle.ss_logic_means.specs.Steps.{Line, Derives}
use Rattle.ss_logic_means.proofs.Sound.{AreRules, IsValid-Derives}

are_rules : (cs : List ClassTree) → IsChain cs → NoAlso cs → AreInvariants cs → AreRules cs
are_rules cs chain none are = record {
  every = λ m name ts f e. instance_of_true cs m chain none name ts f e;
  good = λ m name s ts f e t. good_instance_true cs none m name s ts f e t;
  invariants = λ m s ts f e t. invariants_true cs chain none are m s f ts e t;
}

pub derived_valid : (cs : List ClassTree) → IsChain cs → NoAlso cs → AreInvariants cs → (premises : List Formula) (goal : Formula) (lines : List Line) → Derives cs premises goal lines → IsValid cs premises goal
derived_valid cs chain none are premises goal lines d = IsValid-Derives cs (are_rules cs chain none are) premises goal lines d
