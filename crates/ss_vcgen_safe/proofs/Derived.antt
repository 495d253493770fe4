-- What is derived is valid, obligation by obligation.
use Rattle.std.proofs.Common.{List, [], ◌∷◌}
use Rattle.ss_core.specs.Tree.{ClassTree}
use Rattle.ss_core.specs.Chain.{IsChain, NoAlso}
use Rattle.ss_logic_means.specs.Scenes.{AreInvariants}
use Rattle.ss_logic_means.specs.Steps.{Line}
use Rattle.ss_logic_means.proofs.Valid.{derived_valid}
use Rattle.ss_vcgen_heaps.specs.Positions.{Obligation}
use Rattle.ss_vcgen_heaps.specs.Obligations.{AreValid}
use Rattle.ss_vcgen_safe.specs.Derived.{AreDerived}

pub all_valid : (cs : List ClassTree) → IsChain cs → NoAlso cs → AreInvariants cs → (os : List Obligation) (ds : List (List Line)) → AreDerived cs os ds → AreValid cs os
all_valid cs chain beside are [] [] h = tt
all_valid cs chain beside are [] (d ∷ ds) h = absurd h
all_valid cs chain beside are (o ∷ os) [] h = absurd h
all_valid cs chain beside are (o ∷ os) (d ∷ ds) h = (derived_valid cs chain beside are o.premises o.goal d h.0, all_valid cs chain beside are os ds h.1)
