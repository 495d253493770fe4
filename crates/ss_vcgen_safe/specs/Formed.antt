-- Obligations that are well formed, as the checker of derivations asks of what it makes known.
use Rattle.std.specs.Prelude.{◌≡◌, List, [], ◌∷◌, true}
use Rattle.ss_core.specs.Tree.{ClassTree}
use Rattle.ss_logic.specs.Formulas.{is_well_formed}
use Rattle.ss_logic_means.specs.Sorts.{AreWellFormed}
use Rattle.ss_vcgen_heaps.specs.Positions.{Obligation}

-- the goal and the premises are well formed, and have no names but those that they bind
pub record IsWellFormed (cs : List ClassTree) (o : Obligation) : Type 0 where
  pub goal : is_well_formed cs [] o.goal ≡ true
  pub premises : AreWellFormed cs [] o.premises

-- each obligation is
abbrev pub AreFormed : List ClassTree → List Obligation → Type 0
AreFormed cs [] = Unit {0}
AreFormed cs (o ∷ os) = IsWellFormed cs o × AreFormed cs os
