use Rattle.std.proofs.Common.{◌≡◌, take}
use Rattle.ss_core.specs.declared.names.Place.{Place}
use Rattle.ss_typed.specs.Tree.{ExprTree}
use Rattle.ss_typed.specs.Types.{type_of}
use Rattle.ss_typed.specs.Parts.{stepped}
use Rattle.ss_typed.proofs.static_types.path_type.Given as goal

abbrev pub invariant-loop-step : goal.invariant-loop-step
invariant-loop-step l = (p : Place) → (e : ExprTree) → type_of e ≡ l.fn.first → type_of (stepped p e (take l.step-index l.steps)) ≡ l.ty
