use Rattle.std.proofs.Common.{◌≡◌, take}
use Rattle.ss_core.specs.declared.names.Place.{Place}
use Rattle.ss_typed.specs.Tree.{ExprTree}
use Rattle.ss_expand_rules.specs.Calls.{has_call}
use Rattle.ss_typed.specs.Parts.{stepped}
use Rattle.ss_expand_lifting.proofs.fronts.steps_without_call.Given as goal

abbrev pub invariant-loop-index : goal.invariant-loop-index
invariant-loop-index l = (p : Place) → (e : ExprTree) → has_call (stepped p e (take l.index l.steps)) ≡ has_call e
