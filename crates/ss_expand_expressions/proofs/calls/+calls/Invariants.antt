use Rattle.std.proofs.Common.{◌≡◌, drop}
use Rattle.ss_core.specs.declared.names.Place.{Place}
use Rattle.ss_typed.specs.Tree.{ExprTree}
use Rattle.ss_expand_rules.specs.Calls.{has_call}
use Rattle.ss_typed.specs.Parts.{linked, stepped}
use Rattle.ss_expand_expressions.proofs.calls.+calls.Given as goal

abbrev pub invariant-links_have_call-loop-link : goal.invariant-links_have_call-loop-link
invariant-links_have_call-loop-link l = (p : Place) → (before : ExprTree) → has_call (linked p before l.links) ≡ has_call (linked p before (drop l.link-index l.links))

abbrev pub invariant-steps_have_call-loop-step : goal.invariant-steps_have_call-loop-step
invariant-steps_have_call-loop-step l = (p : Place) → (before : ExprTree) → has_call (stepped p before l.steps) ≡ has_call (stepped p before (drop l.step-index l.steps))
