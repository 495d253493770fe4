use Rattle.std.proofs.Common.{◌≡◌, drop, take, map}
use Rattle.ss_core.specs.declared.names.Place.{Place}
use Rattle.ss_typed.specs.Tree.{ExprTree, arguments}
use Rattle.ss_typed.specs.View.{expr}
use Rattle.ss_typed.specs.Shapes.{mention_this, mentions_this}
use Rattle.ss_typed.specs.Parts.{linked, stepped}
use Rattle.ss_typed.proofs.mentions.+mentions.Given as goal

abbrev pub invariant-mention_this-loop-e : goal.invariant-mention_this-loop-e
invariant-mention_this-loop-e l = mention_this (arguments (map expr (drop l.e-index l.es))) ≡ mention_this (arguments (map expr l.es))

abbrev pub invariant-links_mention_this-loop-link : goal.invariant-links_mention_this-loop-link
invariant-links_mention_this-loop-link l = (p : Place) → (before : ExprTree) → mentions_this before ≡ l.fn.first → mentions_this (linked p before (take l.link-index l.links)) ≡ l.found

abbrev pub invariant-steps_mention_this-loop-step : goal.invariant-steps_mention_this-loop-step
invariant-steps_mention_this-loop-step l = (p : Place) → (before : ExprTree) → mentions_this before ≡ l.fn.first → mentions_this (stepped p before (take l.step-index l.steps)) ≡ l.found
