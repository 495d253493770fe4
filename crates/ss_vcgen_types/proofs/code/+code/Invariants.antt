use Rattle.std.proofs.Common.{◌≡◌, take}
use Rattle.ss_core.specs.declared.names.Place.{Place}
use Rattle.ss_core.specs.Tree.{ExprTree}
use Rattle.ss_core.specs.View as view
use Rattle.ss_core.specs.Parts.{chain_front, path_front}
use Rattle.ss_store_rules.specs.Locals.{everywhere}
use Rattle.ss_store_rules.specs.Types.{is_allowed, in_code}
use Rattle.ss_vcgen_types.proofs.code.+code.Given as goal

abbrev pub invariant-are_code-loop-link : goal.invariant-are_code-loop-link
invariant-are_code-loop-link l = (p : Place) (e : ExprTree) → everywhere (is_allowed (view.body l.body) in_code) (chain_front p e (take l.link-index l.links)) ≡ everywhere (is_allowed (view.body l.body) in_code) e

abbrev pub invariant-steps_are_code-loop-step : goal.invariant-steps_are_code-loop-step
invariant-steps_are_code-loop-step l = (p : Place) (e : ExprTree) → everywhere (is_allowed (view.body l.body) in_code) (path_front p e (take l.step-index l.steps)) ≡ everywhere (is_allowed (view.body l.body) in_code) e
