use Rattle.std.proofs.Common.{◌≡◌, take}
use Rattle.ss_core.specs.declared.names.Place.{Place}
use Rattle.ss_core.specs.Tree.{ExprTree}
use Rattle.ss_core.specs.View.{classes}
use Rattle.ss_core.specs.Parts.{chain_front, path_front}
use Rattle.ss_store_rules.specs.Types.{type_of}
use Rattle.ss_vcgen_types.specs.Names.{types_of_names}
use Rattle.ss_vcgen_types.proofs.expressions.+types.Given as goal

abbrev pub invariant-links_type-loop-link : goal.invariant-links_type-loop-link
invariant-links_type-loop-link l =
    (p : Place) (e : ExprTree) → l.fn.first ≡ type_of (classes l.list) (types_of_names l.names) e → l.left ≡ type_of (classes l.list) (types_of_names l.names) (chain_front p e (take l.link-index l.links))

abbrev pub invariant-steps_type-loop-step : goal.invariant-steps_type-loop-step
invariant-steps_type-loop-step l =
    (p : Place) (e : ExprTree) → l.fn.first ≡ type_of (classes l.list) (types_of_names l.names) e → l.from ≡ type_of (classes l.list) (types_of_names l.names) (path_front p e (take l.step-index l.steps))
