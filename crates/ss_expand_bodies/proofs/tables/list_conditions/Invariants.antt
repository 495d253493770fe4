use Rattle.std.proofs.Common.{◌≡◌, ◌++◌, map, drop}
use Rattle.ss_core.specs.View as core
use Rattle.ss_typed.specs.View as typed
use Rattle.ss_typed.specs.Tree.{InvariantTree}
use Rattle.ss_expand_rules.specs.Numbers.{plain}
use Rattle.ss_expand_expressions.specs.Views.{numbers_of}
use Rattle.ss_expand_bodies.proofs.tables.list_conditions.Given as goal

abbrev pub invariant-loop-invariant : goal.invariant-loop-invariant
invariant-loop-invariant l =
    let ns = numbers_of l.numbers in
    core.exprs l.list.items ++ map (λ (i : InvariantTree). plain ns i.condition) (map typed.invariant_of (drop l.invariant-index l.invariants)) ≡ map (λ (i : InvariantTree). plain ns i.condition) (map typed.invariant_of l.invariants)
