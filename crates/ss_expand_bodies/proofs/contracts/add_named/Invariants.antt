use Rattle.std.proofs.Common.{◌≡◌, ◌++◌, map, drop}
use Rattle.ss_core.specs.View as core
use Rattle.ss_typed.specs.View as typed
use Rattle.ss_expand_rules.specs.Contracts as contracts
use Rattle.ss_expand_expressions.specs.Views.{numbers_of}
use Rattle.ss_expand_bodies.proofs.contracts.add_named.Given as goal

abbrev pub invariant-loop-term : goal.invariant-loop-term
invariant-loop-term l =
    let term = contracts.named (numbers_of l.numbers) l.class.0 in
    map core.named_of l.terms.items ++ map term (map typed.modified (drop l.term-index l.written)) ≡ map core.named_of l.fn.terms.items ++ map term (map typed.modified l.written)
