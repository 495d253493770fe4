use Rattle.std.proofs.Common.{◌≡◌, ◌++◌, drop}
use Rattle.ss_core.specs.View as core
use Rattle.ss_typed.specs.View as typed
use Rattle.ss_expand_rules.specs.Numbers as elab
use Rattle.ss_expand_expressions.specs.Views.{numbers_of}
use Rattle.ss_expand_bodies.proofs.contracts.add_plain.Given as goal

abbrev pub invariant-loop-e : goal.invariant-loop-e
invariant-loop-e l = core.exprs l.exprs.items ++ elab.all_plain (numbers_of l.numbers) (typed.exprs (drop l.e-index l.es)) ≡ core.exprs l.fn.exprs.items ++ elab.all_plain (numbers_of l.numbers) (typed.exprs l.es)
