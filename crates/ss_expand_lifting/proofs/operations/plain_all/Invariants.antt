use Rattle.std.proofs.Common.{◌≡◌, ◌++◌, drop}
use Rattle.ss_core.specs.View.{exprs}
use Rattle.ss_typed.specs.Tree.{arguments}
use Rattle.ss_typed.specs.View as typed
use Rattle.ss_expand_rules.specs.Numbers.{plain_arguments}
use Rattle.ss_expand_expressions.specs.Views.{numbers_of}
use Rattle.ss_expand_lifting.proofs.operations.plain_all.Given as goal

abbrev pub invariant-loop-e : goal.invariant-loop-e
invariant-loop-e l =
    exprs l.values.items ++ plain_arguments (numbers_of l.numbers) (arguments (typed.exprs (drop l.e-index l.es))) ≡ plain_arguments (numbers_of l.numbers) (arguments (typed.exprs l.es))
