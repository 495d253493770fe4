use Rattle.std.proofs.Common.{◌≡◌, drop}
use Rattle.ss_typed.specs.Tree.{arguments}
use Rattle.ss_typed.specs.View.{exprs}
use Rattle.ss_expand_rules.specs.Calls as calls
use Rattle.ss_expand_expressions.proofs.arguments.have_call.Given as goal

abbrev pub invariant-loop-e : goal.invariant-loop-e
invariant-loop-e l = calls.have_call (arguments (exprs (drop l.e-index l.es))) ≡ calls.have_call (arguments (exprs l.es))
