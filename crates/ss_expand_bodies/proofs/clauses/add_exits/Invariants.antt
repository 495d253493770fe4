use Rattle.std.proofs.Common.{◌≡◌, ◌++◌, map, drop}
use Rattle.ss_core.specs.View as core
use Rattle.ss_typed.specs.View as typed
use Rattle.ss_expand_rules.specs.Contracts as contracts
use Rattle.ss_expand_rules.specs.Numbers as elab
use Rattle.ss_expand_expressions.specs.Views.{numbers_of}
use Rattle.ss_expand_bodies.proofs.clauses.add_exits.Given as goal

abbrev pub invariant-loop-body : goal.invariant-loop-body
invariant-loop-body l = core.exprs l.exprs.items ++ elab.all_plain (numbers_of l.numbers) (contracts.all_exits (map (λ b. typed.body b.now) (drop l.body-index l.declared))) ≡ core.exprs l.fn.exprs.items ++ elab.all_plain (numbers_of l.numbers) (contracts.all_exits (map (λ b. typed.body b.now) l.declared))
