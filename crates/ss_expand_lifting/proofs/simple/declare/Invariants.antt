use Rattle.std.proofs.Common.{◌≡◌, map, drop}
use Rattle.ss_typed.specs.View.{declarator}
use Rattle.ss_expand_rules.specs.Code.{after}
use Rattle.ss_expand_rules.specs.Simple as simple
use Rattle.ss_expand_expressions.specs.Sources.{stmts_of}
use Rattle.ss_expand_lifting.specs.Contexts.{context_of}
use Rattle.ss_expand_lifting.proofs.simple.declare.Given as goal

abbrev pub invariant-loop-declarator : goal.invariant-loop-declarator
invariant-loop-declarator l =
    after (stmts_of l.code.statements) (simple.declare (context_of l.context) (map declarator (drop l.declarator-index l.declarators)) l.made.items)
    ≡ after (stmts_of l.fn.code.statements) (simple.declare (context_of l.context) (map declarator l.declarators) l.fn.made.items)
