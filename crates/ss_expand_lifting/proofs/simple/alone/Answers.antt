use Rattle.std.proofs.Common.{◌≡◌}
use Rattle.ss_typed.specs.View.{expr}
use Rattle.ss_expand_rules.specs.Lifting.{right_side}
use Rattle.ss_expand_expressions.specs.Sources.{stmts_of, source_of}
use Rattle.ss_expand_lifting.specs.Contexts.{context_of}
use Rattle.ss_expand_lifting.proofs.Codes.{dropped_after}
use Rattle.ss_expand_lifting.proofs.simple.alone.Goals as goal

pub returns : goal.returns
returns c =
    dropped_after (stmts_of c.args.code.now.statements) _ _ _ _ (right_side (context_of c.args.context.now) (expr c.args.e.now) c.args.made.now.items)
    c.in_ok-source.ensures c.in_ok-add_dropped.ensures
