use Rattle.std.proofs.Common.{◌≡◌}
use Rattle.ss_typed.specs.View.{declarator}
use Rattle.ss_expand_expressions.specs.Sources.{stmts_of, source_of}
use Rattle.ss_expand_lifting.specs.Contexts.{context_of}
use Rattle.ss_expand_lifting.proofs.Statements.{declared_after}
use Rattle.ss_expand_lifting.proofs.simple.declare_one.Goals as goal

pub returns : goal.returns
returns c =
    let d = declarator c.args.declarator.now in
    declared_after (context_of c.args.context.now) d d.initial (stmts_of c.args.code.now.statements) _ _ (source_of c.in_ok-source.source) c.args.made.now.items _
    c.in_ok-source.ensures c.in_ok-add_put.ensures
