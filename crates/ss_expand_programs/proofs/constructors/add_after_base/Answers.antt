use Rattle.std.proofs.Common.{map, ap, ◌∙◌}
use Rattle.ss_typed.specs.Tree.{arguments, stmt_trees}
use Rattle.ss_typed.specs.View as typed
use Rattle.ss_expand_rules.specs.Code.{after}
use Rattle.ss_expand_rules.specs.Simple.{base_call}
use Rattle.ss_expand_rules.specs.Statements.{stmts}
use Rattle.ss_expand_expressions.specs.Sources.{stmts_of}
use Rattle.ss_expand_lifting.specs.Contexts.{context_of}
use Rattle.ss_expand_programs.proofs.Codes.{one_then}
use Rattle.ss_expand_programs.proofs.constructors.add_after_base.Goals as goal

pub returns-clause-coded : goal.returns-clause-coded
returns-clause-coded c =
    let s = context_of c.args.context.now in
    let base = c.args.base.now in
    let rest = stmt_trees (map typed.stmt_of c.args.stmts.now) in
    let m0 = c.args.made.now.items in
    one_then (stmts_of c.args.code.now.statements) (stmts_of c.base_call.new.code.statements) (stmts_of c.add_stmts.new.code.statements)
    c.base_call.new.made.items c.add_stmts.new.made.items (base_call s base.place (arguments (typed.exprs base.arguments.items)) m0) (stmts s rest)
    (c.in_ok-base_call.ensures ∙ ap (λ es. after (stmts_of c.args.code.now.statements) (base_call s base.place (arguments (typed.exprs es)) m0)) c.deref.ensures.value)
    c.in_ok-reached.ensures.coded
