use Rattle.ss_core.specs.View as core
use Rattle.ss_typed.specs.View as typed
use Rattle.ss_expand_rules.specs.Constructors.{initial_assignment}
use Rattle.ss_expand_rules.specs.Statements.{stmt, stmts}
use Rattle.ss_expand_expressions.specs.Sources.{stmts_of}
use Rattle.ss_expand_lifting.specs.Contexts.{context_of}
use Rattle.ss_expand_programs.proofs.Codes.{then_more}
use Rattle.ss_expand_programs.proofs.initializers.add_assignment.Goals as goal

pub returns : goal.returns
returns c = λ more.
    let s = context_of c.args.context.now in
    let first = initial_assignment s.body.class c.args.initial.number.0 c.args.place (core.field_of c.args.field.now) (typed.expr c.args.initial.value.now) in
    then_more (stmts_of c.args.code.now.statements) (stmts_of c.assign_field.new.code.statements) c.assign_field.new.made.items (stmt s first c.args.made.now.items) (stmts s more) c.in_ok-assign_field.ensures
