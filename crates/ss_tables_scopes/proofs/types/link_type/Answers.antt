use Rattle.std.proofs.Common.{Some, sym, ap, ◌∙◌}
use Rattle.ss_ast.specs.declared.expr.Link.{Link}
use Rattle.ss_ast.specs.Parts.{link_after}
use Rattle.ss_ast.proofs.Grouping.{operation_is, is_is, as_is}
use Rattle.ss_tables.specs.Statics.{static}
use Rattle.ss_tables_scopes.specs.Views.{scope_of}
use Rattle.ss_tables_scopes.proofs.types.link_type.Goals as goal

pub returns-in-Operation : goal.returns-in-Operation
returns-in-Operation c = λ names p e.
    ap Some c.operation_type.ensures
    ∙ ap (static (scope_of c.args.context names)) (sym (ap (λ (l : Link). link_after l p e) c.in-Operation.is ∙ operation_is c.in-Operation.operator c.in-Operation.field-1 p e))

pub returns-in-Is : goal.returns-in-Is
returns-in-Is c = λ names p e.
    ap (static (scope_of c.args.context names)) (sym (ap (λ (l : Link). link_after l p e) c.in-Is.is ∙ is_is c.in-Is.field-0 p e))

pub returns-in-As : goal.returns-in-As
returns-in-As c = λ names p e.
    c.type_of_as.ensures
    ∙ ap (static (scope_of c.args.context names)) (sym (ap (λ (l : Link). link_after l p e) c.in-As.is ∙ as_is c.in-As.ty p e))
