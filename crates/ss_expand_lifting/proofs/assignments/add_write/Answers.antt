use Rattle.std.proofs.Common.{◌≡◌, subst}
use Rattle.ss_core.specs.View as view
use Rattle.ss_typed.specs.View.{expr}
use Rattle.ss_expand_expressions.specs.Sources.{stmts_of}
use Rattle.ss_expand_lifting.specs.declared.lefts.Left.{Left}
use Rattle.ss_expand_lifting.specs.Contexts.{context_of}
use Rattle.ss_expand_lifting.specs.Lefts.{IsLeft, part_tree}
use Rattle.ss_expand_lifting.proofs.Codes.{field_written, element_written, local_written, other_written}
use Rattle.ss_expand_lifting.proofs.assignments.add_write.Goals as goal

pub returns-in_ok-add_field_write-in-Field : goal.returns-in_ok-add_field_write-in-Field
returns-in_ok-add_field_write-in-Field c = λ target h.
    let a = c.in-Field in
    let P : Left → Type 0 = λ l. IsLeft target l in
    field_written (context_of c.args.context.now) target a.place (part_tree a.object) a.field.0 a.field-3 (stmts_of c.args.code.now.statements) _ (view.expr c.args.value) _
    (subst P a.is h) c.in_ok-object-in-Field.ensures c.in_ok-add_field_write-in-Field.ensures

pub returns-in_ok-add_element_write-in-Element : goal.returns-in_ok-add_element_write-in-Element
returns-in_ok-add_element_write-in-Element c = λ target h.
    let a = c.in-Element in
    let P : Left → Type 0 = λ l. IsLeft target l in
    element_written (context_of c.args.context.now) target a.place (part_tree a.array) (expr a.index.now) (stmts_of c.args.code.now.statements) _ (view.expr c.args.value) _ _
    (subst P a.is h) c.in_ok-array-in-Element.ensures c.in_ok-index-in-Element.ensures c.in_ok-add_element_write-in-Element.ensures

pub returns-in-Local : goal.returns-in-Local
returns-in-Local c = λ target h.
    let a = c.in-Local in
    let P : Left → Type 0 = λ l. IsLeft target l in
    local_written (context_of c.args.context.now) target _ _ _ (stmts_of c.args.code.now.statements) (view.expr c.args.value) (subst P a.is h)

pub returns-in-Other : goal.returns-in-Other
returns-in-Other c = λ target h.
    let a = c.in-Other in
    let P : Left → Type 0 = λ l. IsLeft target l in
    other_written (context_of c.args.context.now) target (stmts_of c.args.code.now.statements) (view.expr c.args.value) (subst P a.is h)
