use Rattle.std.proofs.Common.{◌≡◌, sym, subst}
use Rattle.ss_typed.specs.View.{expr}
use Rattle.ss_expand_expressions.specs.Sources.{stmts_of}
use Rattle.ss_expand_lifting.specs.declared.lefts.Left.{Left}
use Rattle.ss_expand_lifting.specs.Contexts.{context_of}
use Rattle.ss_expand_lifting.specs.Lefts.{IsLeft, part_tree}
use Rattle.ss_expand_lifting.proofs.Codes.{field_settles, element_settles, local_stays, other_stays}
use Rattle.ss_expand_lifting.proofs.settled.settle.Goals as goal

pub returns-in_ok-settled-in-Field : goal.returns-in_ok-settled-in-Field
returns-in_ok-settled-in-Field c =
    let a = c.in-Field in
    let target = expr c.args.target.now in
    let P : Left → Type 0 = λ l. IsLeft target l in
    field_settles (context_of c.args.context.now) a.place (part_tree a.object) target _ _ a.field.0 a.ty (stmts_of c.args.code.now.statements) _ c.args.made.now.items _
    (subst P a.is c.left_of.ensures) c.in_ok-object-in-Field.ensures c.in_ok-settled-in-Field.ensures

pub returns-in_ok-settled-in-Element : goal.returns-in_ok-settled-in-Element
returns-in_ok-settled-in-Element c =
    let a = c.in-Element in
    let target = expr c.args.target.now in
    let P : Left → Type 0 = λ l. IsLeft target l in
    element_settles (context_of c.args.context.now) a.place (part_tree a.array) (expr a.index.now) target _ _ _ (stmts_of c.args.code.now.statements) _ _ c.args.made.now.items _ _
    (subst P a.is c.left_of.ensures) c.in_ok-array-in-Element.ensures c.in_ok-index-in-Element.ensures c.in_ok-settled-in-Element.ensures
