use Rattle.std.proofs.Common.{◌≡◌, List, sym, ap, ◌∙◌}
use Rattle.ss_core.specs.Tree.{ExprTree, LocalExpr}
use Rattle.ss_core.specs.View as core
use Rattle.ss_core.specs.declared.names.Ty.{Ty}
use Rattle.ss_typed.specs.View.{expr}
use Rattle.ss_typed.specs.Types.{type_of}
use Rattle.ss_typed.specs.Shapes.{place_of}
use Rattle.ss_expand_rules.specs.Lifting.{Lifted, Valued, right_side, in_local, next, temporary_type, any_object}
use Rattle.ss_expand_expressions.specs.Operands.{valued_as}
use Rattle.ss_expand_expressions.specs.Sources.{stmts_of, lifted_by, valued_by, valued_after}
use Rattle.ss_expand_expressions.proofs.Behind.{in_local_after}
use Rattle.ss_expand_lifting.specs.Contexts.{context_of}
use Rattle.ss_expand_programs.proofs.exposing.put_object.Goals as goal

pub returns-clause-kept : goal.returns-clause-kept
returns-clause-kept c =
    let s = context_of c.args.context.now in
    let e = expr c.args.e.now in
    let before = stmts_of c.args.code.now.statements in
    let l = right_side s e c.args.made.now.items in
    let lifted = lifted_by c.right_side.new.code.statements c.right_side.new.made c.in_ok-source.source in
    let x = c.in_ok-x.x in
    let ty = temporary_type any_object (type_of e) in
    let number : x ≡ next s.numbers l.made = c.in_ok-x.ensures ∙ ap (λ (ts : List Ty). next s.numbers ts) c.deref.ensures.value ∙ ap (λ (y : Lifted). next s.numbers y.made) c.in_ok-source.ensures in
    let wanted : c.temporary_type-ty.result ≡ ty = c.temporary_type-ty.ensures ∙ ap (λ t. temporary_type t c.type_of.result) c.any_object.ensures ∙ ap (λ t. temporary_type any_object t) c.type_of.ensures in
    let kept : valued_by c.in_local.new.code c.in_local.new.made c.in_ok-in_local.field-0 ≡ valued_after before (in_local (place_of e) (next s.numbers l.made) ty l) =
    c.in_ok-in_local.ensures
    ∙ ap (λ p. in_local p x c.temporary_type-ty.result lifted) c.place_of-place.ensures
    ∙ ap (λ n. in_local (place_of e) n c.temporary_type-ty.result lifted) number
    ∙ ap (λ t. in_local (place_of e) (next s.numbers l.made) t lifted) wanted
    ∙ ap (λ (y : Lifted). in_local (place_of e) (next s.numbers l.made) ty y) c.in_ok-source.ensures
    ∙ in_local_after (place_of e) (next s.numbers l.made) ty before l in
    let value : LocalExpr (place_of e) x ≡ core.expr c.in_ok-in_local.field-0 = ap (λ y. LocalExpr (place_of e) y) number ∙ sym (ap (λ (v : Valued). v.value) kept) in
    ap (λ (v : ExprTree). valued_as (stmts_of c.in_local.new.code) v c.in_local.new.made.items) value ∙ kept

pub returns-clause-number : goal.returns-clause-number
returns-clause-number c =
    let s = context_of c.args.context.now in
    c.in_ok-x.ensures ∙ ap (λ (ts : List Ty). next s.numbers ts) c.deref.ensures.value ∙ ap (λ (y : Lifted). next s.numbers y.made) c.in_ok-source.ensures
