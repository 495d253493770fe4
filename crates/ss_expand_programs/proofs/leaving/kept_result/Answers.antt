use Rattle.std.proofs.Common.{◌≡◌, ap, ◌∙◌}
use Rattle.ss_core.specs.declared.names.Place.{Place}
use Rattle.ss_core.specs.declared.names.Ty.{Ty}
use Rattle.ss_typed.specs.View.{expr}
use Rattle.ss_typed.specs.Shapes.{place_of}
use Rattle.ss_expand_rules.specs.Lifting.{Lifted, right_side, in_temporary}
use Rattle.ss_expand_rules.specs.Statements.{result_type}
use Rattle.ss_expand_expressions.specs.Sources.{stmts_of, lifted_by}
use Rattle.ss_expand_expressions.proofs.Behind.{in_temporary_after}
use Rattle.ss_expand_lifting.specs.Contexts.{context_of}
use Rattle.ss_expand_programs.proofs.leaving.kept_result.Goals as goal

pub returns : goal.returns
returns c =
    let s = context_of c.args.context.now in
    let e = expr c.args.e.now in
    let before = stmts_of c.args.code.now.statements in
    let l = right_side s e c.args.made.now.items in
    let lifted = lifted_by c.right_side.new.code.statements c.right_side.new.made c.in_ok-source.source in
    let ty = result_type s.body.result in
    c.in_ok-kept.ensures
    ∙ ap (λ (p : Place). in_temporary s.numbers p c.result_type-ty.result lifted) c.place_of-place.ensures
    ∙ ap (λ (t : Ty). in_temporary s.numbers (place_of e) t lifted) c.result_type-ty.ensures
    ∙ ap (λ (y : Lifted). in_temporary s.numbers (place_of e) ty y) c.in_ok-source.ensures
    ∙ in_temporary_after s.numbers (place_of e) ty before l
