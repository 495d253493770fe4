use Rattle.std.proofs.Common.{◌≡◌, Bool, true, false, refl, sym, subst, ap, ◌∙◌, IfOk}
use Rattle.std.specs.Prelude.{◌&&◌}
use Rattle.ss_typed.specs.Types.{type_of}
use Rattle.ss_expand_rules.specs.Calls.{has_call, is_lazy}
use Rattle.ss_typed.specs.Shapes.{place_of}
use Rattle.ss_expand_rules.specs.Lifting.{Lifted, lifted, right_side, operand, in_temporary, temporary_type}
use Rattle.ss_expand_expressions.specs.Views.{numbers_of}
use Rattle.ss_expand_expressions.specs.Sources.{lifted_by, valued_by, valued_after}
use Rattle.ss_expand_expressions.proofs.Behind.{in_temporary_after, operand_kept}
use Rattle.ss_expand_expressions.proofs.operands.keep.Goals as goal
use Rattle.ss_expand_expressions.proofs.operands.keep.Goals.{else-operand-via-then-operand+else-operand-2, else-operand-via-else-operand}

and_false : (b : Bool) → (b && false) ≡ false
and_false true = refl
and_false false = refl

pub returns : goal.returns
returns c = λ s e before types n h.
    let o = c.args.operand in
    let ns = numbers_of c.args.numbers.now in
    let l = lifted_by c.args.code.now c.args.made.now o.source in
    let wanted = c.args.wanted in
    let off : (is_lazy e && has_call e) ≡ false = elim c.else-operand.branch [
      | else-operand-via-then-operand+else-operand-2 w ↦ ap (λ b. is_lazy e && b) (sym h.calls ∙ w.if-operand-2.false) ∙ and_false (is_lazy e)
      | else-operand-via-else-operand w ↦ ap (λ b. b && has_call e) (sym h.lazy ∙ w.if-operand.false)
    ] in
    let same : in_temporary ns o.place c.temporary_type-kept.result l ≡ valued_after before (operand s.numbers wanted e (lifted s e) types) =
    ap (λ t. in_temporary ns o.place t l) c.temporary_type-kept.ensures
    ∙ ap (λ p. in_temporary ns p (temporary_type wanted o.ty) l) h.place
    ∙ ap (λ t. in_temporary ns (place_of e) (temporary_type wanted t) l) h.ty
    ∙ ap (λ (x : Lifted). in_temporary ns (place_of e) (temporary_type wanted (type_of e)) x) h.lifted
    ∙ in_temporary_after ns (place_of e) (temporary_type wanted (type_of e)) before (right_side s e types)
    ∙ ap (λ k. valued_after before (in_temporary k (place_of e) (temporary_type wanted (type_of e)) (right_side s e types))) (sym n)
    ∙ ap (valued_after before) (sym (operand_kept s.numbers wanted e (lifted s e) types off)) in
    subst (λ y. IfOk c.in_temporary.result (λ v. valued_by c.in_temporary.new.code c.in_temporary.new.made v ≡ y)) same c.in_temporary.ensures
