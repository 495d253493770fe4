use Rattle.std.proofs.Common.{◌≡◌, true, false, sym, ap, ◌∙◌}
use Rattle.std.specs.Prelude.{◌||◌}
use Rattle.ss_expand_rules.specs.Calls.{has_call}
use Rattle.ss_expand_rules.specs.Lifting.{valued}
use Rattle.ss_expand_expressions.specs.Sources.{stmts_of, source_of, lifted_by, valued_after}
use Rattle.ss_expand_lifting.proofs.Joins.{kept_any, receiver_kept, receiver_plain, first_is_false, plain_valued}
use Rattle.ss_expand_lifting.proofs.operations.keep_receiver.Goals as goal

pub returns-in_ok-value : goal.returns-in_ok-value
returns-in_ok-value c = λ s e before types n h.
    let call : (has_call e || c.args.in_arguments) ≡ true = sym (c.are_kept.ensures ∙ ap (λ b. b || c.args.in_arguments) h.calls) ∙ c.if-are_kept.true in
    c.in_ok-value.ensures s e before types n h ∙ kept_any s _ e before types c.any_object.ensures
    ∙ ap (valued_after before) (sym (receiver_kept s c.args.in_arguments e types call))

pub returns-in_ok-value-2 : goal.returns-in_ok-value-2
returns-in_ok-value-2 c = λ s e before types n h.
    let none : (has_call e || c.args.in_arguments) ≡ false = sym (c.are_kept.ensures ∙ ap (λ b. b || c.args.in_arguments) h.calls) ∙ c.if-are_kept.false in
    plain_valued s e before (stmts_of c.args.code.now) types c.args.made.now.items (source_of c.args.operand.source) _ h.lifted (first_is_false (has_call e) c.args.in_arguments none)
    (c.in_ok-value-2.ensures e (sym h.place) (sym h.ty) ∙ ap (λ ns. valued ns e (lifted_by c.args.code.now c.args.made.now c.args.operand.source)) (sym n))
    ∙ ap (valued_after before) (sym (receiver_plain s c.args.in_arguments e types none))
