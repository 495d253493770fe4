use Rattle.std.proofs.Common.{◌≡◌, ap, ◌∙◌}
use Rattle.ss_expand_rules.specs.Lifting.{next}
use Rattle.ss_expand_expressions.specs.Views.{numbers_of}
use Rattle.ss_expand_expressions.specs.Sources.{stmts_of, source_of}
use Rattle.ss_expand_lifting.specs.Contexts.{context_of}
use Rattle.ss_expand_lifting.proofs.Codes.{operand_settles}
use Rattle.ss_expand_lifting.proofs.settled.settle_operand.Goals as goal

pub returns : goal.returns
returns c = λ e before kinds h.
    operand_settles (context_of c.args.context.now) e _ before (stmts_of c.args.code.now.statements) _ (source_of c.args.operand.source) _ _ _ _ _ _ kinds c.args.made.now.items _
    h.lifted h.place h.ty c.any_object.ensures (c.in_ok-x.ensures ∙ ap (next (numbers_of c.args.context.now.numbers.now)) c.deref.ensures.value) c.temporary_type-ty.ensures c.in_ok-in_local.ensures (c.in_ok-kept.ensures ∙ c.local_of-settled.ensures)
