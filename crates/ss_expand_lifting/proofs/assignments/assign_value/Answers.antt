use Rattle.std.proofs.Common.{◌≡◌, sym}
use Rattle.ss_expand_rules.specs.Lifting as lifting
use Rattle.ss_expand_expressions.specs.Sources.{lifted_by}
use Rattle.ss_expand_lifting.specs.Contexts.{context_of}
use Rattle.ss_expand_lifting.proofs.Codes.{value_after, value_written}
use Rattle.ss_expand_lifting.proofs.assignments.assign_value.Goals as goal

pub returns : goal.returns
returns c = λ target e before kinds l h.
    let s = context_of c.args.context.now in
    let v = value_after s e before kinds _ (lifted_by c.args.code.now.statements c.args.made.now c.args.right.source) (c.in_ok-value.ensures e (sym h.place) (sym h.ty)) h.lifted in
    value_written s target before _ _ _ _ (lifting.value s e kinds) v (c.in_ok-add_write.ensures target l)
