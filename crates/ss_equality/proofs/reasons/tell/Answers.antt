use Rattle.std.proofs.Common.{length, subst}
use Rattle.ss_equality_rules.specs.Whole.{merges_of}
use Rattle.ss_equality_rules.specs.Reasons.{IsJoinedAt}
use Rattle.ss_equality_rules.proofs.Reasons.{tells_itself}
use Rattle.ss_equality.proofs.Steps.{then_ok}
use Rattle.ss_equality.proofs.Telling.{told_left, told_right}
use Rattle.ss_equality.proofs.reasons.tell.Goals as goal

pub returns-then-pair-clause-tells : goal.returns-then-pair-clause-tells
returns-then-pair-clause-tells c = λ caused. tells_itself c.args.classes.now.forms (merges_of c.args.merges.now) c.args.classes.now.log c.args.told.now.items c.args.reasons.now.items c.args.pending.now.items c.args.pair c.if-pair.true

pub returns-then-is_left-clause-tells : goal.returns-then-is_left-clause-tells
returns-then-is_left-clause-tells c = then_ok c.open_parts.result c.open_parts.ensures (λ is caused.
    told_left (length c.args.classes.now.forms) c.args.classes.now.forms (merges_of c.args.merges.now) c.args.classes.now.log c.join_count.ensures.log
    c.args.pending.now.items c.tell_join.new.pending.items c.open_parts.new.pending.items c.args.told.now.items c.tell_join.new.told.items c.args.reasons.now.items c.tell_join.new.reasons.items
    c.args.pair c.in-Some.number c.join_at-join.result c.join_at-join.ensures c.in_ok-tell_join.ensures.is_told (c.in_ok-tell_join.ensures.tells caused)
    (subst (λ b. IsJoinedAt c.args.classes.now.log c.args.pair.left c.args.pair.right c.in-Some.number b) c.if-is_left.true c.in-Some.ensures) is)

pub returns-else-is_left-clause-tells : goal.returns-else-is_left-clause-tells
returns-else-is_left-clause-tells c = then_ok c.open_parts-else-is_left.result c.open_parts-else-is_left.ensures (λ is caused.
    told_right (length c.args.classes.now.forms) c.args.classes.now.forms (merges_of c.args.merges.now) c.args.classes.now.log c.join_count.ensures.log
    c.args.pending.now.items c.tell_join.new.pending.items c.open_parts-else-is_left.new.pending.items c.args.told.now.items c.tell_join.new.told.items c.args.reasons.now.items c.tell_join.new.reasons.items
    c.args.pair c.in-Some.number c.join_at-join.result c.join_at-join.ensures c.in_ok-tell_join.ensures.is_told (c.in_ok-tell_join.ensures.tells caused)
    (subst (λ b. IsJoinedAt c.args.classes.now.log c.args.pair.left c.args.pair.right c.in-Some.number b) c.if-is_left.false c.in-Some.ensures) is)
