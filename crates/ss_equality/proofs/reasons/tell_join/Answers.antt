use Rattle.ss_equality_rules.specs.Whole.{merges_of}
use Rattle.ss_equality_rules.proofs.Reasons.{told_why}
use Rattle.ss_equality.proofs.Steps.{then_ok}
use Rattle.ss_equality.proofs.reasons.tell_join.Goals as goal

pub returns-clause-tells : goal.returns-clause-tells
returns-clause-tells c = then_ok c.tell_why.result c.tell_why.ensures (λ w caused.
    told_why c.args.classes.now.forms (merges_of c.args.merges.now) c.args.classes.now.log c.args.told.now.items c.args.number c.join_at-join.result
    c.args.pending.now.items c.tell_why.new.pending.items c.args.reasons.now.items c.tell_why.new.reasons.items c.join_at-join.ensures caused w)
