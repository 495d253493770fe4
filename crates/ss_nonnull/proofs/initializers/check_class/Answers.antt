use Rattle.std.proofs.Common.{map, ap}
use Rattle.ss_typed.specs.View.{typed, field, members}
use Rattle.ss_nonnull.proofs.Initials.{class_noted}
use Rattle.ss_nonnull.proofs.initializers.check_class.Goals as goal

pub returns-clause-noted : goal.returns-clause-noted
returns-clause-noted c =
    class_noted (typed c.args.program.now) c.args.place c.args.first _ _ _ (members c.args.declared.now).fields _ _ c.args.found.now.items _
    c.class_at-class.ensures c.field_count-count.ensures c.in_ok-class_number.ensures c.context_in-context.ensures (ap (map field) c.deref.ensures.value) c.in_ok-check_initials.ensures
