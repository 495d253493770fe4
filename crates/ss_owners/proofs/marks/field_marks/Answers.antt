use Rattle.ss_owners.proofs.Marking.{marks_found}
use Rattle.ss_owners.proofs.marks.field_marks.Goals as goal

pub returns : goal.returns
returns c = marks_found c.args.table.now c.deref.result.now c.new-marks.result.items c.add_classes.new.marks.items c.deref.ensures.value c.new-marks.ensures.items c.in_ok-add_classes.ensures
