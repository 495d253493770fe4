use Rattle.ss_typed.specs.View.{typed}
use Rattle.ss_delayed.proofs.Whole.{all_found}
use Rattle.ss_delayed.proofs.program.find_faults.Goals as goal

pub returns : goal.returns
returns c =
    all_found c.args.program.now (typed c.in_ok-fields.fields.program.now) c.deref.result.now c.deref-2.result.now c.new-found.result.items c.check_classes.new.found.items c.check_bodies.new.found.items
    c.deref.ensures.value c.deref-2.ensures.value c.in_ok-fields.ensures c.new-found.ensures.items c.in_ok-check_classes.ensures c.in_ok-check_bodies.ensures
