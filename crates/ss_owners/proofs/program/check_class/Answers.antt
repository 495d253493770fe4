use Rattle.std.proofs.lemmas.Result.{on_ok_weaker}
use Rattle.ss_owners.proofs.Entries.{class_found}
use Rattle.ss_owners.proofs.program.check_class.Goals as goal

pub returns : goal.returns
returns c =
    on_ok_weaker _ (class_found c.args.program.now c.args.place c.args.class.now c.args.marks.now _ c.deref.result.now c.deref-2.result.now c.args.found.now.items c.check_fields_of.new.found.items c.check_invariants.new.found.items
    c.requires c.class_at.ensures c.deref.ensures.value c.deref-2.ensures.value c.in_ok-check_fields_of.ensures) c.check_invariants.ensures
