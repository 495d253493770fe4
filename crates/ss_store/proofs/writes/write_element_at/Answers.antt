use Rattle.std.proofs.Common.{◌≡◌, refl, sym, subst}
use Rattle.std.specs.Prelude.{slice_set}
use Rattle.ss_store_rules.specs.Changes.{changed, element_written}
use Rattle.ss_store.specs.Listed.{AreListed}
use Rattle.ss_store.proofs.Filed.{same_listed}
use Rattle.ss_store.proofs.Loops.{element_written_one}
use Rattle.ss_store.proofs.writes.write_element_at.Goals as goal

pub returns-clause-change : goal.returns-clause-change
returns-clause-change c = rw c.write_element.ensures (sym (element_written_one c.args.a c.args.i c.args.v c.args.objects.now c.index-objects-a.result c.requires))

pub returns-clause-listed : goal.returns-clause-listed
returns-clause-listed c = λ l b.
    let s = c.args.objects.now in
    let is : slice_set s c.args.a c.write_element.new.self ≡ changed (element_written c.args.a c.args.i c.args.v) s = rw c.write_element.ensures (sym (element_written_one c.args.a c.args.i c.args.v s c.index-objects-a.result c.requires)) in
    subst (λ r. AreListed r l) (sym is) (same_listed (element_written c.args.a c.args.i c.args.v) s l (λ q x. refl) b)
