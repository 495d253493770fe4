use Rattle.std.proofs.Common.{◌≡◌, refl, sym, subst}
use Rattle.std.specs.Prelude.{slice_set}
use Rattle.ss_store_rules.specs.Changes.{changed, written}
use Rattle.ss_store.specs.Listed.{AreListed}
use Rattle.ss_store.proofs.Filed.{same_listed}
use Rattle.ss_store.proofs.Loops.{written_one}
use Rattle.ss_store.proofs.writes.write_field_at.Goals as goal

pub returns-clause-change : goal.returns-clause-change
returns-clause-change c = rw c.write.ensures (sym (written_one c.args.o c.args.f.0 c.args.v c.args.objects.now c.index-objects-o.result c.requires))

pub returns-clause-listed : goal.returns-clause-listed
returns-clause-listed c = λ l a.
    let s = c.args.objects.now in
    let is : slice_set s c.args.o c.write.new.self ≡ changed (written c.args.o c.args.f.0 c.args.v) s = rw c.write.ensures (sym (written_one c.args.o c.args.f.0 c.args.v s c.index-objects-o.result c.requires)) in
    subst (λ r. AreListed r l) (sym is) (same_listed (written c.args.o c.args.f.0 c.args.v) s l (λ q x. refl) a)
