use Rattle.std.proofs.Common.{◌≡◌, refl, sym, subst}
use Rattle.std.specs.Prelude.{slice_set}
use Rattle.ss_store_rules.specs.Changes.{made_ready, ready_of}
use Rattle.ss_store.specs.Listed.{AreListed}
use Rattle.ss_store.proofs.Filed.{same_listed}
use Rattle.ss_store.proofs.Loops.{made_ready_one, made_ready_none}
use Rattle.ss_store.proofs.ready.set_ready.Goals as goal

pub returns-then-o-objects-clause-change : goal.returns-then-o-objects-clause-change
returns-then-o-objects-clause-change c = rw c.become_ready.ensures (sym (made_ready_one c.args.o c.args.objects.now c.index-objects-o.result c.if-o-objects.true))

pub returns-then-o-objects-clause-listed : goal.returns-then-o-objects-clause-listed
returns-then-o-objects-clause-listed c = λ l a.
    let s = c.args.objects.now in
    let is : slice_set s c.args.o c.become_ready.new.self ≡ ready_of s c.args.o = rw c.become_ready.ensures (sym (made_ready_one c.args.o s c.index-objects-o.result c.if-o-objects.true)) in
    subst (λ r. AreListed r l) (sym is) (same_listed (made_ready c.args.o) s l (λ q x. refl) a)

pub returns-else-o-objects-clause-change : goal.returns-else-o-objects-clause-change
returns-else-o-objects-clause-change c = sym (made_ready_none c.args.o c.args.objects.now c.if-o-objects.false)
