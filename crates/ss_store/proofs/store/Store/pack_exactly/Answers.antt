use Rattle.std.proofs.Common.{◌∙◌, ap, subst}
use Rattle.ss_core.specs.View.{classes}
use Rattle.ss_store_rules.specs.Changes.{IsChange, pack_of}
use Rattle.ss_store_rules.specs.Admissible.{invariants_hold}
use Rattle.ss_store.proofs.Packs.{pack_of-holds}
use Rattle.ss_store.proofs.store.Store.pack_exactly.Goals as goal

pub returns-clause-change : goal.returns-clause-change
returns-clause-change c =
    let cs = classes c.args.c.now.classes in
    let s = c.args.self.now.objects in
    let same = ap (λ h. pack_of cs (λ _ _ _. h) s c.args.o c.args.t.0) c.invariants_hold-holds.ensures ∙ pack_of-holds cs (invariants_hold cs) s c.args.o c.args.t.0 in
    subst (λ r. IsChange s c.pack_with.new.self.objects c.pack_with.result r) same c.pack_with.ensures.change
