use Rattle.std.proofs.Common.{◌≡◌, ◌++◌, ◌∙◌, map, length, ap, refl, sym, subst, arith}
use Rattle.std.specs.Prelude.{OnOk}
use Rattle.std.proofs.lemmas.List.{append-nil, length-map}
use Rattle.std.proofs.lemmas.Result.{on_err_weaker}
use Rattle.ss_core.specs.View.{classes, field_of}
use Rattle.ss_core.specs.Chain.{all_fields}
use Rattle.ss_store_rules.specs.Changes.{slots_from}
use Rattle.ss_store.specs.Slots.{slots_of}
use Rattle.ss_store.proofs.NewSlots.{length-slots_of, met, passed, ended, class_few, first_fits}
use Rattle.ss_store.proofs.fields.push_declared.Goals as goal

pub push_slots-requires : goal.push_slots-requires
push_slots-requires c =
    let limits = rw (← c.deref-class-items.ensures.value) at c.requires in
    let few = class_few c.deref-class-items.result.now c.loop-class.class-index c.class-item.result limits c.loop-class-test.true c.class-item.is in
    let fits = first_fits c.args.t.0 c.deref-class-items.result.now c.loop-class.class-index c.loop-class.number c.loop-class.first _ limits c.loop-class-test.true c.loop-class.invariant.before in
    let same = ap length c.deref.ensures.value in
    omega arith

pub returns-then-number-t-clause-pushed : goal.returns-then-number-t-clause-pushed
returns-then-number-t-clause-pushed c =
    let own = met c.args.t.0 c.deref-class-items.result.now c.loop-class.class-index c.loop-class.number c.loop-class.first _ c.class-item.result c.loop-class-test.true c.class-item.is c.if-number-t.true c.loop-class.invariant.before in
    let same : c.loop-class.slots.items ++ slots_of c.loop-class.first (map field_of c.deref.result.now) ≡ c.args.slots.now.items ++ slots_from c.args.t.0 0 (all_fields (classes c.args.k.now)) = rw (c.loop-class.invariant.none, c.deref.ensures.value, own) refl in
    subst (λ xs. OnOk c.push_slots.result (c.push_slots.new.slots.items ≡ xs)) same c.push_slots.ensures.pushed

pub returns-then-number-t-clause-full : goal.returns-then-number-t-clause-full
returns-then-number-t-clause-full c =
    let own = met c.args.t.0 c.deref-class-items.result.now c.loop-class.class-index c.loop-class.number c.loop-class.first _ c.class-item.result c.loop-class-test.true c.class-item.is c.if-number-t.true c.loop-class.invariant.before in
    let size = sym (ap length own) ∙ length-slots_of c.loop-class.first (map field_of c.class-item.result.fields.items) ∙ length-map c.class-item.result.fields.items field_of in
    let same = ap length c.deref.ensures.value in
    let none = ap length c.loop-class.invariant.none in
    let capacity = c.loop-class.invariant.capacity in
    on_err_weaker c.push_slots.result (λ full. omega arith) c.push_slots.ensures.full

pub overflow_cast-first : goal.overflow_cast-first
overflow_cast-first c =
    let limits = rw (← c.deref-class-items.ensures.value) at c.requires in
    let few = class_few c.deref-class-items.result.now c.loop-class.class-index c.class-item.result limits c.loop-class-test.true c.class-item.is in
    let many = c.len.ensures ∙ c.class-item.result.fields.ok.0 in
    omega arith

pub overflow_add-first : goal.overflow_add-first
overflow_add-first c =
    let limits = rw (← c.deref-class-items.ensures.value) at c.requires in
    let few = class_few c.deref-class-items.result.now c.loop-class.class-index c.class-item.result limits c.loop-class-test.true c.class-item.is in
    let fits = first_fits c.args.t.0 c.deref-class-items.result.now c.loop-class.class-index c.loop-class.number c.loop-class.first _ limits c.loop-class-test.true c.loop-class.invariant.before in
    let many = c.len.ensures ∙ c.class-item.result.fields.ok.0 in
    omega arith

pub loop-class-preserved : goal.loop-class-preserved
loop-class-preserved c =
    let limits = rw (← c.deref-class-items.ensures.value) at c.requires in
    let few = class_few c.deref-class-items.result.now c.loop-class.class-index c.class-item.result limits c.loop-class-test.true c.class-item.is in
    let many : c.len.result ≡ length c.class-item.result.fields.items = c.len.ensures ∙ c.class-item.result.fields.ok.0 in
    record {
      before = passed c.args.t.0 c.deref-class-items.result.now c.loop-class.class-index c.loop-class.number c.loop-class.first c.len.result _ c.class-item.result c.loop-class-test.true c.class-item.is c.if-number-t.false many (omega arith) c.loop-class.invariant.before;
      none = c.loop-class.invariant.none;
      capacity = c.loop-class.invariant.capacity;
    }

pub returns-clause-pushed : goal.returns-clause-pushed
returns-clause-pushed c =
    let end = ended c.args.t.0 c.deref-class-items.result.now c.loop-class.class-index c.loop-class.number c.loop-class.first _ c.loop-class-test.false c.loop-class.invariant.before in
    c.loop-class.invariant.none ∙ sym (append-nil c.args.slots.now.items) ∙ ap (λ xs. c.args.slots.now.items ++ xs) (sym end)
