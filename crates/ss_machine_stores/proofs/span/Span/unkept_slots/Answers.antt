use Rattle.std.proofs.Common.{ap, sym, ◌∙◌}
use Rattle.std.specs.Prelude.{flat_map}
use Rattle.ss_machine_rules.specs.Frame.{unkept_field}
use Rattle.ss_machine_stores.specs.Firsts.{first}
use Rattle.ss_machine_stores.specs.Spans.{span_of}
use Rattle.ss_machine_stores.proofs.Firsts.{found_at, next_at, none_left}
use Rattle.ss_machine_stores.proofs.Givens.{fields_given}
use Rattle.ss_machine_stores.proofs.span.Span.unkept_slots.Goals as goal

pub returns-in-Some : goal.returns-in-Some
returns-in-Some c =
    let s = span_of c.args.self.now in
    let o = c.args.o in
    let y = c.slot-item.result in
    found_at (λ _ ys. flat_map (unkept_field s o) ys) (λ _ y. unkept_field s o y) (fields_given s o) c.args.fields.now c.loop-slot.slot-index y c.in-Some.at
    (first (flat_map (unkept_field s o) c.args.fields.now)) c.loop-slot-test.true
    (ap (λ z. first (unkept_field s o z)) (sym c.slot-item.is) ∙ sym c.in-Some.ensures)
    c.loop-slot.invariant

pub loop-slot-preserved : goal.loop-slot-preserved
loop-slot-preserved c =
    let s = span_of c.args.self.now in
    let o = c.args.o in
    let y = c.slot-item.result in
    next_at (λ _ ys. flat_map (unkept_field s o) ys) (λ _ y. unkept_field s o y) (fields_given s o) c.args.fields.now c.loop-slot.slot-index y
    (first (flat_map (unkept_field s o) c.args.fields.now)) c.loop-slot-test.true
    (ap (λ z. first (unkept_field s o z)) (sym c.slot-item.is) ∙ sym c.in-None.ensures)
    c.loop-slot.invariant

pub returns : goal.returns
returns c =
    let s = span_of c.args.self.now in
    let o = c.args.o in
    none_left (λ _ ys. flat_map (unkept_field s o) ys) (λ _ y. unkept_field s o y) (fields_given s o) c.args.fields.now c.loop-slot.slot-index
    (first (flat_map (unkept_field s o) c.args.fields.now)) c.loop-slot-test.false c.loop-slot.invariant
