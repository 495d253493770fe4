use Rattle.std.proofs.Common.{◌≡◌, ◌+◌, ◌≤◌, ◌++◌, length, map, sym, ap, ◌∙◌, subst, arith, drop_of_length-le}
use Rattle.std.proofs.lemmas.List.{append-nil, length-map}
use Rattle.ss_core.specs.View.{field_of}
use Rattle.ss_vcgen_defaults.specs.Defaults.{slot_of, slots_if}
use Rattle.ss_vcgen_defaults.proofs.Upwards.{field_over}
use Rattle.ss_vcgen_defaults.proofs.fields.add_fields.Goals as goal

pub loop-field-preserved : goal.loop-field-preserved
loop-field-preserved c = record {
  number = omega (arith, c.in_ok-number.ensures, c.loop-field.invariant.number);
  done = field_over c.args.wanted c.args.class.now.fields.items c.deref-field-items.result.now c.deref-field-items.ensures.value c.loop-field.field-index c.field-item.result c.field-item.is c.loop-field-test.true
      c.loop-field.number c.in_ok-number.number c.in_ok-number.ensures (map slot_of c.loop-field.list.items) (map slot_of c.add_field.new.list.items) _ c.in_ok-add_field.ensures c.loop-field.invariant.done;
}

pub returns-clause-number : goal.returns-clause-number
returns-clause-number c =
    let i = c.loop-field.field-index in
    let all : i ≡ length c.deref-field-items.result.now = omega (arith, c.loop-field.auto.field-index-end, c.loop-field-test.false) in
    c.loop-field.invariant.number ∙ ap (λ n. c.args.first + n) (all ∙ ap length c.deref-field-items.ensures.value ∙ sym (length-map c.args.class.now.fields.items field_of))

pub returns-clause-added : goal.returns-clause-added
returns-clause-added c =
    let fields = c.args.class.now.fields.items in
    let i = c.loop-field.field-index in
    let l = map slot_of c.loop-field.list.items in
    let past : length fields ≤ i = subst (λ xs. length xs ≤ i) c.deref-field-items.ensures.value c.loop-field-test.false in
    sym (append-nil l) ∙ ap (λ fs. l ++ slots_if c.args.wanted c.loop-field.number (map field_of fs)) (sym (drop_of_length-le fields past)) ∙ c.loop-field.invariant.done
