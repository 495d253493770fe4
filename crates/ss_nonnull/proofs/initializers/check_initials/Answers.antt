use Rattle.std.proofs.Common.{map, ap, sym, ◌∙◌, rules}
use Rattle.std.specs.Prelude.{option_map}
use Rattle.std.specs.Borrow.{Bor}
use Rattle.ss_core.specs.declared.class.Class.{Class}
use Rattle.ss_core.specs.View.{class_of}
use Rattle.ss_core.specs.Chain.{fields_of}
use Rattle.ss_typed.specs.View.{field}
use Rattle.ss_nonnull_seen.specs.Codes.{path_of, context_of}
use Rattle.ss_nonnull.specs.Initial.{begun_with, type_of_field}
use Rattle.ss_nonnull.proofs.Initials.{none_begun, next_begun, one_initial, all_initial}
use Rattle.ss_nonnull.proofs.initializers.check_initials.Goals as goal

pub loop-place-init : goal.loop-place-init
loop-place-init c = record {
  known = c.nothing_begun-known.ensures ∙ ap begun_with (sym (none_begun (map field c.args.fields.now)));
  noted = search rules;
}

pub loop-place-preserved : goal.loop-place-preserved
loop-place-preserved c =
    let l = c.loop-place in
    let gs = fields_of (option_map (λ (d : Bor Class). class_of d.now) c.args.class) in
    record {
      known =
          next_begun c.args.fields.now l.place c.index-fields-place.result _ (path_of l.known) _ c.loop-place-test.true c.index-fields-place.is
          c.starts_with_value.ensures c.in_ok-known.ensures l.invariant.known;
      noted =
          one_initial (context_of c.args.context.now) c.args.fields.now gs l.place c.index-fields-place.result _ (path_of l.known) l.found.items _ _ c.loop-place-test.true c.index-fields-place.is
          (c.type_of_field-ty.ensures ∙ ap type_of_field c.field_at.ensures) l.invariant.known c.in_ok-check_initial.ensures l.invariant.noted;
    }

pub returns : goal.returns
returns c =
    let gs = fields_of (option_map (λ (d : Bor Class). class_of d.now) c.args.class) in
    all_initial (context_of c.args.context.now) c.args.fields.now gs c.loop-place.place c.loop-place.found.items _ c.loop-place-test.false c.loop-place.invariant.noted
