use Rattle.std.proofs.Common.{◌+◌, ℕ, length, ap, ◌∙◌}
use Rattle.std.specs.Prelude.{slice_get}
use Rattle.ss_core.specs.Chain.{fields_of}
use Rattle.ss_typed.specs.View.{typed}
use Rattle.ss_nonnull.proofs.Initials.{one_class, all_classes, next_first}
use Rattle.ss_nonnull.proofs.initializers.check_classes.Goals as goal

pub loop-place-preserved : goal.loop-place-preserved
loop-place-preserved c =
    let p = typed c.args.program.now in
    let l = c.loop-place in
    record {
      first =
          c.in_ok-first.ensures.first ∙ ap (λ (n : ℕ). n + length (fields_of (slice_get p.classes l.place))) l.invariant.first
          ∙ next_first p.classes l.place;
      noted =
          one_class p c.args.list.now l.place c.index-list-place.result l.first l.found.items _ _ c.requires c.loop-place-test.true c.index-list-place.is
          l.invariant.first c.in_ok-first.ensures.noted l.invariant.noted;
    }

pub returns : goal.returns
returns c = all_classes (typed c.args.program.now) c.args.list.now c.loop-place.place c.loop-place.found.items _ c.loop-place-test.false c.loop-place.invariant.noted
