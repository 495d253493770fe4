use Rattle.std.proofs.Common.{◌∙◌, [], ◌∷◌, ◌++◌, ap}
use Rattle.ss_core.specs.View as view
use Rattle.ss_logic.specs.Formulas.{And, formulas_from}
use Rattle.ss_logic.specs.Frames.{the_object}
use Rattle.ss_terms.proofs.Grown.{IsGrown-then}
use Rattle.ss_terms_puts.proofs.Putting.{formula_equal}
use Rattle.ss_frames.proofs.Growing.{IsTerm-grown, HasCall-grown, AreNamed-grown}
use Rattle.ss_frames.proofs.Making.{object_made}
use Rattle.ss_frames.proofs.objects.object_kept.Goals as goal

pub same_committed-requires-clause-call : goal.same_committed-requires-clause-call
same_committed-requires-clause-call c = HasCall-grown c.args.b.now c.level_kept.new.b c.level_kept.ensures.grown c.args.context.now.call.now c.requires.call

pub same_committed-requires-clause-object : goal.same_committed-requires-clause-object
same_committed-requires-clause-object c = IsTerm-grown c.args.b.now c.level_kept.new.b c.level_kept.ensures.grown c.args.context.now.object the_object c.requires.object

pub same_reads-requires-clause-call : goal.same_reads-requires-clause-call
same_reads-requires-clause-call c =
    HasCall-grown c.args.b.now c.same_committed.new.b (IsGrown-then c.args.b.now c.level_kept.new.b c.same_committed.new.b c.level_kept.ensures.grown c.same_committed.ensures.grown) c.args.context.now.call.now c.requires.call

pub same_reads-requires-clause-object : goal.same_reads-requires-clause-object
same_reads-requires-clause-object c =
    IsTerm-grown c.args.b.now c.same_committed.new.b (IsGrown-then c.args.b.now c.level_kept.new.b c.same_committed.new.b c.level_kept.ensures.grown c.same_committed.ensures.grown) c.args.context.now.object the_object c.requires.object

pub fields_kept-requires-clause-call : goal.fields_kept-requires-clause-call
fields_kept-requires-clause-call c =
    let a = c.args.b.now in
    let g = IsGrown-then a c.same_committed.new.b c.same_reads.new.b (IsGrown-then a c.level_kept.new.b c.same_committed.new.b c.level_kept.ensures.grown c.same_committed.ensures.grown) c.same_reads.ensures.grown in
    HasCall-grown a c.same_reads.new.b g c.args.context.now.call.now c.requires.call

pub fields_kept-requires-clause-object : goal.fields_kept-requires-clause-object
fields_kept-requires-clause-object c =
    let a = c.args.b.now in
    let g = IsGrown-then a c.same_committed.new.b c.same_reads.new.b (IsGrown-then a c.level_kept.new.b c.same_committed.new.b c.level_kept.ensures.grown c.same_committed.ensures.grown) c.same_reads.ensures.grown in
    IsTerm-grown a c.same_reads.new.b g c.args.context.now.object the_object c.requires.object

pub fields_kept-requires-clause-marks : goal.fields_kept-requires-clause-marks
fields_kept-requires-clause-marks c =
    let a = c.args.b.now in
    let g = IsGrown-then a c.same_committed.new.b c.same_reads.new.b (IsGrown-then a c.level_kept.new.b c.same_committed.new.b c.level_kept.ensures.grown c.same_committed.ensures.grown) c.same_reads.ensures.grown in
    AreNamed-grown a c.same_reads.new.b g 1 c.args.context.now.call.now c.args.marks.now c.requires.call c.requires.marks

pub and-requires : goal.and-requires
and-requires c =
    (object_made (view.classes c.args.context.now.classes.now) c.args.b.now c.level_kept.new.b c.same_committed.new.b c.same_reads.new.b c.fields_kept.new.b c.level_kept.ensures.grown c.same_committed.ensures.grown c.same_reads.ensures.grown c.fields_kept.ensures.grown c.args.context.now.call.now c.requires.call
    c.in_ok-level.level c.in_ok-committed.committed c.in_ok-owner.owner c.in_ok-fields.fields.items _ c.in_ok-count.count c.in_ok-count.ensures c.in_ok-level.ensures.at c.in_ok-committed.ensures.at c.in_ok-owner.ensures.at c.in_ok-fields.ensures.at
    (c.deref-2.ensures.value ∙ c.in_ok-parts.ensures ∙ ap (λ fs. (c.in_ok-level.level ∷ c.in_ok-committed.committed ∷ c.in_ok-owner.owner ∷ []) ++ fs) c.deref.ensures.value)).0

pub returns-clause-at : goal.returns-clause-at
returns-clause-at c =
    formula_equal c.and.result c.and.new.self _ _
    (ap (λ fs. And (formulas_from fs))
    (object_made (view.classes c.args.context.now.classes.now) c.args.b.now c.level_kept.new.b c.same_committed.new.b c.same_reads.new.b c.fields_kept.new.b c.level_kept.ensures.grown c.same_committed.ensures.grown c.same_reads.ensures.grown c.fields_kept.ensures.grown c.args.context.now.call.now c.requires.call
    c.in_ok-level.level c.in_ok-committed.committed c.in_ok-owner.owner c.in_ok-fields.fields.items _ c.in_ok-count.count c.in_ok-count.ensures c.in_ok-level.ensures.at c.in_ok-committed.ensures.at c.in_ok-owner.ensures.at c.in_ok-fields.ensures.at
    (c.deref-2.ensures.value ∙ c.in_ok-parts.ensures ∙ ap (λ fs. (c.in_ok-level.level ∷ c.in_ok-committed.committed ∷ c.in_ok-owner.owner ∷ []) ++ fs) c.deref.ensures.value)).1)
    c.and.ensures.at
