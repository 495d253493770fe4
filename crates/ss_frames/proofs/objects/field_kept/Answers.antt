use Rattle.std.proofs.Common.{◌∙◌}
use Rattle.ss_core.specs.View as view
use Rattle.ss_terms_puts.proofs.Putting.{formula_equal}
use Rattle.ss_frames.specs.declared.marks.Part.TheVariants.{Field}
use Rattle.ss_frames.proofs.Growing.{AreMade-grown, AreMade-as, unless_says}
use Rattle.ss_frames.proofs.Naming.{picked_made}
use Rattle.ss_frames.proofs.objects.field_kept.Goals as goal

pub unless-requires-clause-parts : goal.unless-requires-clause-parts
unless-requires-clause-parts c =
    let a = c.args.b.now in
    let d = c.same_reads.new.b in
    (AreMade-as d _ _ _ (c.deref.ensures.value ∙ c.in_ok-named.ensures) (AreMade-grown a d c.same_reads.ensures.grown _ _ (picked_made (view.classes c.args.context.now.classes.now) a (Field c.args.field.0 c.args.field.1) c.requires.declared c.args.context.now.call.now c.args.marks.now c.requires.marks))).0

pub returns-clause-at : goal.returns-clause-at
returns-clause-at c =
    let a = c.args.b.now in
    let d = c.same_reads.new.b in
    formula_equal c.unless.result c.unless.new.b _ _
    (unless_says d _ _ _ c.in_ok-same.same _ (AreMade-grown a d c.same_reads.ensures.grown _ _ (picked_made (view.classes c.args.context.now.classes.now) a (Field c.args.field.0 c.args.field.1) c.requires.declared c.args.context.now.call.now c.args.marks.now c.requires.marks))
    (c.deref.ensures.value ∙ c.in_ok-named.ensures) c.in_ok-same.ensures.at)
    c.unless.ensures.at
