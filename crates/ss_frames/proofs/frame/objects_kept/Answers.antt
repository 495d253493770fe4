use Rattle.std.proofs.Common.{[], ◌∷◌, ◌∙◌, ap, refl, sym, subst}
use Rattle.ss_core.specs.View as view
use Rattle.ss_logic.specs.declared.Sort.TheVariants as sort
use Rattle.ss_logic.specs.Formulas.{Forall}
use Rattle.ss_logic.specs.Frames.{the_object, is_outside}
use Rattle.ss_terms.proofs.Grown.{IsGrown-refl, IsGrown-then, HasFormulas-grown}
use Rattle.ss_terms_puts.proofs.Putting.{formula_equal}
use Rattle.ss_frames.specs.Calls.{AreNamed}
use Rattle.ss_frames.proofs.Growing.{IsTerm-grown, HasCall-grown}
use Rattle.ss_frames.proofs.Making.{calls_now, objects_made}
use Rattle.ss_frames.proofs.frame.objects_kept.Goals as goal

pub object_kept-requires-clause-call : goal.object_kept-requires-clause-call
object_kept-requires-clause-call c = HasCall-grown c.args.b.now c.marks.new.b c.marks.ensures.grown c.args.context.now.call.now c.requires.call

pub object_kept-requires-clause-object : goal.object_kept-requires-clause-object
object_kept-requires-clause-object c = IsTerm-grown c.args.b.now c.marks.new.b c.marks.ensures.grown c.args.context.now.object the_object c.requires.object

pub object_kept-requires-clause-marks : goal.object_kept-requires-clause-marks
object_kept-requires-clause-marks c = subst (AreNamed c.marks.new.b 1 c.args.context.now.call.now) (sym c.deref.ensures.value) c.in_ok-marks.ensures.at

pub object_kept-requires-clause-outside : goal.object_kept-requires-clause-outside
object_kept-requires-clause-outside c =
    calls_now is_outside c.args.b.now c.args.b.now c.marks.new.b c.args.context.now.call.now c.args.outside.now c.args.outside.now (IsGrown-refl c.args.b.now) c.marks.ensures.grown c.requires.call refl c.requires.outside

pub unless-requires-clause-parts : goal.unless-requires-clause-parts
unless-requires-clause-parts c =
    HasFormulas-grown c.args.b.now c.object_kept.new.b (IsGrown-then c.args.b.now c.marks.new.b c.object_kept.new.b c.marks.ensures.grown c.object_kept.ensures.grown) c.args.free.now c.requires.free.0

pub returns-clause-at : goal.returns-clause-at
returns-clause-at c =
    formula_equal c.forall.result c.forall.new.self _ _
    (ap (Forall (sort.Rest ∷ []))
    (c.in_ok-body.ensures.at.1
    ∙ objects_made (view.classes c.args.context.now.classes.now) c.args.b.now c.marks.new.b c.object_kept.new.b c.marks.ensures.grown c.object_kept.ensures.grown c.args.context.now.call.now c.requires.call c.args.free.now c.in_ok-keeps.keeps c.requires.free c.in_ok-keeps.ensures.at))
    c.forall.ensures.at
