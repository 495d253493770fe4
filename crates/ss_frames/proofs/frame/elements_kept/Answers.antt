use Rattle.std.proofs.Common.{[], ◌∷◌, ◌∙◌, ◌++◌, ap}
use Rattle.ss_core.specs.View as view
use Rattle.ss_logic.specs.declared.Sort.TheVariants as sort
use Rattle.ss_logic.specs.Formulas.{Forall}
use Rattle.ss_logic.specs.Frames.{the_object, the_index, array_kept}
use Rattle.ss_terms_puts.proofs.Putting.{formula_equal}
use Rattle.ss_frames.specs.Calls.{picked}
use Rattle.ss_frames.specs.declared.marks.Part.TheVariants.{Elements}
use Rattle.ss_frames.proofs.Growing.{IsTerm-grown, HasCall-grown, AreMade-as, unless_says}
use Rattle.ss_frames.proofs.Making.{call_made, element_parts}
use Rattle.ss_frames.proofs.Naming.{picked_made}
use Rattle.ss_frames.proofs.frame.elements_kept.Goals as goal

pub same_elements-requires-clause-call : goal.same_elements-requires-clause-call
same_elements-requires-clause-call c = HasCall-grown c.args.b.now c.marks.new.b c.marks.ensures.grown c.args.context.now.call.now c.requires.call

pub same_elements-requires-clause-object : goal.same_elements-requires-clause-object
same_elements-requires-clause-object c = IsTerm-grown c.args.b.now c.marks.new.b c.marks.ensures.grown c.args.context.now.object the_object c.requires.object

pub same_elements-requires-clause-index : goal.same_elements-requires-clause-index
same_elements-requires-clause-index c = IsTerm-grown c.args.b.now c.marks.new.b c.marks.ensures.grown c.args.index the_index c.requires.index

pub unless-requires-clause-parts : goal.unless-requires-clause-parts
unless-requires-clause-parts c =
    let b = c.marks.new.b in
    let d = c.same_elements.new.b in
    let cs = view.classes c.args.context.now.classes.now in
    let parts = element_parts c.args.b.now b d c.marks.ensures.grown c.same_elements.ensures.grown c.args.context.now.call.now c.requires.call c.args.free.now _ c.in_ok-parts.parts.items c.requires.free (picked_made cs b Elements tt c.args.context.now.call.now c.in_ok-marks.marks.items c.in_ok-marks.ensures.at)
    (c.in_ok-parts.ensures ∙ ap (λ fs. c.args.free.now ++ fs) (c.deref-2.ensures.value ∙ c.in_ok-named.ensures ∙ ap (picked cs Elements) c.deref.ensures.value)) in
    (AreMade-as d c.in_ok-parts.parts.items _ _ c.deref-3.ensures.value parts).0

pub returns-clause-at : goal.returns-clause-at
returns-clause-at c =
    let b = c.marks.new.b in
    let d = c.same_elements.new.b in
    let cs = view.classes c.args.context.now.classes.now in
    let parts = element_parts c.args.b.now b d c.marks.ensures.grown c.same_elements.ensures.grown c.args.context.now.call.now c.requires.call c.args.free.now _ c.in_ok-parts.parts.items c.requires.free (picked_made cs b Elements tt c.args.context.now.call.now c.in_ok-marks.marks.items c.in_ok-marks.ensures.at)
    (c.in_ok-parts.ensures ∙ ap (λ fs. c.args.free.now ++ fs) (c.deref-2.ensures.value ∙ c.in_ok-named.ensures ∙ ap (picked cs Elements) c.deref.ensures.value)) in
    formula_equal c.forall.result c.forall.new.self _ _
    (ap (Forall (sort.Rest ∷ sort.Whole ∷ []))
    (c.in_ok-body.ensures.at.1
    ∙ unless_says d c.in_ok-parts.parts.items _ _ c.in_ok-same.same _ parts c.deref-3.ensures.value (call_made array_kept c.args.b.now b d c.args.context.now.call.now c.in_ok-same.same c.marks.ensures.grown c.requires.call c.in_ok-same.ensures.at)))
    c.forall.ensures.at
