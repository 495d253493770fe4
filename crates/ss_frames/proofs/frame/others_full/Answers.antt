use Rattle.std.proofs.Common.{[], ◌∷◌, ◌∙◌, ◌++◌, ap}
use Rattle.ss_logic.specs.declared.Sort.TheVariants as sort
use Rattle.ss_logic.specs.Formulas.{Forall}
use Rattle.ss_logic.specs.Shapes.{equal, level_of, type_of}
use Rattle.ss_logic.specs.Frames.{the_object}
use Rattle.ss_terms_puts.proofs.Putting.{formula_equal}
use Rattle.ss_frames.proofs.Growing.{IsTerm-grown, HasCall-grown, AreMade-as, unless_says}
use Rattle.ss_frames.proofs.Making.{call_made, other_parts}
use Rattle.ss_frames.proofs.frame.others_full.Goals as goal

pub is_full-requires-clause-call : goal.is_full-requires-clause-call
is_full-requires-clause-call c = HasCall-grown c.args.b.now c.not_changed.new.b c.not_changed.ensures.grown c.args.m.now c.requires.call

pub is_full-requires-clause-object : goal.is_full-requires-clause-object
is_full-requires-clause-object c = IsTerm-grown c.args.b.now c.not_changed.new.b c.not_changed.ensures.grown c.args.object the_object c.requires.object

pub unless-requires-clause-parts : goal.unless-requires-clause-parts
unless-requires-clause-parts c =
    let b = c.not_changed.new.b in
    let d = c.is_full.new.b in
    let parts = other_parts c.args.b.now b d c.not_changed.ensures.grown c.is_full.ensures.grown c.args.m.now c.in_ok-first.first.items c.args.outside.now c.in_ok-parts.parts.items c.in_ok-first.ensures.at c.requires.outside
    (c.in_ok-parts.ensures ∙ ap (λ fs. fs ++ c.args.outside.now) c.deref.ensures.value) in
    (AreMade-as d c.in_ok-parts.parts.items _ _ c.deref-2.ensures.value parts).0

pub returns-clause-at : goal.returns-clause-at
returns-clause-at c =
    let b = c.not_changed.new.b in
    let d = c.is_full.new.b in
    let parts = other_parts c.args.b.now b d c.not_changed.ensures.grown c.is_full.ensures.grown c.args.m.now c.in_ok-first.first.items c.args.outside.now c.in_ok-parts.parts.items c.in_ok-first.ensures.at c.requires.outside
    (c.in_ok-parts.ensures ∙ ap (λ fs. fs ++ c.args.outside.now) c.deref.ensures.value) in
    formula_equal c.forall.result c.forall.new.self _ _
    (ap (Forall (sort.Rest ∷ []))
    (c.in_ok-body.ensures.at.1
    ∙ unless_says d c.in_ok-parts.parts.items _ _ c.in_ok-full.full _ parts c.deref-2.ensures.value
    (call_made (λ k. equal (level_of k.after the_object) (type_of the_object)) c.args.b.now b d c.args.m.now c.in_ok-full.full c.not_changed.ensures.grown c.requires.call c.in_ok-full.ensures.at)))
    c.forall.ensures.at
