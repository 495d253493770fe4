use Rattle.std.proofs.Common.{[], ◌∷◌, ◌∙◌, ap, refl, false}
use Rattle.ss_logic.specs.declared.Sort.TheVariants as sort
use Rattle.ss_logic.specs.Formulas.{Forall, Allocated}
use Rattle.ss_terms.proofs.Grown.{HasTerm-grown, HasFormula-grown}
use Rattle.ss_terms_puts.proofs.Putting.{formula_equal}
use Rattle.ss_frames.proofs.Growing.{IsMade-grown, AreMade-one, unless_says}
use Rattle.ss_frames.proofs.Making.{atom_says}
use Rattle.ss_frames.proofs.growth.objects_grown.Goals as goal

pub atom-requires : goal.atom-requires
atom-requires c =
    (HasTerm-grown c.args.b.now c.object_grown.new.b c.object_grown.ensures.grown c.args.before c.requires.before, (HasTerm-grown c.args.b.now c.object_grown.new.b c.object_grown.ensures.grown c.args.object c.requires.object.0, tt))

pub unless-requires-clause-parts : goal.unless-requires-clause-parts
unless-requires-clause-parts c = (c.in_ok-new.ensures.at.0, tt)

pub unless-requires-clause-last : goal.unless-requires-clause-last
unless-requires-clause-last c = HasFormula-grown c.object_grown.new.b c.atom.new.self c.atom.ensures.grown c.in_ok-has_grown.has_grown c.in_ok-has_grown.ensures.at.0

pub returns-clause-at : goal.returns-clause-at
returns-clause-at c =
    let a = c.args.b.now in
    let b = c.object_grown.new.b in
    let d = c.atom.new.self in
    let new = c.in_ok-new.ensures.at in
    formula_equal c.forall.result c.forall.new.self _ _
    (ap (Forall (sort.Rest ∷ []))
    (c.in_ok-body.ensures.at.1
    ∙ unless_says d (c.in_ok-new.new ∷ []) _ _ c.in_ok-has_grown.has_grown _
    (AreMade-one d c.in_ok-new.new _ (new.0, new.1 ∙ atom_says a b c.object_grown.ensures.grown false Allocated c.args.before c.args.object c.requires.before c.requires.object)) refl
    (IsMade-grown b d c.atom.ensures.grown c.in_ok-has_grown.has_grown _ c.in_ok-has_grown.ensures.at)))
    c.forall.ensures.at
