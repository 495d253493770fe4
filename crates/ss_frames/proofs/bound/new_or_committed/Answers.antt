use Rattle.std.proofs.Common.{[], ◌∷◌, ◌∙◌, true, false}
use Rattle.ss_logic.specs.Formulas.{Allocated, Committed}
use Rattle.ss_terms.proofs.Grown.{IsGrown-refl}
use Rattle.ss_frames.proofs.Growing.{IsMade-grown, AreMade-then, AreMade-one}
use Rattle.ss_frames.proofs.Making.{list_made, atom_says}
use Rattle.ss_frames.proofs.bound.new_or_committed.Goals as goal

pub returns-clause-at : goal.returns-clause-at
returns-clause-at c =
    let a = c.args.b.now in
    let b = c.atom.new.self in
    let d = c.atom-2.new.self in
    let new = c.in_ok-new.ensures.at in
    let committed = c.in_ok-committed.ensures.at in
    list_made c.from_slice.result d _ _ c.from_slice.ensures.items
    (AreMade-then d c.in_ok-new.new _ (c.in_ok-committed.committed ∷ []) _
    (IsMade-grown b d c.atom-2.ensures.grown c.in_ok-new.new _ (new.0, new.1 ∙ atom_says a a (IsGrown-refl a) false Allocated c.args.store c.args.object c.requires.store c.requires.object))
    (AreMade-one d c.in_ok-committed.committed _ (committed.0, committed.1 ∙ atom_says a b c.atom.ensures.grown true Committed c.args.store c.args.object c.requires.store c.requires.object)))
