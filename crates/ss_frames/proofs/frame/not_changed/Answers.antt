use Rattle.ss_terms.proofs.Grown.{HasFormulas-grown}
use Rattle.ss_frames.proofs.Making.{list_made, changed_made}
use Rattle.ss_frames.proofs.frame.not_changed.Goals as goal

pub or-requires : goal.or-requires
or-requires c = HasFormulas-grown c.args.b.now c.atom.new.self c.atom.ensures.grown c.args.free.now c.requires.free.0

pub returns-clause-at : goal.returns-clause-at
returns-clause-at c =
    list_made c.from_slice.result c.or.new.self _ _ c.from_slice.ensures.items
    (changed_made c.args.b.now c.atom.new.self c.or.new.self c.atom.ensures.grown c.or.ensures.grown c.args.m.now c.args.object c.requires.call.after c.requires.object c.in_ok-new.new c.in_ok-changed.changed c.negation-bound.result c.args.free.now c.requires.free
    c.in_ok-new.ensures.at c.in_ok-changed.ensures.at (c.negation-bound.ensures.in_bank, c.negation-bound.ensures.negation))
