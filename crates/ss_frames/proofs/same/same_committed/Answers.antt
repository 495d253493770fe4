use Rattle.std.proofs.Common.{ap}
use Rattle.ss_logic.specs.Formulas.{Or, formulas_from}
use Rattle.ss_logic.specs.Frames.{the_object}
use Rattle.ss_terms_puts.proofs.Putting.{formula_equal}
use Rattle.ss_frames.proofs.Growing.{IsTerm-grown, HasCall-grown}
use Rattle.ss_frames.proofs.Making.{committed_made}
use Rattle.ss_frames.proofs.same.same_committed.Goals as goal

pub are_committed-requires-2-clause-call : goal.are_committed-requires-2-clause-call
are_committed-requires-2-clause-call c = HasCall-grown c.args.b.now c.are_committed.new.b c.are_committed.ensures.grown c.args.m.now c.requires.call

pub are_committed-requires-2-clause-object : goal.are_committed-requires-2-clause-object
are_committed-requires-2-clause-object c = IsTerm-grown c.args.b.now c.are_committed.new.b c.are_committed.ensures.grown c.args.object the_object c.requires.object

pub or-requires : goal.or-requires
or-requires c =
    (committed_made c.args.b.now c.are_committed.new.b c.are_committed-2.new.b c.are_committed.ensures.grown c.are_committed-2.ensures.grown c.args.m.now c.requires.call c.in_ok-both.both c.in_ok-neither.neither c.in_ok-both.ensures.at c.in_ok-neither.ensures.at).0

pub returns-clause-at : goal.returns-clause-at
returns-clause-at c =
    formula_equal c.or.result c.or.new.self _ _
    (ap (λ fs. Or (formulas_from fs))
    (committed_made c.args.b.now c.are_committed.new.b c.are_committed-2.new.b c.are_committed.ensures.grown c.are_committed-2.ensures.grown c.args.m.now c.requires.call c.in_ok-both.both c.in_ok-neither.neither c.in_ok-both.ensures.at c.in_ok-neither.ensures.at).1)
    c.or.ensures.at
