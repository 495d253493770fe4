use Rattle.ss_vcgen_builder.specs.Builder.{walk_at}
use Rattle.ss_vcgen_builder.proofs.Held.{HasLocals-grown}
use Rattle.ss_vcgen_builder.proofs.Builds.{on_ok}
use Rattle.ss_vcgen_builder.proofs.Joining.{both_become}
use Rattle.ss_vcgen_builder.proofs.builder.Builder.join_both.Goals as goal

pub meet_locals-requires-clause-first : goal.meet_locals-requires-clause-first
meet_locals-requires-clause-first c = rw c.deref.ensures.value (HasLocals-grown c.args.self.now.bank c.join_guard.new.self.bank c.in_ok-join_guard.ensures.grown c.args.first.now.locals.items c.requires.first.locals)

pub returns : goal.returns
returns c =
    on_ok c.meet_known.result
    (both_become c.args.self.now c.join_guard.new.self c.meet_locals.new.self c.meet_stores.new.self c.meet_known.new.self c.args.first.now (λ b. walk_at b c.args.walk.now) c.args.walk.now.types.now c.deref.result.now c.deref.ensures.value
    (λ b. c.requires.walk.types) c.in_ok-join_guard.ensures c.in_ok-meet_locals.ensures c.in_ok-meet_stores.ensures)
    c.meet_known.ensures
