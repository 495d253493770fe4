use Rattle.std.proofs.Common.{refl}
use Rattle.ss_core.specs.View.{core}
use Rattle.ss_top.proofs.Ran.{has_run, fails_at, stops_at, runs_on}
use Rattle.ss_top.proofs.runs.run_admitted.Goals as goal

pub returns-in-Done-clause-says : goal.returns-in-Done-clause-says
returns-in-Done-clause-says g c =
    has_run (core c.args.program.now) c.in-Done.steps c.args.asked.now.steps c.args.asked.now.input.items (g.S.Sink.taken c.args.out.now) (g.S.Sink.taken c.run_checked.new.out) c.args.source.now c.requires.means c.requires.admits c.requires.input
    (rw c.deref.ensures.value at c.in-Done.ensures.done) (rw c.deref.ensures.value at c.in-Done.ensures.printed)

pub returns-in-Failed-clause-says : goal.returns-in-Failed-clause-says
returns-in-Failed-clause-says g c = (
  tt,
  fails_at (core c.args.program.now) c.in-Failed.kind c.in-Failed.place c.args.asked.now.steps c.args.asked.now.input.items (g.S.Sink.taken c.args.out.now) (g.S.Sink.taken c.run_checked.new.out) c.args.source.now c.requires.means c.requires.admits c.requires.input
      (rw c.deref.ensures.value at c.in-Failed.ensures.failed) (rw c.deref.ensures.value at c.in-Failed.ensures.printed),
)

pub returns-in-Stopped-clause-says : goal.returns-in-Stopped-clause-says
returns-in-Stopped-clause-says g c =
    stops_at (core c.args.program.now) c.in-Stopped.place c.args.asked.now.steps c.args.asked.now.input.items (g.S.Sink.taken c.args.out.now) (g.S.Sink.taken c.run_checked.new.out) c.args.source.now c.requires.means c.requires.admits c.requires.input
    (rw c.deref.ensures.value at c.in-Stopped.ensures.stopped) (rw c.deref.ensures.value at c.in-Stopped.ensures.printed)

pub returns-in-Running-clause-says : goal.returns-in-Running-clause-says
returns-in-Running-clause-says g c =
    runs_on (core c.args.program.now) c.args.asked.now.steps c.args.asked.now.input.items (g.S.Sink.taken c.args.out.now) (g.S.Sink.taken c.run_checked.new.out) c.args.source.now c.requires.means c.requires.admits c.requires.input
    (rw c.deref.ensures.value at c.in-Running.ensures.running refl) (rw c.deref.ensures.value at c.in-Running.ensures.printed)
