use Rattle.std.proofs.Common.{◌≤◌}
use Rattle.ss_core.specs.View as view
use Rattle.ss_io.specs.Outside.{Wrote}
use Rattle.ss_machine.specs.Pieces.{pieces}
use Rattle.ss_machine.proofs.Runs.{Stands}
use Rattle.ss_machine.proofs.run.run_checked.Given as goal

abbrev pub invariant-loop-count : goal.invariant-loop-count
invariant-loop-count g l = record {
  stands : Stands (view.core l.core) l.input l.count l.machine (g.S.Sink.taken l.fn.out) (g.S.Sink.taken l.out);
  wrote : Wrote (g.S.Sink.pieces l.fn.out) (g.S.Sink.pieces l.out) (pieces (view.core l.core) l.input l.count);
  later : g.S.Sink.faults l.fn.out ≤ g.S.Sink.faults l.out;
}
