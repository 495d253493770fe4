use Rattle.std.proofs.Common.{length, refl, sym, ap}
use Rattle.std.specs.Prelude.{not}
use Rattle.ss_delayed.specs.Openings.{is_no_base}
use Rattle.ss_delayed.proofs.Runs.{run_more, run_stops, run_whole}
use Rattle.ss_delayed.proofs.opening.count_before_base.Goals as goal

pub returns-then-is_base-clause-told : goal.returns-then-is_base-clause-told
returns-then-is_base-clause-told c =
    run_stops is_no_base c.args.statements.now c.loop-count.count c.index-statements-count.result c.loop-count.invariant c.loop-count-test.true c.index-statements-count.is (ap not (sym c.if-is_base.ensures))

pub loop-count-preserved : goal.loop-count-preserved
loop-count-preserved c =
    run_more is_no_base c.args.statements.now c.loop-count.count c.index-statements-count.result c.loop-count.invariant c.loop-count-test.true c.index-statements-count.is (ap not (sym c.if-is_base.ensures))

pub returns-clause-told : goal.returns-clause-told
returns-clause-told c =
    run_whole is_no_base c.args.statements.now c.loop-count.count (length c.args.statements.now) c.loop-count.invariant c.loop-count-test.false refl
