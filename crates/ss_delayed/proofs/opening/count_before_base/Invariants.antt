use Rattle.ss_delayed.specs.Openings.{is_no_base}
use Rattle.ss_delayed.proofs.Runs.{IsRun}
use Rattle.ss_delayed.proofs.opening.count_before_base.Given as goal

abbrev pub invariant-loop-count : goal.invariant-loop-count
invariant-loop-count l = IsRun is_no_base l.statements l.count
