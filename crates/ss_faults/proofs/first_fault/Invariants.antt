use Rattle.std.proofs.Common.{◌≡◌, reverse}
use Rattle.ss_faults.specs.First.{first_fault}
use Rattle.ss_faults.proofs.first_fault.Given as goal

abbrev pub invariant-loop-fault : goal.invariant-loop-fault
invariant-loop-fault l = l.first ≡ first_fault (reverse l.yielded)
