-- What an answer of the machine says of its run.
use Rattle.std.specs.Prelude.{ℕ}
use Rattle.ss_core.specs.declared.names.Kind.{Kind}
use Rattle.ss_core.specs.declared.names.Place.{Place}
use Rattle.ss_machine.specs.declared.halt.Halt.{Halt}
use Rattle.ss_machine.specs.declared.halt.Halt.TheVariants as halt
use Rattle.ss_machine.specs.declared.run.CheckedEnd.{CheckedEnd}
use Rattle.ss_machine.specs.declared.run.CheckedEnd.TheVariants as end

abbrev pub IfDone : CheckedEnd → (ℕ → Type 0) → Type 0
IfDone (end.Done steps) P = P steps
IfDone (end.Failed kind at) P = Unit {0}
IfDone (end.Stopped at) P = Unit {0}
IfDone end.Running P = Unit {0}
IfDone end.WriteFault P = Unit {0}
IfDone end.Memory P = Unit {0}

abbrev pub IfFailed : CheckedEnd → (Kind → Place → Type 0) → Type 0
IfFailed (end.Done steps) P = Unit {0}
IfFailed (end.Failed kind at) P = P kind at
IfFailed (end.Stopped at) P = Unit {0}
IfFailed end.Running P = Unit {0}
IfFailed end.WriteFault P = Unit {0}
IfFailed end.Memory P = Unit {0}

abbrev pub IfStopped : CheckedEnd → (Place → Type 0) → Type 0
IfStopped (end.Done steps) P = Unit {0}
IfStopped (end.Failed kind at) P = Unit {0}
IfStopped (end.Stopped at) P = P at
IfStopped end.Running P = Unit {0}
IfStopped end.WriteFault P = Unit {0}
IfStopped end.Memory P = Unit {0}

-- unless a write or memory failed
abbrev pub OnWhole : CheckedEnd → Type 0 → Type 0
OnWhole (end.Done steps) P = P
OnWhole (end.Failed kind at) P = P
OnWhole (end.Stopped at) P = P
OnWhole end.Running P = P
OnWhole end.WriteFault P = Unit {0}
OnWhole end.Memory P = Unit {0}

-- the answer where a step halts; that of a run that is over has the number of its steps
abbrev pub end_of : Halt → ℕ → CheckedEnd
end_of halt.Over n = end.Done n
end_of (halt.Fails k at) n = end.Failed k at
end_of (halt.Stops at) n = end.Stopped at
end_of halt.WriteFault n = end.WriteFault
end_of halt.Memory n = end.Memory
