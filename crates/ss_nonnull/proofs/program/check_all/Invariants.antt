use Rattle.std.proofs.Common.{◌≡◌, ◌++◌, map, drop}
use Rattle.ss_typed.specs.View.{typed, body}
use Rattle.ss_nonnull_rules.specs.Program.{bodies_faults}
use Rattle.ss_nonnull.proofs.program.check_all.Given as goal

abbrev pub invariant-loop-checked : goal.invariant-loop-checked
invariant-loop-checked l = l.found.items ++ bodies_faults (typed l.fields.program.now) (map body (drop l.checked-index l.list)) ≡ l.fn.found.items ++ bodies_faults (typed l.fields.program.now) (map body l.list)
