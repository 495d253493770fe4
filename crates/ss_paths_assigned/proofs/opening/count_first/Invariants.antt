use Rattle.std.proofs.Common.{◌≡◌, ◌+◌, map, drop}
use Rattle.std.specs.List.{prefix_len}
use Rattle.ss_typed.specs.View.{stmt_of, typed}
use Rattle.ss_paths.specs.Opening.{is_first}
use Rattle.ss_paths_assigned.proofs.opening.count_first.Given as goal

abbrev pub invariant-loop-count : goal.invariant-loop-count
invariant-loop-count l =
    let first = is_first (typed l.fields.program.now) l.class.0 in
    prefix_len first (map stmt_of l.statements) ≡ l.count + prefix_len first (map stmt_of (drop l.count l.statements))
