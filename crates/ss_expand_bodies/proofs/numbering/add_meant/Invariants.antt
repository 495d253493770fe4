use Rattle.std.proofs.Common.{◌≡◌, ◌+◌, ◌++◌, length, map, drop}
use Rattle.ss_typed.specs.View as typed
use Rattle.ss_expand_rules.specs.Bodies as bodies
use Rattle.ss_expand_bodies.proofs.numbering.add_meant.Given as goal

abbrev pub invariant-loop-param : goal.invariant-loop-param
invariant-loop-param l =
    let block = typed.block l.block in
    let rest = map typed.param (drop l._param-index l.params) in
    let all = map typed.param l.params in
    record {
      added : l.meant.items ++ bodies.meant_from block l.copy l.x rest ≡ l.fn.meant.items ++ bodies.meant_from block l.first_copy l.first all;
      next : l.copy + length (bodies.assigned_from block l.x rest) ≡ l.first_copy + length (bodies.assigned_from block l.first all);
    }
