use Rattle.std.proofs.Common.{◌≡◌, drop}
use Rattle.ss_paths.specs.Sets.{either, among}
use Rattle.ss_nonnull_seen.proofs.seen.joined.Given as goal

abbrev pub invariant-loop-local : goal.invariant-loop-local
invariant-loop-local l = either (among l.all.items) (among (drop l.local-index l.other)) ≡ either (among l.fn.one.items) (among l.other)
