use Rattle.std.proofs.Common.{◌≡◌, drop}
use Rattle.ss_paths.specs.Sets.{among}
use Rattle.ss_nonnull_seen.proofs.seen.is_listed.Given as goal

abbrev pub invariant-loop-other : goal.invariant-loop-other
invariant-loop-other l = among (drop l.other-index l.list) l.local ≡ among l.list l.local
