use Rattle.std.proofs.Common.{◌≡◌, ℕ, ◌+◌, ◌<◌, ◌≤◌, length, get_or}
use Rattle.std.specs.Prelude.{nat_eq, unwrap_or}
use Rattle.indexmap.specs.IndexMap.{get}
use Rattle.ss_search_models.specs.Wholes.{no_whole, IsFirst}
use Rattle.ss_search_models.proofs.pairs.next_places.Given as goal

abbrev pub invariant-loop-i : goal.invariant-loop-i
invariant-loop-i l = record {
  within : l.i ≤ length l.found;
  long : length l.places.items ≡ length l.found;
  first : (class : ℕ) → IsFirst l.found l.i class (unwrap_or (get nat_eq l.first class) (length l.found));
  next : (k : ℕ) → l.i ≤ k → k < length l.found → IsFirst l.found (k + 1) (get_or l.found k no_whole).class (get_or l.places.items k 0);
}

abbrev pub decreases-loop-i : goal.decreases-loop-i
decreases-loop-i l = l.i
