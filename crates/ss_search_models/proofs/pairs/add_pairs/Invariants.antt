use Rattle.std.proofs.Common.{◌≡◌, ◌+◌, ◌-◌, ◌<◌, ◌++◌, length, get_or, drop}
use Rattle.ss_search_models.specs.Wholes.{no_whole, pairs_of}
use Rattle.ss_search_models.proofs.pairs.add_pairs.Given as goal

abbrev pub decreases-loop-j : goal.decreases-loop-j
decreases-loop-j l = length l.found - l.j

abbrev pub invariant-loop-j : goal.invariant-loop-j
invariant-loop-j l = record {
  same : l.j < length l.found → (get_or l.found l.j no_whole).class ≡ (get_or l.found l.i no_whole).class;
  goes_on : l.pairs.items ++ pairs_of (get_or l.found l.i no_whole) (drop l.j l.found) ≡ l.initial.pairs.items ++ pairs_of (get_or l.found l.i no_whole) (drop (l.i + 1) l.found);
}
