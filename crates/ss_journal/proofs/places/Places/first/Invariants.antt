use Rattle.std.proofs.Common.{◌≡◌, ℕ, suc, ◌≤◌, length, take, drop, Some}
use Rattle.std.specs.Prelude.{slice_get}
use Rattle.std.specs.Option.{option_or}
use Rattle.ss_journal.specs.Places.{place_of}
use Rattle.ss_journal.proofs.places.Places.first.Given as goal

abbrev pub invariant-loop-place : goal.invariant-loop-place
invariant-loop-place l = (l.place ≤ length l.self) × ((i : ℕ) → l.place ≡ suc i → slice_get l.self i ≡ Some l.q) × (option_or (place_of (drop l.from (take l.place l.self)) l.q) l.found ≡ place_of (drop l.from l.self) l.q)

abbrev pub decreases-loop-place : goal.decreases-loop-place
decreases-loop-place l = l.place
