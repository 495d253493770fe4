-- The place that a builder's cases stand for.
use Rattle.std.specs.Prelude.{ℕ, Bool, true, false}
use Rattle.ss_deriv.specs.declared.draft.Cases.{Cases}
use Rattle.ss_deriv.specs.Shape.{Place, InCase, BetweenCases}

abbrev place_by : Bool → ℕ → Place
place_by true waiting = InCase waiting
place_by false waiting = BetweenCases waiting

abbrev pub place_of : Cases → Place
place_of c = place_by c.is_open c.waiting
