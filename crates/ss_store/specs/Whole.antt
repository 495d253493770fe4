-- The value of a number that may not fit.
use Rattle.std.specs.Prelude.{ℤ, Option, Some, None, Ok, Err}
use Rattle.ss_core.specs.declared.names.Place.{Place}
use Rattle.ss_core.specs.declared.names.Kind.TheVariants as kind
use Rattle.ss_store_rules.specs.declared.Value.TheVariants as value
use Rattle.ss_store_rules.specs.Numbers.{Outcome, undefined}

abbrev pub whole_of : Place → Option ℤ → Outcome
whole_of p (Some n) = Ok (value.Int n)
whole_of p None = Err (undefined p kind.Overflow)
