-- Whole numbers of 32 bits: what doesn't fit has no value.
use Rattle.std.specs.Prelude.{ℤ, pos, negsuc, ◌^◌, Bool, false, ◌==◌, nat_lt, int_div, int_rem, if◌then◌else◌, Result, Ok, Err}
use Rattle.ss_core.specs.declared.names.Place.{Place}
use Rattle.ss_core.specs.declared.names.Kind.{Kind}
use Rattle.ss_core.specs.declared.names.Kind.TheVariants as kind
use Rattle.ss_store_rules.specs.declared.Value.{Value}
use Rattle.ss_store_rules.specs.declared.Value.TheVariants as value
use Rattle.ss_store_rules.specs.declared.Undefined.{Undefined}

-- the value of an expression, or why it has none
abbrev pub Outcome : Type 0
Outcome = Result Value Undefined

abbrev pub undefined : Place → Kind → Undefined
undefined p k = record { kind = k; place = p }

abbrev pub fits : ℤ → Bool
fits (pos n) = nat_lt n (2 ^ 31)
fits (negsuc n) = nat_lt n (2 ^ 31)

abbrev pub is_zero : ℤ → Bool
is_zero (pos n) = n == 0
is_zero (negsuc n) = false

-- the number, where it has 32 bits
abbrev pub whole : Place → ℤ → Outcome
whole p z = if fits z then Ok (value.Int z) else Err (undefined p kind.Overflow)

-- the quotient, rounded towards zero
abbrev pub quotient : Place → ℤ → ℤ → Outcome
quotient p x y = if is_zero y then Err (undefined p kind.ZeroDivisor) else whole p (int_div x y)

-- the remainder, with the sign of the dividend; undefined where the quotient is
abbrev pub remainder : Place → ℤ → ℤ → Outcome
remainder p x y =
    if is_zero y then Err (undefined p kind.ZeroDivisor)
    else if fits (int_div x y) then Ok (value.Int (int_rem x y))
    else Err (undefined p kind.Overflow)
