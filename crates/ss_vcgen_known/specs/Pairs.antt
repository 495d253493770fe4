-- What is known where a local is true, and where it is false.
use Rattle.std.specs.Prelude.{Bool, Option, Some, None, if◌then◌else◌}
use Rattle.ss_store_rules.specs.NonNull.{Facts}

pub record Pair : Type 0 where
  pub holds : Option Facts
  pub fails : Option Facts

abbrev pub side : Pair → Bool → Option Facts
side p v = if v then p.holds else p.fails

-- the same on both sides
abbrev pub alike : Facts → Pair
alike f = record { holds = Some f; fails = Some f }

-- the local doesn't have this truth value
abbrev pub barred : Bool → Pair → Pair
barred v p = record { holds = if v then None else p.holds; fails = if v then p.fails else None }
