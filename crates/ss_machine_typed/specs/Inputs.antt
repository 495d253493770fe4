-- Inputs of a run.
use Rattle.std.specs.Prelude.{◌≡◌, ℤ, ◌^◌, List, length, true, nat_lt}
use Rattle.std.specs.List.{list_all}
use Rattle.ss_store_rules.specs.Numbers.{fits}

-- The numbers have 32 bits, and there are not more of them than an array has elements.
pub record IsInput (input : List ℤ) : Type 0 where
  pub numbers : list_all fits input ≡ true
  pub short : nat_lt (length input) (2 ^ 31) ≡ true
