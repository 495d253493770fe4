-- Ends that are counted from further on.
use Rattle.std.proofs.Common.{ℕ, ◌≡◌, ◌+◌, suc, Option, Some, None, refl, ap, arith, option_map}

-- a count from a place n bytes further on
abbrev pub shifted : ℕ → Option ℕ → Option ℕ
shifted n None = None
shifted n (Some k) = Some (n + k)

pub shifted_suc : (n : ℕ) (o : Option ℕ) → shifted (n + 1) o ≡ shifted n (option_map suc o)
shifted_suc n None = refl
shifted_suc n (Some k) = ap Some (omega arith)

pub shifted_none : (o : Option ℕ) → shifted 0 o ≡ o
shifted_none None = refl
shifted_none (Some k) = ap Some (omega arith)
