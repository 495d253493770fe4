-- Classes above a class.
use Rattle.std.proofs.Common.{ℕ, ◌≡◌, ◌≢◌, ◌<◌, ◌+◌, ◌-◌, suc, List, Some, false, refl, arith, ⊎_elim}
use Rattle.std.specs.Prelude.{◌==◌}
use Rattle.std.proofs.lemmas.Bool.Decides.{eqb_tells}
use Rattle.ss_ast.specs.Programs.{ClassTree}
use Rattle.ss_tables.specs.Classes.{above, chain_from}
use Rattle.ss_resolver_types_heads.specs.Wants.{in_chain}

different : (k j : ℕ) → k ≢ j → (k == j) ≡ false
different k j h = ⊎_elim (λ d. absurd (h d.1)) (λ d. d.0) (eqb_tells k j)

-- a class that isn't the one at the place leaves it to those above
pub next_in : (cs : List ClassTree) (j k i count : ℕ) → i < count → k ≢ j → in_chain j (chain_from cs (count - (i + 1)) (above cs k)) ≡ in_chain j (chain_from cs (count - i) (Some k))
next_in cs j k i count l other =
    let e : count - i ≡ suc (count - (i + 1)) = omega arith in
    let d : (k == j) ≡ false = different k j other in
    rw (e, d) refl
