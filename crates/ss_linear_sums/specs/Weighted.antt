-- A sum with one known fact more, and a part divided.
use Rattle.std.specs.Prelude.{◌≡◌, ℕ, ℤ, List, [], ◌∷◌, ◌++◌, Bool, true, false, Option, Some, None, option_and_then, slice_get, if◌then◌else◌}
use Rattle.std.specs.Int.{int_div_euclid, int_rem_euclid}
use Rattle.ss_core.specs.Tree.{ClassTree}
use Rattle.ss_logic.specs.Formulas.{Formula}
use Rattle.ss_logic.specs.Terms.{Term}
use Rattle.ss_logic.specs.Sums as sums
use Rattle.ss_logic.specs.Sums.{is_zero, sum_fact_of, add_weighted}
use Rattle.ss_terms.specs.Forms.{Forms}
use Rattle.ss_linear_sums.specs.declared.forms.Part.{Part}
use Rattle.ss_linear_sums.specs.Linear.{parts_at, HasParts}
use Rattle.ss_linear_sums.specs.Parts.{with_coefficient}

abbrev pub with_known : List ClassTree → List Formula → sums.LinearSum → ℕ → ℤ → Option sums.LinearSum
with_known cs known a i w = option_and_then (λ fact. add_weighted w a fact) (option_and_then (sum_fact_of cs) (slice_get known i))

-- the part divided, none where it has no coefficient
abbrev pub divided_part : ℤ → Part → Option (List Part)
divided_part d p =
    if is_zero p.coefficient then Some []
    else if is_zero (int_rem_euclid p.coefficient d) then Some (with_coefficient (int_div_euclid p.coefficient d) p ∷ [])
    else None

abbrev pub IsDividedOnto : Bool → Option (List Part) → List Part → List Part → Type 0
IsDividedOnto true o old new = (qs : List Part) × (o ≡ Some qs) × (new ≡ old ++ qs)
IsDividedOnto false o old new = o ≡ None

abbrev pub AreDivided : Forms → Option (List Part) → Option (List (Term × ℤ)) → Type 0
AreDivided b None o = o ≡ None
AreDivided b (Some ps) o = HasParts b ps × (o ≡ Some (parts_at b ps))
