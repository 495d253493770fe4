-- When more may be merged over a bank.
use Rattle.std.specs.Prelude.{◌≡◌, ◌⊎◌, []}
use Rattle.ss_terms.specs.Forms.{Forms}
use Rattle.ss_equality_rules.specs.Equal.{Equations, AreFormsOf}

-- there is no term yet, or the terms are those of the bank
unfoldable pub IsOver : Forms → Equations → Type 0
IsOver b v = (v ≡ record { terms = []; merges = [] }) ⊎ AreFormsOf b v.terms
