-- How proofs tell names and what stands under them apart.
use Rattle.std.specs.Prelude.{List, refl}
use Rattle.std.specs.Coded.{Coded, code_by, coded×, coded_list, coded_ℕ}
use Rattle.ss_tables.specs.Named.{Named, Scoped}

abbrev pub named_code : {A : Type 0} → Coded A → Coded (Named A)
named_code c = coded_list (coded× (coded_list coded_ℕ) c)

abbrev pub scoped_code : {A : Type 0} → Coded A → Coded (Scoped A)
scoped_code {A} c =
    code_by (Named A × List (Named A)) (coded× (named_code c) (coded_list (named_code c))) (λ s. (s.inner, s.outer)) (λ p. record { inner = p.0; outer = p.1 }) (λ _. refl)
