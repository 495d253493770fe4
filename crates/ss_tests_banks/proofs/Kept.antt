-- What stays over a bank.
use Rattle.std.proofs.Common.{◌≡◌, ℕ, zero, suc, List, [], take, refl, sym, ◌∙◌, ap, subst, inl, inr, ◌⊎◌, ⊎_elim}
use Rattle.ss_terms.specs.Forms.{Forms}
use Rattle.ss_equality_rules.specs.declared.Merge.{Merge}
use Rattle.ss_equality_rules.specs.Equal.{Equations, AreFormsOf}
use Rattle.ss_tests_banks.specs.Over.{IsOver}

pub opened : (b : Forms) (v : Equations) → IsOver b v → (v ≡ record { terms = []; merges = [] }) ⊎ AreFormsOf b v.terms
unfolding IsOver
opened b v h = h

pub closed : (b : Forms) (v : Equations) → (v ≡ record { terms = []; merges = [] }) ⊎ AreFormsOf b v.terms → IsOver b v
unfolding IsOver
closed b v h = h

nothing_taken : (to : ℕ) → take {A = Merge} to [] ≡ []
nothing_taken zero = refl
nothing_taken (suc to) = refl

pub taken : (b : Forms) (v w : Equations) (to : ℕ) → IsOver b v → w ≡ record { terms = v.terms; merges = take to v.merges } → IsOver b w
unfolding IsOver
taken b v w to h e = ⊎_elim
    (λ none. inl (e ∙ ap (λ (z : Equations). let s : Equations = record { terms = z.terms; merges = take to z.merges } in s) none ∙ ap (λ ms. let s : Equations = record { terms = []; merges = ms } in s) (nothing_taken to)))
    (λ are. inr (subst (AreFormsOf b) (ap (λ (z : Equations). z.terms) (sym e)) are))
    h
