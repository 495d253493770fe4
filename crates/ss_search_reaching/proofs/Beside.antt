-- Lines that close a case with one formula more.
use Rattle.std.proofs.Common.{◌≡◌, ℕ, List, [], ◌∷◌, ◌++◌, true, Some, sym, ◌∙◌, ap, subst, inl, ⊎_elim}
use Rattle.ss_core.specs.Tree.{ClassTree}
use Rattle.ss_logic.specs.Terms.{term_then, no_terms}
use Rattle.ss_logic.specs.Formulas.{Equal, Formula, Literal, is_well_formed}
use Rattle.ss_terms.specs.declared.forms.TermId.{TermId}
use Rattle.ss_terms.specs.Forms.{Forms, term_at, formula_at}
use Rattle.ss_deriv.specs.declared.line.Line.{Line}
use Rattle.ss_equality_rules.specs.declared.Merge.{Merge}
use Rattle.ss_equality_rules.proofs.Lists.{pushed}
use Rattle.ss_search_clashes.specs.Said.{IsKnown, AreKnown}
use Rattle.ss_search_clashes.specs.declared.facts.Fact.{Fact}
use Rattle.ss_search_clashes.specs.Cases.{IsAt}
use Rattle.ss_search_reaching.specs.declared.basic.Refuting.{Refuting}
use Rattle.ss_search_reaching.specs.Refuting.{bank_of, CloseBeside}

-- one more merge, of which the equality is known
pub known_more : (cs : List ClassTree) (b : Forms) (ms : List Merge) (count : ℕ) (known : List Formula) (m : Merge) → AreKnown cs b ms count known → IsKnown cs b known m → AreKnown cs b (ms ++ m ∷ []) count known
known_more cs b ms count known m are is = record {
  many = are.many;
  merges = λ k n at. ⊎_elim (λ before. are.merges k n before) (λ last. inl (subst (IsKnown cs b known) last.1 is)) (pushed ms m n k at);
}

-- the equality of a merge stands at its place
pub merge_known : (cs : List ClassTree) (b : Forms) (known : List Formula) (fact : Fact) (s t : TermId) → formula_at b fact.formula ≡ Literal true Equal (term_then (term_at b s) (term_then (term_at b t) no_terms)) → IsAt cs b known fact →
    IsKnown cs b known (record { left = s; right = t; because = fact.place })
merge_known cs b known fact s t is h = record { at = h.at ∙ ap (λ (f : Formula). Some f) is; formed = ap (is_well_formed cs []) (sym is) ∙ h.formed }

module _ (s : Refuting) (ms ns : List Merge) (count : ℕ) (fact : Fact) (left right : TermId) (is : formula_at (bank_of s) fact.formula ≡ Literal true Equal (term_then (term_at (bank_of s) left) (term_then (term_at (bank_of s) right) no_terms)))
    (e : ns ≡ ms ++ record { left = left; right = right; because = fact.place } ∷ []) where
  -- after a trial
  pub trial_closes : (lines : List Line) → CloseBeside s ns count fact lines → CloseBeside s ms count fact lines
  trial_closes lines h = record {
    closes = λ cs premises goal known are given.
        let last : Merge = record { left = left; right = right; because = fact.place } in
        h.closes cs premises goal known
        (subst (λ (ks : List Merge). AreKnown cs (bank_of s) ks count known) (sym e) (known_more cs (bank_of s) ms count known last are (merge_known cs (bank_of s) known fact left right is given.1)))
        given;
  }
