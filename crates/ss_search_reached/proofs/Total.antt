-- What is open and total is a model of all that is known.
use Rattle.std.proofs.Common.{◌≡◌, List, map, filter, Bool, true, false, not, refl, sym, ◌∙◌, ap, subst, inl, inr, ◌⊎◌, ⊎_elim}
use Rattle.std.specs.Prelude.{if◌then◌else◌}
use Rattle.std.specs.List.{Contains}
use Rattle.std.proofs.lemmas.Bool.{false≢true}
use Rattle.std.proofs.lemmas.List.Elements.{Contains-append_cases}
use Rattle.ss_core.specs.Tree.{ClassTree}
use Rattle.ss_logic.specs.Formulas.{Formula, neg}
use Rattle.ss_logic.specs.Occurring.{atoms, terms}
use Rattle.ss_logic_countermodels.specs.Refuting.{Model, Refutes, comes_out, told_in, told, as_told, is_whole, equalities, facts_of}
use Rattle.ss_logic.specs.Includes.{Includes}
use Rattle.ss_search_procedure_rules.specs.Closed.{is_basic, basics, IsSaturated, IsTotal}
use Rattle.ss_search_procedure_rules.specs.Clashes.{Classing, model_by}
use Rattle.ss_logic.proofs.Lists.{contains_filter, from_filter, map_from, all_at}
use Rattle.ss_search_procedure_rules.proofs.Occurring.{from_collected, terms_of_more}
use Rattle.ss_search_procedure_rules.proofs.Told.{is_told, atoms_of_more}
use Rattle.ss_search_procedure_rules.proofs.Models.{negated, agreeing, tells}
use Rattle.ss_search_procedure_rules.proofs.Facts.{from_equalities, filter_distinct, terms_distinct}
use Rattle.ss_search_procedure_rules.proofs.Sums.{two_of_more}
use Rattle.ss_search_reached.specs.Following.{HasNoSum}

not_true : (b : Bool) → not b ≡ true → b ≡ false
not_true true e = absurd (false≢true e)
not_true false e = refl

module _ (cs : List ClassTree) (known fs : List Formula) (class : Classing) (saturated : IsSaturated cs known) (is : saturated.model ≡ model_by class (basics known)) (sums : HasNoSum cs class (basics known)) (total : IsTotal known) (i : Includes known fs) where
  abbrev m : Model
  m = saturated.model

  basic_true : (f : Formula) → is_basic f ≡ true → Contains known f → comes_out m f ≡ true
  basic_true f b h = all_at (comes_out m) (basics known) f saturated.refutes.agrees.true_ones (contains_filter is_basic known f h b)

  -- what is told is true where it is known, and false where its negation is
  pub known_truth : (p : Formula) → Contains (told fs) p → (Contains known p × (m.truth p ≡ true)) ⊎ (Contains known (neg p) × (m.truth p ≡ false))
  known_truth p h =
      let r = from_collected told_in fs p h in
      let t = is_told r.0 p r.2 in
      ⊎_elim
      (λ k. inl (k, sym (t.out m) ∙ basic_true p t.basic k))
      (λ k. inr (k, not_true (m.truth p) (ap not (sym (t.out m)) ∙ sym (negated m p) ∙ basic_true (neg p) t.negation_basic k)))
      (total p (r.0, i r.0 r.1, r.2))

  pub told_true : (p : Formula) → Contains (told fs) p → Contains known p → m.truth p ≡ true
  told_true p h k =
      let r = from_collected told_in fs p h in
      let t = is_told r.0 p r.2 in
      sym (t.out m) ∙ basic_true p t.basic k

  told_fact : (p : Formula) → Contains (told fs) p → Contains sums.facts (as_told m p)
  told_fact p h =
      let r = from_collected told_in fs p h in
      let t = is_told r.0 p r.2 in
      ⊎_elim
      (λ k. subst (Contains sums.facts) (sym (ap (λ b. if b then p else neg p) k.1)) (sums.literals p (contains_filter is_basic known p k.0 t.basic)))
      (λ k. subst (Contains sums.facts) (sym (ap (λ b. if b then p else neg p) k.1)) (sums.literals (neg p) (contains_filter is_basic known (neg p) k.0 t.negation_basic)))
      (known_truth p h)

  terms_there : Includes (terms (basics known)) (terms fs)
  terms_there = terms_of_more (atoms fs) (atoms (basics known)) (atoms_of_more (basics known) fs (tells cs known saturated total fs i))

  facts_there : Includes sums.facts (facts_of cs m fs)
  facts_there f h = ⊎_elim
      (λ k. let r = map_from (as_told m) (told fs) f k in subst (Contains sums.facts) r.2 (told_fact r.0 r.1))
      (λ k.
      let r = from_equalities m (filter (is_whole cs) (terms fs)) (filter_distinct (is_whole cs) (terms fs) (terms_distinct fs)) f k in
      let s = from_filter (is_whole cs) (terms fs) r.left r.left_in in
      let t = from_filter (is_whole cs) (terms fs) r.right r.right_in in
      let one : class r.left ≡ class r.right = ap (λ (x : Model). x.class r.left) (sym is) ∙ r.classes ∙ ap (λ (x : Model). x.class r.right) is in
      ⊎_elim (λ e. absurd (r.apart e)) (λ c. subst (Contains sums.facts) (sym r.is) c) (sums.equalities r.left r.right (terms_there r.left s.0) (terms_there r.right t.0) s.1 t.1 one))
      (Contains-append_cases (map (as_told m) (told fs)) (equalities m (filter (is_whole cs) (terms fs))) f h)

  pub refutes_known : Refutes cs m fs
  refutes_known = record {
    agrees = agreeing cs known saturated total fs i;
    numbers = λ t. sums.none (two_of_more cs (facts_of cs m fs) sums.facts facts_there t);
  }
