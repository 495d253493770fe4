-- Known literals, whole numbers of one class, and sums of them.
use Rattle.std.proofs.Common.{◌≡◌, ℕ, ◌+◌, ◌<◌, List, [], ◌∷◌, ◌++◌, length, map, filter, take, get_or, Bool, true, false, not, cond, Option, Some, None, sym, ◌∙◌, ap, subst, inl, inr, ◌⊎◌, ⊎_elim}
use Rattle.std.specs.Prelude.{is_some, IfNone}
use Rattle.std.specs.List.{Contains}
use Rattle.std.proofs.lemmas.Bool.{false≢true}
use Rattle.std.proofs.lemmas.List.{take_more, map-append, append-nil}
use Rattle.std.proofs.lemmas.List.Elements.{Contains-append_left, Contains-append_right, filter-append}
use Rattle.ss_core.specs.Tree.{ClassTree}
use Rattle.ss_logic.specs.Terms.{Term}
use Rattle.ss_logic.specs.Shapes.{equal}
use Rattle.ss_linear_rules.specs.Two.{Two}
use Rattle.ss_logic.specs.Occurring.{terms}
use Rattle.ss_logic_countermodels.specs.Refuting.{is_whole}
use Rattle.ss_terms.specs.declared.forms.TermId.{TermId}
use Rattle.ss_terms.specs.declared.forms.FormulaId.{FormulaId}
use Rattle.ss_terms.specs.Forms.{Forms, term_at, terms_at, formulas_at, HasTerm, HasTerms}
use Rattle.ss_equality_rules.specs.Equal.{class_number}
use Rattle.ss_linear.specs.Contradictions.{equality_at, equalities_at, HasPairs, Pairs}
use Rattle.ss_linear.specs.Met.{Follow, AreMet}
use Rattle.ss_linear.proofs.Seen.{both_met, no_two}
use Rattle.ss_search_clashes.specs.Numbered.{class_of, IsClassing}
use Rattle.ss_logic.proofs.Lists.{contains_filter, from_filter, contains_head, contains_cons, map_from, map_to}
use Rattle.ss_search_reached.specs.Groups.{AreAmong, ArePairs, AreOfOneClass, IsWholeIn, AreWholePairs, AreChained, AreWholeLinks}
use Rattle.ss_search_reached.specs.Following.{HasNoSum}
use Rattle.ss_search_reached.proofs.Lists.{has_term}
use Rattle.ss_search_reached.proofs.Links.{chain_among, two_of_one, all_two, two_follow}

-- ---- what is kept of a list by a test

-- one more number, and what it stands for
module _ {I A : Type 0} (at : I → A) (test : A → Bool) (xs : List I) (i : ℕ) (d : I) (h : i < length xs) where
  next_filtered : filter test (map at (take (i + 1) xs)) ≡ filter test (map at (take i xs)) ++ cond (test (at (get_or xs i d))) (at (get_or xs i d) ∷ []) []
  next_filtered = ap (λ ys. filter test (map at ys)) (take_more xs i d h) ∙ ap (filter test) (map-append at (take i xs) (get_or xs i d ∷ [])) ∙ filter-append test (map at (take i xs)) (at (get_or xs i d) ∷ [])

  pub filtered_in : (ys zs : List I) → map at ys ≡ filter test (map at (take i xs)) → test (at (get_or xs i d)) ≡ true → zs ≡ ys ++ get_or xs i d ∷ [] → map at zs ≡ filter test (map at (take (i + 1) xs))
  filtered_in ys zs e t z =
      ap (map at) z ∙ map-append at ys (get_or xs i d ∷ []) ∙ ap (λ l. l ++ at (get_or xs i d) ∷ []) e
      ∙ ap (λ b. filter test (map at (take i xs)) ++ cond b (at (get_or xs i d) ∷ []) []) (sym t) ∙ sym next_filtered

  pub filtered_out : (ys : List I) → map at ys ≡ filter test (map at (take i xs)) → test (at (get_or xs i d)) ≡ false → map at ys ≡ filter test (map at (take (i + 1) xs))
  filtered_out ys e t = e ∙ sym (append-nil (filter test (map at (take i xs)))) ∙ ap (λ b. filter test (map at (take i xs)) ++ cond b (at (get_or xs i d) ∷ []) []) (sym t) ∙ sym next_filtered

-- ---- pairs

pub has_pairs : (b : Forms) (classes : List ℕ) (ts : List TermId) (ps : Pairs) → HasTerms b ts → AreAmong classes ts ps → HasPairs b ps
has_pairs b classes ts ps h only = all ps (λ p c. let r = only p c in (has_term b ts p.0 h r.0, has_term b ts p.1 h r.1))
  where
    all : (qs : Pairs) → ((p : TermId × TermId) → Contains qs p → HasTerm b p.0 × HasTerm b p.1) → HasPairs b qs
    all [] k = tt
    all (q ∷ qs) k = (k q (contains_head q qs), all qs (λ p c. k p (contains_cons q qs p c)))

pub of_one_class : (classes : List ℕ) (ts : List TermId) (ps : Pairs) → AreAmong classes ts ps → AreOfOneClass classes ps
of_one_class classes ts ps only = record { one_class = λ p c. (only p c).2 }

-- pairs of the terms that are whole numbers
module _ (cs : List ClassTree) (b : Forms) (classes : List ℕ) (xs : List Term) (ts : List TermId) (ps : Pairs) (h : HasTerms b ts) (e : terms_at b ts ≡ filter (is_whole cs) xs) where
  whole_in : (t : TermId) → Contains ts t → IsWholeIn cs b xs t
  whole_in t c = let r = from_filter (is_whole cs) xs (term_at b t) (subst (λ ys. Contains ys (term_at b t)) e (map_to (term_at b) ts t c)) in record { within = r.0; whole = r.1 }

  pub only_whole : AreAmong classes ts ps → (p : TermId × TermId) → Contains ps p → IsWholeIn cs b xs p.0 × IsWholeIn cs b xs p.1
  only_whole only p c = let r = only p c in (whole_in p.0 r.0, whole_in p.1 r.1)

  pub whole_pairs : ArePairs classes ts ps → AreWholePairs cs b classes xs ps
  whole_pairs a = record {
    all = λ s t c d ws wt.
        let x = map_from (term_at b) ts s (subst (λ ys. Contains ys s) (sym e) (contains_filter (is_whole cs) xs s c ws)) in
        let y = map_from (term_at b) ts t (subst (λ ys. Contains ys t) (sym e) (contains_filter (is_whole cs) xs t d wt)) in
        record { left = x.0; right = y.0; has_left = has_term b ts x.0 h x.1; has_right = has_term b ts y.0 h y.1; left_is = x.2; right_is = y.2; pair = a.all x.0 y.0 x.1 y.1 };
    only = only_whole a.only;
  }

pub whole_links : (cs : List ClassTree) (b : Forms) (classes : List ℕ) (xs : List Term) (ts : List TermId) (ps : Pairs) → HasTerms b ts → terms_at b ts ≡ filter (is_whole cs) xs → AreChained classes ts ps → AreWholeLinks cs b classes xs ps
whole_links cs b classes xs ts ps h e a = record {
  only = only_whole cs b classes xs ts ps h e (chain_among classes ts ps a);
  pairs = two_of_one classes ts;
  are = whole_pairs cs b classes xs ts (two_of_one classes ts) h e (all_two classes ts);
  follow = subst (λ (qs : Pairs). Follow cs (equalities_at b (two_of_one classes ts)) (equalities_at b qs)) (sym a.links) (two_follow cs b classes ts a.groups a.grouped);
}

one_term : (b : Forms) (x y : TermId) → x.0 ≡ y.0 → term_at b x ≡ term_at b y
one_term b x y e = ap (λ (n : ℕ). let t : TermId = record { 0 = n } in term_at b t) e

pub no_sum : (cs : List ClassTree) (b : Forms) (classes : List ℕ) (bs : List FormulaId) (ps : Pairs) → IsClassing b classes (class_of b classes) →
    AreWholePairs cs b classes (terms (formulas_at b bs)) ps → (Two cs (formulas_at b bs ++ equalities_at b ps) → ⊥) → HasNoSum cs (class_of b classes) (formulas_at b bs)
no_sum cs b classes bs ps classing pairs none = record {
  facts = formulas_at b bs ++ equalities_at b ps;
  literals = λ f c. Contains-append_left (formulas_at b bs) (equalities_at b ps) f c;
  equalities = λ s t c d ws wt same.
      let p = pairs.all s t c d ws wt in
      let one : class_number classes p.left ≡ class_number classes p.right =
      sym (classing.at p.left p.has_left) ∙ ap (class_of b classes) p.left_is ∙ same ∙ ap (class_of b classes) (sym p.right_is) ∙ classing.at p.right p.has_right in
      ⊎_elim
      (λ i. inl (sym p.left_is ∙ one_term b p.left p.right i ∙ p.right_is))
      (λ k. inr (Contains-append_right (formulas_at b bs) (equalities_at b ps) (equal s t)
      (subst (Contains (equalities_at b ps)) (ap (λ x. equal x (term_at b p.right)) p.left_is ∙ ap (equal s) p.right_is) (map_to (equality_at b) ps (p.left, p.right) k))))
      (p.pair one);
  none = none;
}

-- where the facts and the equalities of links are so at some numbers
pub seen_no_sum : (cs : List ClassTree) (b : Forms) (classes : List ℕ) (bs : List FormulaId) (ps : Pairs) → IsClassing b classes (class_of b classes) →
    AreWholeLinks cs b classes (terms (formulas_at b bs)) ps → AreMet cs (formulas_at b bs) (equalities_at b ps) → HasNoSum cs (class_of b classes) (formulas_at b bs)
seen_no_sum cs b classes bs ps classing links met =
    let known = formulas_at b bs in
    let equal_ones = equalities_at b links.pairs in
    no_sum cs b classes bs links.pairs classing links.are
    (λ two. no_two cs met.numbers (known ++ equal_ones) (both_met cs met.numbers known equal_ones met.met (links.follow met.numbers met.said)) two)

pub none_found : {X : Type 0} (o : Option X) (none : Bool) (P : Type 0) → is_some o ≡ not none → none ≡ true → IfNone o P → P
none_found None none P e t h = h
none_found (Some x) none P e t h = absurd (false≢true (sym (e ∙ ap not t)))
