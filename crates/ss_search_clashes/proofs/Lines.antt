-- Lines of equalities, and the lines on arguments before them.
use Rattle.std.proofs.Common.{◌≡◌, ℕ, suc, ◌+◌, List, [], ◌∷◌, ◌++◌, length, map, Bool, true, false, ◌&&◌, cond, Some, option_and_then, refl, sym, ◌∙◌, ap, subst, ⊎_elim, append_assoc, length-append, arith}
use Rattle.std.specs.Prelude.{slice_get}
use Rattle.std.specs.Bool.{beq}
use Rattle.std.proofs.lemmas.Bool.{and_from, cases_Bool}
use Rattle.std.proofs.lemmas.List.{map-append, length-map}
use Rattle.ss_core.specs.Tree.{ClassTree}
use Rattle.ss_logic.specs.Terms.{Symbol, Term, App, terms_from, term_list}
use Rattle.ss_logic.specs.Formulas.{Predicate, Formula, Literal, is_well_formed}
use Rattle.ss_logic.specs.Equal.{same_term, same_term_equal, same_symbol, same_predicate, answer_from}
use Rattle.ss_logic.specs.Shapes.{when, equal}
use Rattle.ss_logic_means.specs.Steps.{Line, Chain, Cong, Swap, walk, is_joined, are_exchanged, is_congruent, is_swapped, fact_of}
use Rattle.ss_terms.specs.declared.forms.TermId.{TermId}
use Rattle.ss_terms.specs.Forms.{Forms, term_at}
use Rattle.ss_terms.proofs.Sorted.{list_back}
use Rattle.ss_equality_rules.specs.declared.Join.{Join}
use Rattle.ss_equality_rules.specs.Whole.{numbers}
use Rattle.ss_search_clashes.specs.Leading.{Leads}
use Rattle.ss_search_clashes.proofs.Leading.{at_end, goes_on, by_fact, stays}
use Rattle.ss_search_clashes.specs.Ways.{way}
use Rattle.ss_search_clashes.specs.Said.{fact_said, facts_said}
use Rattle.ss_search_clashes.specs.Placed.{places_of, chain_between, chains}
use Rattle.ss_search_clashes.proofs.Lists.{nothing_after}
use Rattle.ss_search_clashes.proofs.Walks.{walk_more, joined_by}

-- ---- facts

pub at_behind : {A : Type 0} (xs ys : List A) (i : ℕ) → slice_get (xs ++ ys) (length xs + i) ≡ slice_get ys i
at_behind {A = A} [] ys i = let z : length {A = A} [] + i ≡ i = omega arith in ap (slice_get ys) z
at_behind {A = A} (x ∷ xs) ys i = let z : length (x ∷ xs) + i ≡ suc (length xs + i) = omega arith in ap (slice_get (x ∷ xs ++ ys)) z ∙ at_behind xs ys i

pub behind_first : (known : List Formula) (one two : List Line) → known ++ facts_said (one ++ two) ≡ (known ++ facts_said one) ++ facts_said two
behind_first known one two = ap (λ fs. known ++ fs) (map-append fact_said one two) ∙ sym (append_assoc known (facts_said one) (facts_said two))

pub last_fact : (known : List Formula) (lines : List Line) (line : Line) → slice_get (known ++ facts_said (lines ++ line ∷ [])) (length known + length lines) ≡ Some (fact_said line)
last_fact known lines line =
    ap (λ fs. slice_get fs (length known + length lines)) (behind_first known lines (line ∷ []))
    ∙ ap (slice_get ((known ++ facts_said lines) ++ fact_said line ∷ [])) (sym (length-append known (facts_said lines) ∙ ap (λ n. length known + n) (length-map lines fact_said)))
    ∙ at_end (known ++ facts_said lines) (fact_said line)

-- Known equalities at the places along the way join the two terms, and their equality is well formed.
pub record CanChain (cs : List ClassTree) (b : Forms) (es : List Join) (places : List ℕ) (known : List Formula) (x y : TermId) : Type 0 where
  pub path : walk known (term_at b x) (places_of places (way es x.0 y.0)) ≡ Some (term_at b y)
  pub formed : is_well_formed cs [] (equal (term_at b x) (term_at b y)) ≡ true

-- ---- lines

module _ (cs : List ClassTree) (premises : List Formula) (goal : Formula) where
  pub chain_fact : (known : List Formula) (x y : Term) (is : List ℕ) → walk known x is ≡ Some y → fact_of cs premises goal known (Chain x y is) ≡ Some (equal x y)
  chain_fact known x y is e = ap (option_and_then (λ z. when (same_term z y) (equal x y))) e ∙ ap (λ t. when t (equal x y)) (same_term_equal y y refl)

  pub cong_fact : (known : List Formula) (x y : Term) (is : List ℕ) → is_congruent known is x y ≡ true → fact_of cs premises goal known (Cong x y is) ≡ Some (equal x y)
  cong_fact known x y is e = ap (λ t. when t (equal x y)) e

  pub swap_fact : (known : List Formula) (i : ℕ) (g f : Formula) (js : List ℕ) → slice_get known i ≡ Some g → is_swapped known js g f ≡ true → fact_of cs premises goal known (Swap i f js) ≡ Some f
  swap_fact known i g f js at e = ap (option_and_then (λ h. when (is_swapped known js h f) f)) at ∙ ap (λ t. when t f) e

  module _ (start : List Formula) where
    -- these lines lead to what they make known
    abbrev pub Lead : List Line → Type 0
    Lead lines = Leads cs premises goal start lines (start ++ facts_said lines) []

    pub no_line : Lead []
    no_line = subst (λ fs. Leads cs premises goal start [] fs []) (sym (nothing_after start)) (stays cs premises goal start)

    pub one_more : (lines : List Line) (line : Line) → Lead lines → fact_of cs premises goal (start ++ facts_said lines) line ≡ Some (fact_said line) → is_well_formed cs [] (fact_said line) ≡ true → Lead (lines ++ line ∷ [])
    one_more lines line lead is formed =
        subst (λ fs. Leads cs premises goal start (lines ++ line ∷ []) fs []) (sym (behind_first start lines (line ∷ [])))
        (goes_on cs premises goal start (start ++ facts_said lines) ((start ++ facts_said lines) ++ fact_said line ∷ []) lines (line ∷ []) [] [] lead
        (by_fact cs premises goal (start ++ facts_said lines) line (fact_said line) is formed))

    -- ---- lines on arguments

    module _ (b : Forms) (es : List Join) (places : List ℕ) where
      more_known : (known more : List Formula) (x y : TermId) → CanChain cs b es places known x y → CanChain cs b es places (known ++ more) x y
      more_known known more x y can = record { path = walk_more known more (term_at b x) (places_of places (way es x.0 y.0)) (term_at b y) can.path; formed = can.formed }

      pub chain_leads : (lines : List Line) (x y : TermId) → Lead lines → CanChain cs b es places (start ++ facts_said lines) x y → Lead (lines ++ Chain (term_at b x) (term_at b y) (places_of places (way es x.0 y.0)) ∷ [])
      chain_leads lines x y lead can =
          one_more lines (Chain (term_at b x) (term_at b y) (places_of places (way es x.0 y.0))) lead (chain_fact (start ++ facts_said lines) (term_at b x) (term_at b y) (places_of places (way es x.0 y.0)) can.path) can.formed

      between_leads : (lines : List Line) (x y : TermId) → Lead lines → CanChain cs b es places (start ++ facts_said lines) x y → Lead (lines ++ chain_between b es places x y)
      between_leads lines x y lead can = by (same_term (term_at b x) (term_at b y))
        where
          by : (t : Bool) → Lead (lines ++ cond t [] (Chain (term_at b x) (term_at b y) (places_of places (way es x.0 y.0)) ∷ []))
          by true = subst Lead (sym (nothing_after lines)) lead
          by false = chain_leads lines x y lead can

      pub chains_lead : (lines : List Line) (xs ys : List TermId) → Lead lines →
          ((i : ℕ) (x y : TermId) → slice_get xs i ≡ Some x → slice_get ys i ≡ Some y → CanChain cs b es places (start ++ facts_said lines) x y) → Lead (lines ++ chains b es places xs ys)
      chains_lead lines [] ys lead can = subst Lead (sym (nothing_after lines)) lead
      chains_lead lines (x ∷ xs) [] lead can = subst Lead (sym (nothing_after lines)) lead
      chains_lead lines (x ∷ xs) (y ∷ ys) lead can =
          subst Lead (append_assoc lines (chain_between b es places x y) (chains b es places xs ys))
          (chains_lead (lines ++ chain_between b es places x y) xs ys (between_leads lines x y lead (can 0 x y refl refl))
          (λ i u v p q. subst (λ fs. CanChain cs b es places fs u v) (sym (behind_first start lines (chain_between b es places x y))) (more_known (start ++ facts_said lines) (facts_said (chain_between b es places x y)) u v (can (suc i) u v p q))))

-- ---- what is exchanged by the lines on arguments

exchanged_same : (known : List Formula) (a c : Term) (xs ys : List Term) (js : List ℕ) → same_term a c ≡ true → are_exchanged known xs ys js ≡ true → are_exchanged known (a ∷ xs) (c ∷ ys) js ≡ true
exchanged_same known a c xs ys [] s h = and_from (same_term a c) (are_exchanged known xs ys []) s h
exchanged_same known a c xs ys (j ∷ js) s h = ap (λ t. cond t (are_exchanged known xs ys (j ∷ js)) (is_joined a c (slice_get known j) && are_exchanged known xs ys js)) s ∙ h

exchanged_joined : (known : List Formula) (a c : Term) (xs ys : List Term) (j : ℕ) (js : List ℕ) → same_term a c ≡ false → is_joined a c (slice_get known j) ≡ true → are_exchanged known xs ys js ≡ true → are_exchanged known (a ∷ xs) (c ∷ ys) (j ∷ js) ≡ true
exchanged_joined known a c xs ys j js s k h =
    ap (λ t. cond t (are_exchanged known xs ys (j ∷ js)) (is_joined a c (slice_get known j) && are_exchanged known xs ys js)) s
    ∙ and_from (is_joined a c (slice_get known j)) (are_exchanged known xs ys js) k h

numbers_next : (from n : ℕ) → numbers from (suc n) ≡ from ∷ numbers (suc from) n
unfolding numbers
numbers_next from n = refl

numbers_none : (from : ℕ) → numbers from 0 ≡ []
unfolding numbers
numbers_none from = refl

-- the facts of these lines are known from this place on
abbrev pub AreFrom : List Formula → ℕ → List Line → Type 0
AreFrom known from lines = (i : ℕ) (f : Formula) → slice_get (facts_said lines) i ≡ Some f → slice_get known (from + i) ≡ Some f

module _ (b : Forms) (es : List Join) (places : List ℕ) where
  abbrev Between : TermId → TermId → Line
  Between x y = Chain (term_at b x) (term_at b y) (places_of places (way es x.0 y.0))

  pub between_same : (x y : TermId) → same_term (term_at b x) (term_at b y) ≡ true → chain_between b es places x y ≡ []
  between_same x y h = ap (λ t. cond t [] (Between x y ∷ [])) h

  pub between_other : (x y : TermId) → same_term (term_at b x) (term_at b y) ≡ false → chain_between b es places x y ≡ Between x y ∷ []
  between_other x y h = ap (λ t. cond t [] (Between x y ∷ [])) h

  module _ (known : List Formula) where
    -- the arguments from here on are exchanged
    abbrev Exchanged : List TermId → List TermId → ℕ → List Line → Type 0
    Exchanged xs ys from lines = are_exchanged known (map (term_at b) xs) (map (term_at b) ys) (numbers from (length lines)) ≡ true

    exchange_same : (from : ℕ) (x y : TermId) (xs ys : List TermId) → same_term (term_at b x) (term_at b y) ≡ true → AreFrom known from (chains b es places (x ∷ xs) (y ∷ ys)) →
        (AreFrom known from (chains b es places xs ys) → Exchanged xs ys from (chains b es places xs ys)) → Exchanged (x ∷ xs) (y ∷ ys) from (chains b es places (x ∷ xs) (y ∷ ys))
    exchange_same from x y xs ys s h ih =
        let same : chains b es places (x ∷ xs) (y ∷ ys) ≡ chains b es places xs ys = ap (λ ls. ls ++ chains b es places xs ys) (between_same x y s) in
        ap (λ ls. are_exchanged known (map (term_at b) (x ∷ xs)) (map (term_at b) (y ∷ ys)) (numbers from (length ls))) same
        ∙ exchanged_same known (term_at b x) (term_at b y) (map (term_at b) xs) (map (term_at b) ys) (numbers from (length (chains b es places xs ys))) s
        (ih (λ i f at. h i f (ap (λ ls. slice_get (facts_said ls) i) same ∙ at)))

    exchange_other : (from : ℕ) (x y : TermId) (xs ys : List TermId) → same_term (term_at b x) (term_at b y) ≡ false → AreFrom known from (chains b es places (x ∷ xs) (y ∷ ys)) →
        (AreFrom known (suc from) (chains b es places xs ys) → Exchanged xs ys (suc from) (chains b es places xs ys)) → Exchanged (x ∷ xs) (y ∷ ys) from (chains b es places (x ∷ xs) (y ∷ ys))
    exchange_other from x y xs ys s h ih =
        let same : chains b es places (x ∷ xs) (y ∷ ys) ≡ Between x y ∷ chains b es places xs ys = ap (λ ls. ls ++ chains b es places xs ys) (between_other x y s) in
        let here : from ≡ from + 0 = omega arith in
        let first : slice_get known from ≡ Some (equal (term_at b x) (term_at b y)) =
        ap (slice_get known) here ∙ h 0 (equal (term_at b x) (term_at b y)) (ap (λ ls. slice_get (facts_said ls) 0) same) in
        ap (λ ls. are_exchanged known (map (term_at b) (x ∷ xs)) (map (term_at b) (y ∷ ys)) (numbers from (length ls))) same
        ∙ ap (are_exchanged known (map (term_at b) (x ∷ xs)) (map (term_at b) (y ∷ ys))) (numbers_next from (length (chains b es places xs ys)))
        ∙ exchanged_joined known (term_at b x) (term_at b y) (map (term_at b) xs) (map (term_at b) ys) from (numbers (suc from) (length (chains b es places xs ys))) s
        (ap (is_joined (term_at b x) (term_at b y)) first ∙ joined_by (term_at b x) (term_at b y))
        (ih (λ i f at. let next : suc from + i ≡ from + suc i = omega arith in
        ap (slice_get known) next ∙ h (suc i) f (ap (λ ls. slice_get (facts_said ls) (suc i)) same ∙ at)))

    pub chains_exchange : (from : ℕ) (xs ys : List TermId) → length xs ≡ length ys → AreFrom known from (chains b es places xs ys) → Exchanged xs ys from (chains b es places xs ys)
    chains_exchange from [] [] l h = ap (are_exchanged known [] []) (numbers_none from)
    chains_exchange from [] (y ∷ ys) l h = absurd (omega (arith, l))
    chains_exchange from (x ∷ xs) [] l h = absurd (omega (arith, l))
    chains_exchange from (x ∷ xs) (y ∷ ys) l h = ⊎_elim
        (λ s. exchange_same from x y xs ys s h (λ k. chains_exchange from xs ys (omega (arith, l)) k))
        (λ s. exchange_other from x y xs ys s h (λ k. chains_exchange (suc from) xs ys (omega (arith, l)) k))
        (cases_Bool (same_term (term_at b x) (term_at b y)))

-- ---- one function, and one predicate

same_symbol_equal : (f : Symbol) → same_symbol f f ≡ true
unfolding same_symbol
same_symbol_equal f = answer_from _ refl

same_predicate_equal : (p : Predicate) → same_predicate p p ≡ true
unfolding same_predicate
same_predicate_equal p = answer_from _ refl

pub congruent_lists : (known : List Formula) (js : List ℕ) (f : Symbol) (xs ys : List Term) → (xs ≡ [] → ⊥) → are_exchanged known xs ys js ≡ true → is_congruent known js (App f (terms_from xs)) (App f (terms_from ys)) ≡ true
congruent_lists known js f [] ys some h = absurd (some refl)
congruent_lists known js f (x ∷ xs) ys some h =
    and_from (same_symbol f f) (are_exchanged known (x ∷ term_list (terms_from xs)) (term_list (terms_from ys)) js) (same_symbol_equal f)
    (ap (λ us. are_exchanged known (x ∷ us) (term_list (terms_from ys)) js) (list_back xs) ∙ ap (λ us. are_exchanged known (x ∷ xs) us js) (list_back ys) ∙ h)

beq_same : (s : Bool) → beq s s ≡ true
beq_same true = refl
beq_same false = refl

pub swapped_lists : (known : List Formula) (js : List ℕ) (s : Bool) (p : Predicate) (xs ys : List Term) → are_exchanged known xs ys js ≡ true → is_swapped known js (Literal s p (terms_from xs)) (Literal s p (terms_from ys)) ≡ true
swapped_lists known js s p xs ys h =
    and_from (beq s s && same_predicate p p) (are_exchanged known (term_list (terms_from xs)) (term_list (terms_from ys)) js)
    (and_from (beq s s) (same_predicate p p) (beq_same s) (same_predicate_equal p))
    (ap (λ us. are_exchanged known us (term_list (terms_from ys)) js) (list_back xs) ∙ ap (λ us. are_exchanged known xs us js) (list_back ys) ∙ h)
