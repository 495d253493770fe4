-- A way over joins whose equalities are known leads through the known formulas.
use Rattle.std.proofs.Common.{◌≡◌, ℕ, List, [], ◌∷◌, ◌++◌, map, Bool, true, false, ◌&&◌, cond, eqb, Option, Some, None, option_and_then, refl, sym, ◌∙◌, ap, ⊎_elim}
use Rattle.std.specs.Prelude.{slice_get}
use Rattle.std.proofs.lemmas.Bool.{false≢true, and_parts, and_from, or_cases, or_left, or_right, cases_eq, eq-eqb, ne_eqb}
use Rattle.ss_logic.specs.Terms.{Term, term_then, no_terms}
use Rattle.ss_logic.specs.Formulas.{Formula, Literal, Equal}
use Rattle.ss_logic.specs.Equal.{same_term, equal_terms, same_term_equal}
use Rattle.ss_logic.specs.Shapes.{when, equal}
use Rattle.ss_logic_means.specs.Steps.{other_side, walk, joins, is_joined}
use Rattle.ss_logic_means.proofs.Sound.{and_then_some, when_some}
use Rattle.ss_equality_rules.specs.declared.Join.{Join}
use Rattle.ss_equality_rules.specs.Names.{Has}
use Rattle.ss_equality_rules.proofs.Lists.{has_first, has_more}
use Rattle.ss_search_clashes.proofs.Leading.{at_front}
use Rattle.ss_search_clashes.specs.Ways.{across, gone}

-- ---- known equalities

pub joined_by : (a b : Term) → joins a b (equal a b) ≡ true
joined_by a b = or_left (same_term a a && same_term b b) (same_term a b && same_term b a) (and_from (same_term a a) (same_term b b) (same_term_equal a a refl) (same_term_equal b b refl))

pub joined_back : (a b : Term) → joins a b (equal b a) ≡ true
joined_back a b = or_right (same_term a b && same_term b a) (same_term a a && same_term b b) (and_from (same_term a a) (same_term b b) (same_term_equal a a refl) (same_term_equal b b refl))

pub joined_more : (a b : Term) (known more : List Formula) (i : ℕ) → is_joined a b (slice_get known i) ≡ true → is_joined a b (slice_get (known ++ more) i) ≡ true
joined_more a b known more i h = by (slice_get known i) refl h
  where
    by : (o : Option Formula) → slice_get known i ≡ o → is_joined a b o ≡ true → is_joined a b (slice_get (known ++ more) i) ≡ true
    by None e k = absurd (false≢true k)
    by (Some f) e k = ap (is_joined a b) (at_front known more i f e) ∙ k

lead_left : (a x y : Term) → a ≡ x → other_side a (equal x y) ≡ Some y
lead_left a x y h = ap (λ t. cond t (Some y) (when (same_term a y) x)) (same_term_equal a x h)

lead_right : (b x y : Term) → b ≡ y → other_side b (equal x y) ≡ Some x
lead_right b x y h = by (same_term b x) refl
  where
    by : (t : Bool) → same_term b x ≡ t → cond (same_term b x) (Some y) (when (same_term b y) x) ≡ Some x
    by true e = ap (λ t. cond t (Some y) (when (same_term b y) x)) e ∙ ap Some (sym h ∙ equal_terms b x e)
    by false e = ap (λ t. cond t (Some y) (when (same_term b y) x)) e ∙ ap (λ t. when t x) (same_term_equal b y h)

-- a known equality leads from each of its terms to the other
joined_leads : (a b : Term) (f : Formula) → joins a b f ≡ true → (other_side a f ≡ Some b) × (other_side b f ≡ Some a)
joined_leads a b (Literal true Equal (term_then x (term_then y no_terms))) h = ⊎_elim
    (λ k. let p = and_parts (same_term a x) (same_term b y) k in
    let ax = equal_terms a x p.0 in
    let yb = equal_terms b y p.1 in
    (lead_left a x y ax ∙ ap Some (sym yb), lead_right b x y yb ∙ ap Some (sym ax)))
    (λ k. let p = and_parts (same_term a y) (same_term b x) k in
    let ay = equal_terms a y p.0 in
    let bx = equal_terms b x p.1 in
    (lead_right a x y ay ∙ ap Some (sym bx), lead_left b x y bx ∙ ap Some (sym ay)))
    (or_cases (same_term a x && same_term b y) (same_term a y && same_term b x) h)
joined_leads a b f h = absurd (false≢true h)

-- ---- walks

pub walk_more : (known more : List Formula) (x : Term) (is : List ℕ) (y : Term) → walk known x is ≡ Some y → walk (known ++ more) x is ≡ Some y
walk_more known more x [] y e = e
walk_more known more x (i ∷ is) y e =
    let p = and_then_some (λ f. option_and_then (λ z. walk known z is) (other_side x f)) (slice_get known i) y e in
    let q = and_then_some (λ z. walk known z is) (other_side x p.0) y p.2 in
    ap (option_and_then (λ f. option_and_then (λ z. walk (known ++ more) z is) (other_side x f))) (at_front known more i p.0 p.1)
    ∙ ap (option_and_then (λ z. walk (known ++ more) z is)) q.1 ∙ walk_more known more q.0 is y q.2

module _ (At : ℕ → Term) (es : List Join) (known : List Formula) (place : ℕ → ℕ) where
  -- the equality of the join is known at its place
  abbrev pub IsThere : ℕ → Type 0
  IsThere j = (e : Join) → slice_get es j ≡ Some e → is_joined (At e.left) (At e.right) (slice_get known (place j)) ≡ true

  crossed : (x z : ℕ) (e : Join) (f : Formula) → across x e ≡ Some z → joins (At e.left) (At e.right) f ≡ true → other_side (At x) f ≡ Some (At z)
  crossed x z e f h k =
      let p = joined_leads (At e.left) (At e.right) f k in
      ⊎_elim
      (λ left. let to : Some e.right ≡ Some z = sym (ap (λ b. cond b (Some e.right) (when (eqb x e.right) e.left)) (eq-eqb x e.left left)) ∙ h in
      let is : e.right ≡ z = cc in
      ap (λ t. other_side (At t) f) left ∙ p.0 ∙ ap (λ t. Some (At t)) is)
      (λ other. let w = when_some (eqb x e.right) e.left z (sym (ap (λ b. cond b (Some e.right) (when (eqb x e.right) e.left)) (ne_eqb x e.left other)) ∙ h) in
      ap (λ t. other_side (At t) f) (right x e.right w.0) ∙ p.1 ∙ ap (λ t. Some (At t)) w.1)
      (cases_eq x e.left)
    where
      right : (x r : ℕ) → eqb x r ≡ true → x ≡ r
      right x r t = ⊎_elim (λ s. s) (λ n. absurd (false≢true (sym (ne_eqb x r n) ∙ t))) (cases_eq x r)

  pub walk_gone : (x : ℕ) (js : List ℕ) (y : ℕ) → ((j : ℕ) → Has js j → IsThere j) → gone es x js ≡ Some y → walk known (At x) (map place js) ≡ Some (At y)
  walk_gone x [] y there e = let same : x ≡ y = cc in ap (λ z. Some (At z)) same
  walk_gone x (j ∷ js) y there e =
      let p = and_then_some (λ d. option_and_then (λ z. gone es z js) (across x d)) (slice_get es j) y e in
      let q = and_then_some (λ z. gone es z js) (across x p.0) y p.2 in
      step (slice_get known (place j)) refl p.0 q.0 q.1 (there j (has_first j js) p.0 p.1) (walk_gone q.0 js y (λ i h. there i (has_more j js i h)) q.2)
    where
      step : (o : Option Formula) → slice_get known (place j) ≡ o → (d : Join) (z : ℕ) → across x d ≡ Some z → is_joined (At d.left) (At d.right) (slice_get known (place j)) ≡ true → walk known (At z) (map place js) ≡ Some (At y) →
          walk known (At x) (place j ∷ map place js) ≡ Some (At y)
      step None at d z h k rest = absurd (false≢true (sym (ap (is_joined (At d.left) (At d.right)) at) ∙ k))
      step (Some f) at d z h k rest =
          ap (option_and_then (λ g. option_and_then (λ t. walk known t (map place js)) (other_side (At x) g))) at
          ∙ ap (option_and_then (λ t. walk known t (map place js))) (crossed x z d f h (sym (ap (is_joined (At d.left) (At d.right)) at) ∙ k))
          ∙ rest
