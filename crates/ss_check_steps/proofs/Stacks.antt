-- The stack of cases.
use Rattle.std.proofs.Common.{◌≡◌, ℕ, ◌+◌, ◌-◌, ◌<◌, ◌≤◌, List, [], ◌∷◌, ◌++◌, length, map, take, drop, reverse, Bool, true, false, Option, Some, None, refl, sym, ◌∙◌, ap, arith, get_or}
use Rattle.std.proofs.lemmas.List.{drop_more, reverse-append, take-append-le, take-take, take_all, map_push, length_push}
use Rattle.ss_core.specs.Tree.{ClassTree}
use Rattle.ss_logic.specs.Formulas.{Formula, is_well_formed}
use Rattle.ss_logic_means.specs.Steps.{State, Open, Between, open_cases, add_fact}
use Rattle.ss_terms.specs.declared.forms.FormulaId.{FormulaId}
use Rattle.ss_terms.specs.Forms.{Forms, formula_at, formulas_at, HasFormula, HasFormulas, IsGrown}
use Rattle.ss_terms.proofs.Grown.{HasFormula-grown, HasFormulas-grown, formulas_at-grown}
use Rattle.ss_check_steps.specs.Stack.{cases_from, waiting_of, IsStack, state_of, AreCases}
use Rattle.ss_check_steps.proofs.Numbers.{HasFormulas-take}
use Rattle.ss_terms.proofs.Longer.{HasFormulas-push}

pub push_more : (w w' old : List (ℕ × FormulaId)) (n : ℕ) (fs : List FormulaId) (i : ℕ) (d : FormulaId) → i < length fs → w' ≡ w ++ (n, get_or fs (length fs - 1 - i) d) ∷ [] →
    reverse w ≡ map (λ f. (n, f)) (drop (length fs - i) fs) ++ reverse old → reverse w' ≡ map (λ f. (n, f)) (drop (length fs - (i + 1)) fs) ++ reverse old
push_more w w' old n fs i d h e inv =
    let k : length fs - (i + 1) + 1 ≡ length fs - i = omega arith in
    let k' : length fs - (i + 1) ≡ length fs - 1 - i = omega arith in
    let top = reverse-append w ((n, get_or fs (length fs - 1 - i) d) ∷ []) in
    let more = drop_more fs (length fs - (i + 1)) d (omega arith) in
    ap reverse e ∙ top ∙ ap (λ x. (n, get_or fs (length fs - 1 - i) d) ∷ x) inv ∙ sym (ap (λ xs. map (λ f. (n, f)) xs ++ reverse old) (more ∙ ap (λ j. get_or fs j d ∷ drop (length fs - (i + 1) + 1) fs) k' ∙ ap (λ j. get_or fs (length fs - 1 - i) d ∷ drop j fs) k))

-- what the stack says does not change while the path grows, or is cut back no further than its longest front
pub cases_from-longer : (b : Forms) (known more : List FormulaId) (n : ℕ) (stack : List (ℕ × FormulaId)) → IsStack b n stack → n ≤ length known → cases_from b (known ++ more) stack ≡ cases_from b known stack
cases_from-longer b known more n [] s h = refl
cases_from-longer b known more n (c ∷ rest) s h =
    let short : c.0 ≤ length known = omega (arith, s.0) in
    let e = take-append-le c.0 known more short in
    let es = cases_from-longer b known more c.0 rest s.2 short in cc

pub cases_from-cut : (b : Forms) (known : List FormulaId) (n : ℕ) (stack : List (ℕ × FormulaId)) → IsStack b n stack → cases_from b (take n known) stack ≡ cases_from b known stack
cases_from-cut b known n [] s = refl
cases_from-cut b known n (c ∷ rest) s =
    let e = take-take c.0 n known s.0 in
    let es = cases_from-cut b (take n known) c.0 rest s.2 in
    let es' = cases_from-cut b known c.0 rest s.2 in
    let same = ap (λ xs. cases_from b xs rest) e in cc

pub cases_from-grown : (a b : Forms) → IsGrown a b → (known : List FormulaId) → HasFormulas a known → (n : ℕ) (stack : List (ℕ × FormulaId)) → IsStack a n stack → cases_from b known stack ≡ cases_from a known stack
cases_from-grown a b g known k n [] s = refl
cases_from-grown a b g known k n (c ∷ rest) s =
    let e = formulas_at-grown a b g (take c.0 known) (HasFormulas-take a c.0 known k) in
    let f = g.same_formulas c.1 s.1 in
    let es = cases_from-grown a b g known k c.0 rest s.2 in cc

cases_from-opened : (b : Forms) (known fs : List FormulaId) (stack : List (ℕ × FormulaId)) →
    cases_from b known (map (λ f. (length known, f)) fs ++ stack) ≡ map (λ x. formulas_at b known ++ x ∷ []) (formulas_at b fs) ++ cases_from b known stack
cases_from-opened b known [] stack = refl
cases_from-opened b known (f ∷ fs) stack =
    let whole = take_all (length known) known (omega arith) in
    let es = cases_from-opened b known fs stack in cc

IsStack-opened : (b : Forms) (n : ℕ) (fs : List FormulaId) (stack : List (ℕ × FormulaId)) → HasFormulas b fs → IsStack b n stack → IsStack b n (map (λ f. (n, f)) fs ++ stack)
IsStack-opened b n [] stack h s = s
IsStack-opened b n (f ∷ fs) stack h s = (omega arith, h.0, IsStack-opened b n fs stack h.1 s)

module _ (b : Forms) (known known' fs : List FormulaId) (w w' : List (ℕ × FormulaId)) (same : known' ≡ known) (opened : reverse w' ≡ map (λ f. (length known, f)) fs ++ reverse w) where
  pub AreCases-opened : AreCases b known w → HasFormulas b fs → AreCases b known' w'
  AreCases-opened a h = record {
    known = rw same a.known;
    waiting = rw (same, opened) (IsStack-opened b (length known) fs (reverse w) h a.waiting);
  }

  pub state_of-opened : (o : Bool) → o ≡ false → open_cases (formulas_at b known) (waiting_of b known w) (formulas_at b fs) ≡ state_of b o known' w'
  state_of-opened o e = rw (e, opened, same) (ap Between (sym (cases_from-opened b known fs (reverse w))))

pub state_of-grown : (a b : Forms) → IsGrown a b → (o : Bool) (known : List FormulaId) (w : List (ℕ × FormulaId)) → AreCases a known w → state_of b o known w ≡ state_of a o known w
state_of-grown a b g true known w c =
    let e = formulas_at-grown a b g known c.known in
    let es = cases_from-grown a b g known c.known (length known) (reverse w) c.waiting in cc
state_of-grown a b g false known w c = ap Between (cases_from-grown a b g known c.known (length known) (reverse w) c.waiting)

IsStack-grown : (a b : Forms) → IsGrown a b → (k : ℕ) (stack : List (ℕ × FormulaId)) → IsStack a k stack → IsStack b k stack
IsStack-grown a b g k [] s = tt
IsStack-grown a b g k (c ∷ rest) s = (s.0, HasFormula-grown a b g c.1 s.1, IsStack-grown a b g c.0 rest s.2)

pub IsStack-longer : (b : Forms) (j k : ℕ) → j ≤ k → (stack : List (ℕ × FormulaId)) → IsStack b j stack → IsStack b k stack
IsStack-longer b j k h [] s = tt
IsStack-longer b j k h (c ∷ rest) s = (omega (arith, s.0), s.1, s.2)

pub AreCases-grown : (a b : Forms) → IsGrown a b → (known : List FormulaId) (w : List (ℕ × FormulaId)) → AreCases a known w → AreCases b known w
AreCases-grown a b g known w c = record { known = HasFormulas-grown a b g known c.known; waiting = IsStack-grown a b g (length known) (reverse w) c.waiting }

-- one more formula is known
module _ (b : Forms) (known known' : List FormulaId) (w : List (ℕ × FormulaId)) (f : FormulaId) (added : known' ≡ known ++ f ∷ []) where
  pub AreCases-added : AreCases b known w → HasFormula b f → AreCases b known' w
  AreCases-added c h = rw added (record { known = HasFormulas-push b known f c.known h; waiting = IsStack-longer b (length known) (length (known ++ f ∷ [])) (omega (arith, length_push known f)) (reverse w) c.waiting })

  pub state_of-added : AreCases b known w → Open (formulas_at b known ++ formula_at b f ∷ []) (waiting_of b known w) ≡ state_of b true known' w
  state_of-added c =
      rw added (
      let e = map_push (formula_at b) known f in
      let es = cases_from-longer b known (f ∷ []) (length known) (reverse w) c.waiting (omega arith) in cc)

-- a line that makes a formula known, while the bank grows
module _ (cs : List ClassTree) (a b : Forms) (grown : IsGrown a b) (known : List FormulaId) (w : List (ℕ × FormulaId)) (c : AreCases a known w) where
  pub added : (o : Option Formula) (f : FormulaId) (s : State) → o ≡ Some (formula_at b f) → is_well_formed cs [] (formula_at b f) ≡ true →
      Open (formulas_at b known ++ formula_at b f ∷ []) (waiting_of b known w) ≡ s → add_fact cs (formulas_at a known) (waiting_of a known w) o ≡ Some s
  added o f s e sorted is =
      let ks = formulas_at-grown a b grown known c.known in
      let ws = cases_from-grown a b grown known c.known (length known) (reverse w) c.waiting in
      rw (e, sorted) (ap Some (rw (← ks, ← ws) is))

pub not_added : (cs : List ClassTree) (known : List Formula) (waiting : List (List Formula)) (o : Option Formula) (f : Formula) → o ≡ Some f → is_well_formed cs [] f ≡ false → add_fact cs known waiting o ≡ None
not_added cs known waiting o f e sorted = rw (e, sorted) refl

pub state_of-learnt : (b : Forms) (known known' : List FormulaId) (w : List (ℕ × FormulaId)) (f : FormulaId) → known' ≡ known ++ f ∷ [] → AreCases b known w → (o : Bool) → o ≡ true →
    Open (formulas_at b known ++ formula_at b f ∷ []) (waiting_of b known w) ≡ state_of b o known' w
state_of-learnt b known known' w f e c o is = rw is (state_of-added b known known' w f e c)
