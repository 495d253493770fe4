-- Whole runs.
use Rattle.std.proofs.Common.{◌≡◌, ℕ, ◌+◌, ◌*◌, ◌<◌, List, [], ◌∷◌, ◌++◌, length, map, take, drop, reverse, Bool, true, false, Some, None, refl, sym, ◌∙◌, ap, arith, get_or, nat_lt}
use Rattle.std.proofs.lemmas.List.{drop_more, drop-map, reverse-append, map_push, length_push, length-take-le}
use Rattle.std.proofs.lemmas.Bool.{and_parts, ltb-true}
use Rattle.std.specs.Prelude.{if◌then◌else◌}
use Rattle.ss_core.specs.Tree.{ClassTree}
use Rattle.ss_logic.specs.Formulas.{Formula}
use Rattle.ss_logic_means.specs.Steps.{State, Open, Between, add_fact, fact_of, step_open, step, bad_from, Nowhere, Case as TreeCase, Cut as TreeCut, Inst as TreeInst, Rule as TreeRule, GoodLine as TreeGood, InvariantsLine as TreeInvariants, Swap as TreeSwap}
use Rattle.ss_terms.specs.declared.forms.TermId.{TermId}
use Rattle.ss_terms.specs.declared.forms.FormulaId.{FormulaId}
use Rattle.ss_deriv.specs.declared.line.Line.{Line}
use Rattle.ss_deriv.specs.declared.line.Line.TheVariants.{Premise, Denied, Part, Split, Cut, Inst, Choose, Rule, Good, Invariants, Chain, Cong, Swap, Sum, Clash, Case}
use Rattle.ss_terms.specs.Forms.{Forms, formula_at, formulas_at, HasTerms, HasFormula, HasFormulas, IsGrown}
use Rattle.ss_deriv.specs.Lines.{all_below, is_within, line_in, line_of}
use Rattle.ss_terms.proofs.Grown.{HasTerm-grown, HasTerms-grown, HasFormula-grown, terms_at-grown, formulas_at-grown}
use Rattle.ss_check_steps.specs.Numbered.{IsStepped}
use Rattle.ss_check.specs.Within.{LineWithin}
use Rattle.ss_check_steps.specs.Stack.{IsStack, state_of, AreCases, IsReopened}
use Rattle.ss_check_steps.proofs.Numbers.{HasFormulas-take}
use Rattle.ss_terms.proofs.Longer.{HasFormulas-push}
use Rattle.ss_check_steps.proofs.Stacks.{cases_from-longer, cases_from-cut, IsStack-longer}

module _ (b : Forms) (known known' : List FormulaId) (w w' : List (ℕ × FormulaId)) (o : Bool) where
  pub AreCases-reopened : (r : Bool) → IsReopened r known w o known' w' → AreCases b known w → AreCases b known' w'
  AreCases-reopened false h c = rw (h.2, h.3) (record { known = c.known; waiting = tt })
  AreCases-reopened true h c =
      let rev : reverse w ≡ h.0 ∷ reverse w' = ap reverse h.1 ∙ reverse-append w' (h.0 ∷ []) in
      let s : IsStack b (length known) (h.0 ∷ reverse w') = rw rev at c.waiting in
      let l = length-take-le h.0.0 known s.0 in
      rw h.3 (record {
        known = HasFormulas-push b (take h.0.0 known) h.0.1 (HasFormulas-take b h.0.0 known c.known) s.1;
        waiting = IsStack-longer b h.0.0 (length (take h.0.0 known ++ h.0.1 ∷ [])) (omega (arith, length_push (take h.0.0 known) h.0.1)) (reverse w') s.2;
      })

  pub reopened_stepped : (cs : List ClassTree) (premises : List Formula) (goal : Formula) (was : Bool) → was ≡ false → (r : Bool) → IsReopened r known w o known' w' → AreCases b known w →
      IsStepped r (step cs premises goal (state_of b was known w) TreeCase) (state_of b o known' w')
  reopened_stepped cs premises goal was is false h c = rw (is, h.0) refl
  reopened_stepped cs premises goal was is true h c =
      let rev : reverse w ≡ h.0 ∷ reverse w' = ap reverse h.1 ∙ reverse-append w' (h.0 ∷ []) in
      let s : IsStack b (length known) (h.0 ∷ reverse w') = rw rev at c.waiting in
      let l = length-take-le h.0.0 known s.0 in
      let front = map_push (formula_at b) (take h.0.0 known) h.0.1 in
      let rest = cases_from-longer b (take h.0.0 known) (h.0.1 ∷ []) h.0.0 (reverse w') s.2 (omega arith) in
      let rest' = cases_from-cut b known h.0.0 (reverse w') s.2 in
      rw (is, rev, h.2, h.3, front, rest, rest') refl

module _ (a b : Forms) (g : IsGrown a b) where
  pub line_in-grown : (line : Line) → LineWithin a line → line_in b line ≡ line_in a line
  line_in-grown (Premise i) h = refl
  line_in-grown Denied h = refl
  line_in-grown (Part i j) h = refl
  line_in-grown (Split i k) h = refl
  line_in-grown (Cut f) h = ap TreeCut (g.same_formulas f h)
  line_in-grown (Inst i ts) h = ap (TreeInst i) (terms_at-grown a b g ts.items h)
  line_in-grown (Choose f ts) h = let l = g.same_formulas f h.0 in let r = terms_at-grown a b g ts.items h.1 in cc
  line_in-grown (Good name i ts) h = ap (TreeGood name i) (terms_at-grown a b g ts.items h)
  line_in-grown (Invariants i ts) h = ap (TreeInvariants i) (terms_at-grown a b g ts.items h)
  line_in-grown (Chain x y path) h = let l = g.same_terms x h.0 in let r = g.same_terms y h.1 in cc
  line_in-grown (Cong x y path) h = let l = g.same_terms x h.0 in let r = g.same_terms y h.1 in cc
  line_in-grown (Swap i f js) h = ap (λ x. TreeSwap i x js.items) (g.same_formulas f h)
  line_in-grown (Rule name ts) h = ap (TreeRule name) (terms_at-grown a b g ts.items h)
  line_in-grown (Sum s) h = refl
  line_in-grown (Clash i j) h = refl
  line_in-grown Case h = refl

  pub LineWithin-grown : (line : Line) → LineWithin a line → LineWithin b line
  LineWithin-grown (Premise i) h = tt
  LineWithin-grown Denied h = tt
  LineWithin-grown (Part i j) h = tt
  LineWithin-grown (Split i k) h = tt
  LineWithin-grown (Cut f) h = HasFormula-grown a b g f h
  LineWithin-grown (Inst i ts) h = HasTerms-grown a b g ts.items h
  LineWithin-grown (Choose f ts) h = (HasFormula-grown a b g f h.0, HasTerms-grown a b g ts.items h.1)
  LineWithin-grown (Good name i ts) h = HasTerms-grown a b g ts.items h
  LineWithin-grown (Invariants i ts) h = HasTerms-grown a b g ts.items h
  LineWithin-grown (Chain x y path) h = (HasTerm-grown a b g x h.0, HasTerm-grown a b g y h.1)
  LineWithin-grown (Cong x y path) h = (HasTerm-grown a b g x h.0, HasTerm-grown a b g y h.1)
  LineWithin-grown (Swap i f js) h = HasFormula-grown a b g f h
  LineWithin-grown (Rule name ts) h = HasTerms-grown a b g ts.items h
  LineWithin-grown (Sum s) h = tt
  LineWithin-grown (Clash i j) h = tt
  LineWithin-grown Case h = tt

HasTerms-below : (b : Forms) (ts : List TermId) → all_below (length b.terms) ts ≡ true → HasTerms b ts
HasTerms-below b [] h = tt
HasTerms-below b (t ∷ ts) h = let p = and_parts (nat_lt t.0 (length b.terms)) (all_below (length b.terms) ts) h in (ltb-true _ _ p.0, HasTerms-below b ts p.1)

pub LineWithin-tested : (b : Forms) (line : Line) → is_within (length b.terms) (length b.formulas * 2) line ≡ true → LineWithin b line
LineWithin-tested b (Premise i) h = tt
LineWithin-tested b Denied h = tt
LineWithin-tested b (Part i j) h = tt
LineWithin-tested b (Split i k) h = tt
LineWithin-tested b (Cut f) h = ltb-true _ _ h
LineWithin-tested b (Inst i ts) h = HasTerms-below b ts.items h
LineWithin-tested b (Choose f ts) h = let p = and_parts (nat_lt f.0 (length b.formulas * 2)) (all_below (length b.terms) ts.items) h in (ltb-true _ _ p.0, HasTerms-below b ts.items p.1)
LineWithin-tested b (Good name i ts) h = HasTerms-below b ts.items h
LineWithin-tested b (Invariants i ts) h = HasTerms-below b ts.items h
LineWithin-tested b (Cong x y path) h = let p = and_parts (nat_lt x.0 (length b.terms)) (nat_lt y.0 (length b.terms)) h in (ltb-true _ _ p.0, ltb-true _ _ p.1)
LineWithin-tested b (Chain x y path) h = let p = and_parts (nat_lt x.0 (length b.terms)) (nat_lt y.0 (length b.terms)) h in (ltb-true _ _ p.0, ltb-true _ _ p.1)
LineWithin-tested b (Swap i f js) h = ltb-true _ _ h
LineWithin-tested b (Rule name ts) h = HasTerms-below b ts.items h
LineWithin-tested b (Sum s) h = tt
LineWithin-tested b (Clash i j) h = tt
LineWithin-tested b Case h = tt

-- a line that is nowhere is no step
nowhere : (cs : List ClassTree) (premises : List Formula) (goal : Formula) (state : State) → step cs premises goal state Nowhere ≡ None
nowhere cs premises goal (Open known waiting) = refl
nowhere cs premises goal (Between []) = refl
nowhere cs premises goal (Between (c ∷ waiting)) = refl

-- the lines that only make a formula known
pub step_adds : (cs : List ClassTree) (b : Forms) (premises : List Formula) (goal : Formula) (known : List Formula) (waiting : List (List Formula)) (line : Line) →
    ((i k : ℕ) → line ≡ Split i k → ⊥) → ((f : FormulaId) → line ≡ Cut f → ⊥) → ((i j : ℕ) → line ≡ Clash i j → ⊥) →
    step_open cs premises goal known waiting (line_in b line) ≡ add_fact cs known waiting (fact_of cs premises goal known (line_in b line))
step_adds cs b ps g known waiting (Premise i) s c x = refl
step_adds cs b ps g known waiting Denied s c x = refl
step_adds cs b ps g known waiting (Part i j) s c x = refl
step_adds cs b ps g known waiting (Split i k) s c x = absurd (s i k refl)
step_adds cs b ps g known waiting (Cut f) s c x = absurd (c f refl)
step_adds cs b ps g known waiting (Inst i ts) s c x = refl
step_adds cs b ps g known waiting (Choose f ts) s c x = refl
step_adds cs b ps g known waiting (Good name i ts) s c x = refl
step_adds cs b ps g known waiting (Invariants i ts) s c x = refl
step_adds cs b ps g known waiting (Chain a d path) s c x = refl
step_adds cs b ps g known waiting (Cong a d path) s c x = refl
step_adds cs b ps g known waiting (Swap i f js) s c x = refl
step_adds cs b ps g known waiting (Rule name ts) s c x = refl
step_adds cs b ps g known waiting (Sum x) s c y = refl
step_adds cs b ps g known waiting (Clash i j) s c x = absurd (x i j refl)
step_adds cs b ps g known waiting Case s c x = refl

module _ (cs : List ClassTree) (a b : Forms) (grown : IsGrown a b) (premises : List FormulaId) (below : HasFormulas a premises) (goal : FormulaId) (in_bank : HasFormula a goal)
    (lines : List Line) (i : ℕ) (line : Line) (in_lines : i < length lines) (here : line ≡ get_or lines i line) (state : State) where
  front : drop i (map (line_of a) lines) ≡ line_of a line ∷ drop (i + 1) (map (line_of a) lines)
  front = drop-map (line_of a) i lines ∙ ap (map (line_of a)) (drop_more lines i line in_lines) ∙ ap (λ l. line_of a l ∷ map (line_of a) (drop (i + 1) lines)) (sym here) ∙ ap (λ xs. line_of a line ∷ xs) (sym (drop-map (line_of a) (i + 1) lines))

  module _ (within : is_within (length a.terms) (length a.formulas * 2) line ≡ true) where
    same_step : step cs (formulas_at b premises) (formula_at b goal) state (line_in b line) ≡ step cs (formulas_at a premises) (formula_at a goal) state (line_of a line)
    same_step =
        ap (λ ps. step cs ps (formula_at b goal) state (line_in b line)) (formulas_at-grown a b grown premises below)
        ∙ ap (λ g. step cs (formulas_at a premises) g state (line_in b line)) (grown.same_formulas goal in_bank)
        ∙ ap (λ l. step cs (formulas_at a premises) (formula_at a goal) state l) (line_in-grown a b grown line (LineWithin-tested a line within) ∙ sym (ap (λ t. if t then line_in a line else Nowhere) within))

    pub bad_more : (n : ℕ) (next : State) → step cs (formulas_at b premises) (formula_at b goal) state (line_in b line) ≡ Some next →
        bad_from cs (formulas_at a premises) (formula_at a goal) state (drop i (map (line_of a) lines)) n ≡ bad_from cs (formulas_at a premises) (formula_at a goal) next (drop (i + 1) (map (line_of a) lines)) (n + 1)
    bad_more n next e = rw (front, sym same_step ∙ e) refl

    pub bad_here : (n : ℕ) → step cs (formulas_at b premises) (formula_at b goal) state (line_in b line) ≡ None →
        bad_from cs (formulas_at a premises) (formula_at a goal) state (drop i (map (line_of a) lines)) n ≡ Some n
    bad_here n e = rw (front, sym same_step ∙ e) refl

  pub bad_line : (n : ℕ) → is_within (length a.terms) (length a.formulas * 2) line ≡ false → bad_from cs (formulas_at a premises) (formula_at a goal) state (drop i (map (line_of a) lines)) n ≡ Some n
  bad_line n h =
      let e : step cs (formulas_at a premises) (formula_at a goal) state (line_of a line) ≡ None =
      ap (λ t. step cs (formulas_at a premises) (formula_at a goal) state (if t then line_in a line else Nowhere)) h ∙ nowhere cs (formulas_at a premises) (formula_at a goal) state in
      rw (front, e) refl

pub counted : (terms formulas n m : ℕ) (line : Line) (held : Bool) → terms ≡ n → formulas ≡ m → held ≡ is_within terms formulas line → is_within n m line ≡ held
counted terms formulas n m line held e f h = sym (ap (λ k. is_within n k line) f) ∙ sym (ap (λ k. is_within k formulas line) e) ∙ sym h
