-- Terms walked with a stack.
use Rattle.std.proofs.Common.{◌≡◌, ℕ, suc, ◌+◌, ◌<◌, List, [], ◌∷◌, ◌++◌, length, take, drop, get_or, reverse, Bool, true, false, not, refl, sym, ◌∙◌, ap, subst, arith, if◌then◌else◌}
use Rattle.std.specs.List.{list_any}
use Rattle.std.proofs.Math.Seq.{drop-cons}
use Rattle.std.proofs.lemmas.Bool.{not-true, not-false}
use Rattle.std.proofs.lemmas.Grind.{reverse_onto}
use Rattle.std.proofs.lemmas.List.{map_push, map-append, take_more, reverse-append, reverse-reverse}
use Rattle.ss_logic.specs.Terms.{Term, Bound, App, terms_from}
use Rattle.ss_logic.specs.Formulas.{Formula}
use Rattle.ss_logic.specs.Equal.{same_term}
use Rattle.ss_logic.specs.Occurring.{with_term, with_arguments, with_terms_of, with_terms_of_all}
use Rattle.ss_terms.specs.Lists.{SmallVec}
use Rattle.ss_terms.specs.declared.forms.TermId.{TermId}
use Rattle.ss_terms.specs.declared.forms.FormulaId.{FormulaId}
use Rattle.ss_terms.specs.declared.forms.Symbol.{Symbol}
use Rattle.ss_terms.specs.declared.forms.Term.TheVariants.{Bound as BoundForm, App as AppForm}
use Rattle.ss_terms.specs.Forms.{Forms, term_at, terms_at, formula_at, formulas_at, symbol_of, HasTerm, HasTerms, AreTermsBelow, IsTermForm}
use Rattle.ss_terms.proofs.Trees.{AreTermsBelow-more}
use Rattle.ss_rules_occurring.specs.declared.found.TermList.{TermList}
use Rattle.ss_rules_occurring.specs.Found.{terms_of, HoldsTerms, HasFoundTerms}
use Rattle.ss_rules_occurring.specs.Stack.{term_size, terms_size, stack_size, awaited, IsStep}

pub holds_terms_itself : (b : Forms) (s : TermList) (ts : List Term) → HoldsTerms b s ts → HasFoundTerms b s
holds_terms_itself b s ts h = record { marked = h.marked; has = h.has; are = refl }

-- ---- reversed

pub reversed_more : (ts : List TermId) (i : ℕ) (d : TermId) → i < length ts → reverse (drop i ts) ≡ reverse (drop (suc i) ts) ++ get_or ts i d ∷ []
reversed_more ts i d at = ap reverse (drop-cons ts i d at) ∙ reverse_onto (drop (suc i) ts) (get_or ts i d) []

below-append : (n : ℕ) (ts us : List TermId) → AreTermsBelow n ts → AreTermsBelow n us → AreTermsBelow n (ts ++ us)
below-append n [] us h k = k
below-append n (t ∷ ts) us h k = (h.0, below-append n ts us h.1 k)

below-reverse : (n : ℕ) (ts : List TermId) → AreTermsBelow n ts → AreTermsBelow n (reverse ts)
below-reverse n [] h = tt
below-reverse n (t ∷ ts) h = subst (AreTermsBelow n) (sym (reverse_onto ts t [])) (below-append n (reverse ts) (t ∷ []) (below-reverse n ts h.1) (h.0, tt))

-- ---- sizes

size-positive : (t : Term) → 0 < term_size t
size-positive (Bound k) = omega arith
size-positive (App f ts) = let n = terms_size ts in omega arith

size-sum : (b : Forms) (ts : List TermId) → terms_size (terms_from (terms_at b ts)) ≡ stack_size b ts
size-sum b [] = refl
size-sum b (t ∷ ts) = ap (λ n. term_size (term_at b t) + n) (size-sum b ts)

pub size-append : (b : Forms) (ts us : List TermId) → stack_size b (ts ++ us) ≡ stack_size b ts + stack_size b us
size-append b [] us = omega arith
size-append b (t ∷ ts) us = let r = size-append b ts us in omega (arith, r)

size-reverse : (b : Forms) (ts : List TermId) → stack_size b (reverse ts) ≡ stack_size b ts
size-reverse b [] = refl
size-reverse b (t ∷ ts) =
    let e = ap (stack_size b) (reverse_onto ts t []) in
    let s = size-append b (reverse ts) (t ∷ []) in
    let r = size-reverse b ts in
    e ∙ omega (arith, s, r)

-- ---- steps

arguments-append : (found xs ys : List Term) → with_arguments found (terms_from (xs ++ ys)) ≡ with_arguments (with_arguments found (terms_from xs)) (terms_from ys)
arguments-append found [] ys = refl
arguments-append found (x ∷ xs) ys = arguments-append (with_term found x) xs ys

-- what waits when a term has come off
awaited_one : (b : Forms) (found : TermList) (stack : List TermId) (t : TermId) → awaited b found (stack ++ t ∷ []) ≡ with_arguments (with_term (terms_of b found) (term_at b t)) (terms_from (terms_at b (reverse stack)))
awaited_one b found stack t = ap (λ ts. with_arguments (terms_of b found) (terms_from (terms_at b ts))) (reverse-append stack (t ∷ []))

smaller_one : (b : Forms) (stack : List TermId) (t : TermId) → stack_size b (stack ++ t ∷ []) ≡ stack_size b stack + term_size (term_at b t)
smaller_one b stack t = let e = size-append b stack (t ∷ []) in omega (arith, e)

module _ (b : Forms) (found : TermList) (stack : List TermId) (t : TermId) (h : HasFoundTerms b found) (has : HasTerms b stack) where
  pub step_same : with_term (terms_of b found) (term_at b t) ≡ terms_of b found → IsStep b found stack t found stack
  step_same e = record {
    has = h;
    in_bank = has;
    same = sym (awaited_one b found stack t ∙ ap (λ ts. with_arguments ts (terms_from (terms_at b (reverse stack)))) e);
    smaller = let p = size-positive (term_at b t) in let s = smaller_one b stack t in omega (arith, p, s);
  }

  pub step_bound : (k : ℕ) → IsTermForm b t (BoundForm k) → IsStep b found stack t found stack
  step_bound k n = step_same (ap (with_term (terms_of b found)) n.built)

  pub step_known : (f : Symbol) (v : SmallVec TermId) (new : Bool) → IsTermForm b t (AppForm f v) → new ≡ not (list_any (same_term (term_at b t)) (terms_of b found)) → new ≡ false → (after : TermList) →
      HoldsTerms b after (if new then terms_of b found ++ term_at b t ∷ [] else terms_of b found) → IsStep b found stack t after stack
  step_known f v new n e old_one after held =
      let old = not-false (list_any (same_term (term_at b t)) (terms_of b found)) (sym e ∙ old_one) in
      let are = held.are ∙ ap (λ x. if x then terms_of b found ++ term_at b t ∷ [] else terms_of b found) old_one in
      record {
        has = holds_terms_itself b after _ held;
        in_bank = has;
        same =
            ap (λ ts. with_arguments ts (terms_from (terms_at b (reverse stack)))) are
            ∙ sym (awaited_one b found stack t
            ∙ ap (λ ts. with_arguments ts (terms_from (terms_at b (reverse stack))))
            (ap (with_term (terms_of b found)) n.built
            ∙ ap (λ x. if x then terms_of b found else with_arguments (terms_of b found ++ App (symbol_of f) (terms_from (terms_at b v.items)) ∷ []) (terms_from (terms_at b v.items)))
            (ap (λ x. list_any (same_term x) (terms_of b found)) (sym n.built) ∙ old)));
        smaller = let p = size-positive (term_at b t) in let s = smaller_one b stack t in omega (arith, p, s);
      }

  pub step_new : (f : Symbol) (v : SmallVec TermId) (new : Bool) → HasTerm b t → IsTermForm b t (AppForm f v) → new ≡ not (list_any (same_term (term_at b t)) (terms_of b found)) → new ≡ true → (after : TermList) →
      HoldsTerms b after (if new then terms_of b found ++ term_at b t ∷ [] else terms_of b found) → (more : List TermId) → more ≡ stack ++ reverse v.items → IsStep b found stack t after more
  step_new f v new at n e new_one after held more is =
      let old = not-true (list_any (same_term (term_at b t)) (terms_of b found)) (sym e ∙ new_one) in
      let arguments = terms_from (terms_at b v.items) in
      let are = held.are ∙ ap (λ x. if x then terms_of b found ++ term_at b t ∷ [] else terms_of b found) new_one in
      let below = AreTermsBelow-more t.0 (length b.terms) (omega (arith, at)) v.items n.below in
      record {
        has = holds_terms_itself b after _ held;
        in_bank = subst (HasTerms b) (sym is) (below-append (length b.terms) stack (reverse v.items) has (below-reverse (length b.terms) v.items below));
        same =
            ap (λ ts. with_arguments (terms_of b after) (terms_from (terms_at b (reverse ts)))) is
            ∙ ap (λ ts. with_arguments (terms_of b after) (terms_from (terms_at b ts))) (reverse-append stack (reverse v.items) ∙ ap (λ us. us ++ reverse stack) (reverse-reverse v.items))
            ∙ ap (λ ts. with_arguments (terms_of b after) (terms_from ts)) (map-append (term_at b) v.items (reverse stack))
            ∙ arguments-append (terms_of b after) (terms_at b v.items) (terms_at b (reverse stack))
            ∙ ap (λ ts. with_arguments (with_arguments ts arguments) (terms_from (terms_at b (reverse stack)))) (are ∙ ap (λ x. terms_of b found ++ x ∷ []) n.built)
            ∙ sym (awaited_one b found stack t
            ∙ ap (λ ts. with_arguments ts (terms_from (terms_at b (reverse stack))))
            (ap (with_term (terms_of b found)) n.built
            ∙ ap (λ x. if x then terms_of b found else with_arguments (terms_of b found ++ App (symbol_of f) arguments ∷ []) arguments)
            (ap (λ x. list_any (same_term x) (terms_of b found)) (sym n.built) ∙ old)));
        smaller =
            let s = smaller_one b stack t in
            let z = ap (stack_size b) is in
            let y = size-append b stack (reverse v.items) in
            let x = size-reverse b v.items in
            let w = size-sum b v.items in
            let u = ap term_size n.built in
            omega (arith, s, z, y, x, w, u);
      }

-- ---- the stack at first, and when a term has come off

below-start : (n : ℕ) (ts us : List TermId) → AreTermsBelow n (ts ++ us) → AreTermsBelow n ts
below-start n [] us h = tt
below-start n (t ∷ ts) us h = (h.0, below-start n ts us h.1)

below-end : (n : ℕ) (ts us : List TermId) → AreTermsBelow n (ts ++ us) → AreTermsBelow n us
below-end n [] us h = h
below-end n (t ∷ ts) us h = below-end n ts us h.1

pub left_on : (b : Forms) (stack after : List TermId) (t : TermId) → stack ≡ after ++ t ∷ [] → HasTerms b stack → HasTerms b after
left_on b stack after t e h = below-start (length b.terms) after (t ∷ []) (subst (HasTerms b) e h)

pub taken_off : (b : Forms) (stack after : List TermId) (t : TermId) → stack ≡ after ++ t ∷ [] → HasTerms b stack → HasTerm b t
taken_off b stack after t e h = (below-end (length b.terms) after (t ∷ []) (subst (HasTerms b) e h)).0

pub start_has : (b : Forms) (empty stack ts : List TermId) → empty ≡ [] → stack ≡ empty ++ reverse ts → HasTerms b ts → HasTerms b stack
start_has b empty stack ts none put h = subst (HasTerms b) (sym (put ∙ ap (λ xs. xs ++ reverse ts) none)) (below-reverse (length b.terms) ts h)

pub start_awaited : (b : Forms) (found : TermList) (empty stack ts : List TermId) → empty ≡ [] → stack ≡ empty ++ reverse ts → awaited b found stack ≡ with_arguments (terms_of b found) (terms_from (terms_at b ts))
start_awaited b found empty stack ts none put =
    ap (λ xs. awaited b found xs) (put ∙ ap (λ xs. xs ++ reverse ts) none) ∙ ap (λ xs. with_arguments (terms_of b found) (terms_from (terms_at b xs))) (reverse-reverse ts)

-- ---- one more atom

terms_of_all-push : (found : List Term) (fs : List Formula) (f : Formula) → with_terms_of_all found (fs ++ f ∷ []) ≡ with_terms_of (with_terms_of_all found fs) f
terms_of_all-push found [] f = refl
terms_of_all-push found (g ∷ fs) f = terms_of_all-push (with_terms_of found g) fs f

pub terms_next : (b : Forms) (s after : TermList) (fs : List FormulaId) (i : ℕ) (d : FormulaId) → i < length fs → HoldsTerms b s (with_terms_of_all [] (formulas_at b (take i fs))) →
    HoldsTerms b after (with_terms_of (terms_of b s) (formula_at b (get_or fs i d))) → HoldsTerms b after (with_terms_of_all [] (formulas_at b (take (i + 1) fs)))
terms_next b s after fs i d at h next =
    subst (HoldsTerms b after)
    (ap (λ ts. with_terms_of ts (formula_at b (get_or fs i d))) h.are
    ∙ sym (terms_of_all-push [] (formulas_at b (take i fs)) (formula_at b (get_or fs i d)))
    ∙ ap (with_terms_of_all []) (sym (map_push (formula_at b) (take i fs) (get_or fs i d)))
    ∙ ap (λ gs. with_terms_of_all [] (formulas_at b gs)) (sym (take_more fs i d at)))
    next
