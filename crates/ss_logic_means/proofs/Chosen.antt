-- What is refuted with a choice is refuted without it.
use Rattle.std.proofs.Common.{◌≡◌, ℕ, List, [], ◌∷◌, ◌++◌, Bool, true, false, ◌&&◌, Some, refl, sym, ◌∙◌, ap, subst, append-nil}
use Rattle.std.specs.List.{list_all}
use Rattle.std.proofs.lemmas.Bool.{false≢true, and_parts}
use Rattle.ss_core.specs.Tree.{ClassTree}
use Rattle.ss_logic.specs.declared.Sort.{Sort}
use Rattle.ss_logic.specs.Values.{Value, Structure}
use Rattle.ss_logic.specs.Terms.{Constant, Term, App, no_terms, same_sort, value_of}
use Rattle.ss_logic.specs.Formulas.{Formula, Exists, is_bound_sort, AreOf, True, Hold, put, term_avoids, avoids}
use Rattle.ss_logic.proofs.Truth.{neg_true, values, AllClosed, True-put, equal_sorts}
use Rattle.ss_logic.proofs.Constants.{with_constant, new_constant, value_kept, True-kept}
use Rattle.ss_logic.specs.Shapes.{when}
use Rattle.ss_logic_means.specs.Steps.{are_constants, are_new, chosen, choice}

-- the formula ties an `exists` to its body at new constants
pub record IsChoice (used : List Formula) (f : Formula) : Type 0 where
  pub sorts : List Sort
  pub body : Formula
  pub constants : List Term
  pub are : are_constants sorts constants ≡ true
  pub new : are_new (body ∷ used) constants ≡ true
  pub is : chosen sorts body constants ≡ f

from_when : (used : List Formula) (ss : List Sort) (g : Formula) (ts : List Term) (f : Formula) (b c : Bool) → are_constants ss ts ≡ b → are_new (g ∷ used) ts ≡ c → when (b && c) (chosen ss g ts) ≡ Some f → IsChoice used f
from_when used ss g ts f true true p q e = record { sorts = ss; body = g; constants = ts; are = p; new = q; is = cc }
from_when used ss g ts f true false p q e = let no : ⊥ = cc in absurd no
from_when used ss g ts f false c p q e = let no : ⊥ = cc in absurd no

pub is_choice : (used : List Formula) (g : Formula) (ts : List Term) (f : Formula) → choice used g ts ≡ Some f → IsChoice used f
is_choice used (Exists ss g) ts f e = from_when used ss g ts f (are_constants ss ts) (are_new (g ∷ used) ts) refl refl e
is_choice used g ts f e = let no : ⊥ = cc in absurd no

module _ (cs : List ClassTree) where
  -- the formulas are true in the one structure where they are in the other
  abbrev AllKept : Structure → Structure → List Formula → Type 0
  AllKept n m [] = Unit {0}
  AllKept n m (f ∷ fs) = (True cs n [] f → True cs m [] f) × (True cs m [] f → True cs n [] f) × AllKept n m fs

  into : {X Y : Type 0} → X ≡ Y → X → Y
  into e x = subst (λ (Z : Type 0). Z) e x

  kept_self : (m : Structure) (fs : List Formula) → AllKept m m fs
  kept_self m [] = tt
  kept_self m (f ∷ fs) = (λ t. t, λ t. t, kept_self m fs)

  kept_then : (n l m : Structure) (fs : List Formula) → AllKept n l fs → AllKept l m fs → AllKept n m fs
  kept_then n l m [] h k = tt
  kept_then n l m (f ∷ fs) h k = (λ t. k.0 (h.0 t), λ t. h.1 (k.1 t), kept_then n l m fs h.2 k.2)

  kept_constant : (m : Structure) (s : Sort) (k : ℕ) (v : Value) (fs : List Formula) → list_all (avoids s k) fs ≡ true → AllKept (with_constant m s k v) m fs
  kept_constant m s k v [] a = tt
  kept_constant m s k v (f ∷ fs) a = let p = and_parts (avoids s k f) (list_all (avoids s k) fs) a in (λ t. into (True-kept cs m s k v [] f p.0) t, λ t. into (sym (True-kept cs m s k v [] f p.0)) t, kept_constant m s k v fs p.1)

  kept_hold : (n m : Structure) (xs ys : List Formula) → AllKept n m (xs ++ ys) → (Hold cs m xs → Hold cs n xs) × AllKept n m ys
  kept_hold n m [] ys h = (λ k. tt, h)
  kept_hold n m (x ∷ xs) ys h = let p = kept_hold n m xs ys h.2 in (λ k. (h.1 k.0, p.0 k.1), p.1)

  kept_all : (n m : Structure) (ys : List Formula) → AllKept n m ys → Hold cs m ys → Hold cs n ys
  kept_all n m [] h k = tt
  kept_all n m (y ∷ ys) h k = (h.1 k.0, kept_all n m ys h.2 k.1)

  -- a structure in which the constants have these values
  pub record Witness (m : Structure) (ts : List Term) (vs : List Value) (f : Formula) (used : List Formula) : Type 0 where
    pub at : Structure
    pub named : values cs at ts ≡ vs
    pub kept : AllKept at m used
    pub body : (e : List Value) → True cs m e f → True cs at e f

  values_kept : (m : Structure) (s : Sort) (k : ℕ) (v : Value) (ts : List Term) → list_all (term_avoids s k) ts ≡ true → values cs (with_constant m s k v) ts ≡ values cs m ts
  values_kept m s k v [] a = refl
  values_kept m s k v (t ∷ ts) a =
      let p = and_parts (term_avoids s k t) (list_all (term_avoids s k) ts) a in
      ap (λ w. w ∷ values cs (with_constant m s k v) ts) (value_kept cs m s k v [] t p.0) ∙ ap (λ ws. value_of cs m [] t ∷ ws) (values_kept m s k v ts p.1)

  witness : (m : Structure) (ss : List Sort) (ts : List Term) (vs : List Value) (f : Formula) (used : List Formula) →
      are_constants ss ts ≡ true → are_new (f ∷ used) ts ≡ true → AreOf ss vs → Witness m ts vs f used
  witness m [] [] [] f used a n o = record { at = m; named = refl; kept = kept_self m used; body = λ e t. t }
  witness m [] [] (v ∷ vs) f used a n o = absurd o
  witness m (s ∷ ss) (App (Constant r k) no_terms ∷ ts) [] f used a n o = absurd o
  witness m (s ∷ ss) (App (Constant r k) no_terms ∷ ts) (v ∷ vs) f used a n o =
      let p = and_parts (same_sort r s && is_bound_sort r) (are_constants ss ts) a in
      let q = and_parts (same_sort r s) (is_bound_sort r) p.0 in
      let i = and_parts (list_all (avoids r k) (f ∷ used) && list_all (term_avoids r k) ts) (are_new (f ∷ used) ts) n in
      let j = and_parts (list_all (avoids r k) (f ∷ used)) (list_all (term_avoids r k) ts) i.0 in
      let l = and_parts (avoids r k f) (list_all (avoids r k) used) j.0 in
      let w = witness m ss ts vs f used p.1 i.1 o.1 in
      record {
        at = with_constant w.at r k v;
        named = ap (λ x. x ∷ values cs (with_constant w.at r k v) ts) (new_constant w.at r k v q.1 (o.0 ∙ sym (equal_sorts r s q.0))) ∙ ap (λ xs. v ∷ xs) (values_kept w.at r k v ts j.1 ∙ w.named);
        kept = kept_then (with_constant w.at r k v) w.at m used (kept_constant w.at r k v used l.1) w.kept;
        body = λ e t. into (sym (True-kept cs w.at r k v e f l.0)) (w.body e t);
      }
  witness m ss ts vs f used a n o = absurd (false≢true a)

  closed_constants : (ss : List Sort) (ts : List Term) → are_constants ss ts ≡ true → AllClosed cs ts
  closed_constants [] [] a = tt
  closed_constants (s ∷ ss) (App (Constant r k) no_terms ∷ ts) a = (refl, closed_constants ss ts (and_parts (same_sort r s && is_bound_sort r) (are_constants ss ts) a).1)
  closed_constants ss ts a = absurd (false≢true a)

  pub choice_refutes : (premises : List Formula) (goal : Formula) (known : List Formula) (f : Formula) → IsChoice (goal ∷ premises ++ known) f →
      ((m : Structure) → Hold cs m premises → (True cs m [] goal → ⊥) → Hold cs m known → True cs m [] f → ⊥) →
      (m : Structure) → Hold cs m premises → (True cs m [] goal → ⊥) → Hold cs m known → ⊥
  choice_refutes premises goal known f c refuted m given denied h =
      refuted m given denied h (subst (λ x. True cs m [] x) c.is (λ n. n.0 (λ vs o. neg_true cs m vs c.body (λ t. at_values vs o t))))
    where
      at_values : (vs : List Value) → AreOf c.sorts vs → True cs m vs c.body → ⊥
      at_values vs o t =
          let w = witness m c.sorts c.constants vs c.body (goal ∷ premises ++ known) c.are c.new o in
          let ends = kept_hold w.at m premises known w.kept.2 in
          let there : True cs w.at vs c.body = w.body vs t in
          let named : values cs w.at c.constants ++ [] ≡ vs = append-nil (values cs w.at c.constants) ∙ w.named in
          let body : True cs w.at [] (put c.constants c.body) =
          into (sym (True-put cs w.at c.constants (closed_constants c.sorts c.constants c.are) [] c.body)) (subst (λ e. True cs w.at e c.body) (sym named) there) in
          refuted w.at (ends.0 given) (λ g. denied (w.kept.0 g)) (kept_all w.at m known ends.1 h) (subst (λ x. True cs w.at [] x) c.is (λ n. n.1.0 body))
