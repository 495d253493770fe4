-- Another value of a constant changes nothing where the constant doesn't occur.
use Rattle.std.proofs.Common.{◌≡◌, ℕ, List, ◌∷◌, ◌++◌, Bool, true, false, not, ◌&&◌, eqb, refl, ◌∙◌, ap}
use Rattle.std.specs.Prelude.{if◌then◌else◌}
use Rattle.std.proofs.Math.Path.{fun_ext}
use Rattle.std.proofs.lemmas.Bool.{false≢true, and_parts, eq-eqb}
use Rattle.ss_core.specs.Tree.{ClassTree}
use Rattle.ss_logic.specs.declared.Sort.{Sort}
use Rattle.ss_logic.specs.declared.Sort.TheVariants as sort
use Rattle.ss_logic.specs.Values.{Value, whole, truth, thing, store, as_whole, as_thing, sort_of_value, Structure}
use Rattle.ss_logic.specs.Terms.{Symbol, Constant, Term, Bound, App, Terms, no_terms, term_then, same_sort, constant_value, applied, value_of, values_of}
use Rattle.ss_logic.specs.Formulas.{Predicate, Equal, AtMost, Sub, Allocated, Committed, Ready, IsGroup, Good, Formula, Formulas, Literal, And, Or, Forall, Exists, no_formulas, formula_then, is_bound_sort, Holds, Signed, AreOf, True, AllTrue, NoneTrue, is_constant, term_avoids, terms_avoid, avoids, all_avoid}

-- the structure with another value of a constant that stands for whole numbers or for the rest
pub with_constant : Structure → Sort → ℕ → Value → Structure
with_constant m s k v = record {
  stores = m.stores;
  wholes = λ j. if same_sort s sort.Whole && eqb j k then as_whole v else m.wholes j;
  truths = m.truths;
  things = λ j. if same_sort s sort.Rest && eqb j k then as_thing v else m.things j;
  table = m.table;
  numbered = m.numbered;
}

if_not : {A : Type 0} (b : Bool) (x y : A) → not b ≡ true → (if b then x else y) ≡ y
if_not true x y h = absurd (false≢true h)
if_not false x y h = refl

pub new_constant : (m : Structure) (s : Sort) (k : ℕ) (v : Value) → is_bound_sort s ≡ true → sort_of_value v ≡ s → constant_value (with_constant m s k v) s k ≡ v
unfolding with_constant
new_constant m sort.Whole k (whole n) b e = ap whole (rw (eq-eqb k k refl) refl)
new_constant m sort.Rest k (thing w) b e = ap thing (rw (eq-eqb k k refl) refl)
new_constant m sort.Store k v b e = absurd (false≢true b)
new_constant m sort.Truth k v b e = absurd (false≢true b)
new_constant m sort.Whole k (truth n) b e = cc
new_constant m sort.Whole k (thing n) b e = cc
new_constant m sort.Whole k (store n) b e = cc
new_constant m sort.Rest k (truth n) b e = cc
new_constant m sort.Rest k (whole n) b e = cc
new_constant m sort.Rest k (store n) b e = cc

module _ (cs : List ClassTree) (m : Structure) (s : Sort) (k : ℕ) (v : Value) where
  constant_kept : (r : Sort) (j : ℕ) → not (same_sort s r && eqb j k) ≡ true → constant_value (with_constant m s k v) r j ≡ constant_value m r j
  unfolding with_constant
  constant_kept sort.Store j a = refl
  constant_kept sort.Whole j a = ap whole (if_not (same_sort s sort.Whole && eqb j k) (as_whole v) (m.wholes j) a)
  constant_kept sort.Truth j a = refl
  constant_kept sort.Rest j a = ap thing (if_not (same_sort s sort.Rest && eqb j k) (as_thing v) (m.things j) a)

  symbol_kept : (f : Symbol) (vs : List Value) → not (is_constant s k f) ≡ true → applied cs (with_constant m s k v) f vs ≡ applied cs m f vs
  unfolding with_constant
  symbol_kept (Constant r j) vs a = constant_kept r j a
  symbol_kept f vs a = refl

  mutual
    pub value_kept : (e : List Value) (t : Term) → term_avoids s k t ≡ true → value_of cs (with_constant m s k v) e t ≡ value_of cs m e t
    value_kept e (Bound i) a = refl
    value_kept e (App f ts) a =
        let p = and_parts (not (is_constant s k f)) (terms_avoid s k ts) a in
        ap (applied cs (with_constant m s k v) f) (values_kept e ts p.1) ∙ symbol_kept f (values_of cs m e ts) p.0

    values_kept : (e : List Value) (ts : Terms) → terms_avoid s k ts ≡ true → values_of cs (with_constant m s k v) e ts ≡ values_of cs m e ts
    values_kept e no_terms a = refl
    values_kept e (term_then t ts) a =
        let p = and_parts (term_avoids s k t) (terms_avoid s k ts) a in
        ap (λ w. w ∷ values_of cs (with_constant m s k v) e ts) (value_kept e t p.0) ∙ ap (λ ws. value_of cs m e t ∷ ws) (values_kept e ts p.1)

  holds_kept : (p : Predicate) (vs : List Value) → Holds cs (with_constant m s k v) p vs ≡ Holds cs m p vs
  unfolding with_constant
  holds_kept Equal vs = refl
  holds_kept AtMost vs = refl
  holds_kept Sub vs = refl
  holds_kept Allocated vs = refl
  holds_kept Committed vs = refl
  holds_kept Ready vs = refl
  holds_kept IsGroup vs = refl
  holds_kept Good vs = refl

  mutual
    pub True-kept : (e : List Value) (f : Formula) → avoids s k f ≡ true → True cs (with_constant m s k v) e f ≡ True cs m e f
    True-kept e (Literal sign p ts) a =
        ap (λ vs. Signed sign (Holds cs (with_constant m s k v) p vs)) (values_kept e ts a) ∙ ap (Signed sign) (holds_kept p (values_of cs m e ts))
    True-kept e (And fs) a = AllTrue-kept e fs a
    True-kept e (Or fs) a = ap (λ (X : Type 0). X → ⊥) (NoneTrue-kept e fs a)
    True-kept e (Forall ss f) a = ap (λ (P : List Value → Type 0). (vs : List Value) → AreOf ss vs → P vs) (fun_ext (λ vs. True-kept (e ++ vs) f a))
    True-kept e (Exists ss f) a = ap (λ (P : List Value → Type 0). ((vs : List Value) → AreOf ss vs → P vs → ⊥) → ⊥) (fun_ext (λ vs. True-kept (e ++ vs) f a))

    AllTrue-kept : (e : List Value) (fs : Formulas) → all_avoid s k fs ≡ true → AllTrue cs (with_constant m s k v) e fs ≡ AllTrue cs m e fs
    AllTrue-kept e no_formulas a = refl
    AllTrue-kept e (formula_then f fs) a =
        let p = and_parts (avoids s k f) (all_avoid s k fs) a in
        ap (λ (X : Type 0). X × AllTrue cs (with_constant m s k v) e fs) (True-kept e f p.0) ∙ ap (λ (Y : Type 0). True cs m e f × Y) (AllTrue-kept e fs p.1)

    NoneTrue-kept : (e : List Value) (fs : Formulas) → all_avoid s k fs ≡ true → NoneTrue cs (with_constant m s k v) e fs ≡ NoneTrue cs m e fs
    NoneTrue-kept e no_formulas a = refl
    NoneTrue-kept e (formula_then f fs) a =
        let p = and_parts (avoids s k f) (all_avoid s k fs) a in
        ap (λ (X : Type 0). (X → ⊥) × NoneTrue cs (with_constant m s k v) e fs) (True-kept e f p.0) ∙ ap (λ (Y : Type 0). (True cs m e f → ⊥) × Y) (NoneTrue-kept e fs p.1)
