-- What is told of a term is the only literal in its class.
use Rattle.std.proofs.Common.{◌≡◌, ℕ, zero, suc, ◌==◌, List, [], ◌∷◌, Bool, true, false, not, ◌||◌, ◌&&◌, Option, Some, None, option_and_then, slice_get, refl, sym, ◌∙◌, ap, if◌then◌else◌}
use Rattle.std.specs.List.{list_any, list_all, slice_index_or}
use Rattle.std.proofs.lemmas.Bool.{false≢true, and_parts, eqb-true, eq-eqb}
use Rattle.ss_logic.specs.Terms.{Term, App, Number, Fixed, Null, no_terms}
use Rattle.ss_logic.specs.Formulas.{Formula}
use Rattle.ss_logic.specs.Equal.{same_term, equal_terms, same_term_equal}
use Rattle.ss_logic_means.specs.Steps.{is_value}
use Rattle.ss_logic.specs.Occurring.{terms}
use Rattle.ss_logic_countermodels.specs.Refuting.{Model, Agrees, model_of, place_among, are_apart}
use Rattle.ss_report_values.specs.declared.literals.Value.{Value}
use Rattle.ss_report_values.specs.Literals.{value_of, value_or, value_in, value_at}
use Rattle.ss_report_values.specs.Said.{Occurs, IsTheValue}
use Rattle.ss_report_values.proofs.Once.{Once, terms_once}

-- ---- what holds of all holds of one

pub all_at : (p : Term → Bool) (ts : List Term) (t : Term) → list_all p ts ≡ true → list_any (same_term t) ts ≡ true → p t ≡ true
all_at p [] t h at = cc
all_at p (u ∷ ts) t h at =
    let q = and_parts (p u) (list_all p ts) h in
    by (same_term t u) refl q.0 (all_at p ts t q.1) at
  where
    by : (v : Bool) → same_term t u ≡ v → p u ≡ true → (list_any (same_term t) ts ≡ true → p t ≡ true) → (v || list_any (same_term t) ts) ≡ true → p t ≡ true
    by true e first more a = ap p (equal_terms t u e) ∙ first
    by false e first more a = more a

not_apart : (v w same e : Bool) → v ≡ true → w ≡ true → e ≡ true → not (v && w && not same && e) ≡ true → same ≡ true
not_apart true true true true a b c h = refl
not_apart true true false true a b c h = cc
not_apart true true same false a b c h = cc
not_apart true false same e a b c h = cc
not_apart false w same e a b c h = cc

only_one : (m : Model) (fs : List Formula) → Agrees m fs → (v w : Term) → Occurs fs v → Occurs fs w → is_value v ≡ true → is_value w ≡ true → m.class v ≡ m.class w → v ≡ w
only_one m fs r v w at bt a b e =
    let row = all_at (λ s. list_all (are_apart m s) (terms fs)) (terms fs) v r.apart at in
    let h = all_at (are_apart m v) (terms fs) w row bt in
    equal_terms v w (not_apart (is_value v) (is_value w) (same_term v w) (m.class v == m.class w) a b (eq-eqb (m.class v) (m.class w) e) h)

-- ---- the literal that is found

nothing : (v : Value) → None ≡ Some v → ⊥
nothing v h = cc

value_is_value : (t : Term) (v : Value) → value_of t ≡ Some v → is_value t ≡ true
value_is_value (App (Number n) no_terms) v h = refl
value_is_value (App (Fixed b) no_terms) v h = refl
value_is_value (App Null no_terms) v h = refl
value_is_value _ v h = absurd (nothing v h)

-- a literal of the class, at a place of the list
record Found (ts : List Term) (ns : List ℕ) (n : ℕ) (v : Value) : Type 0 where
  place : ℕ
  literal : Term
  here : slice_get ts place ≡ Some literal
  class : slice_get ns place ≡ Some n
  value : value_of literal ≡ Some v

found_in : (ts : List Term) (ns : List ℕ) (n : ℕ) (v : Value) → value_in ts ns n ≡ Some v → Found ts ns n v
found_in [] ns n v h = cc
found_in (t ∷ ts) [] n v h = cc
found_in (t ∷ ts) (k ∷ ns) n v h = or_later (k == n) (λ e. eqb-true k n e) (value_of t) refl (found_in ts ns n v) h
  where
    later : Found ts ns n v → Found (t ∷ ts) (k ∷ ns) n v
    later f = record { place = suc f.place; literal = f.literal; here = f.here; class = f.class; value = f.value }

    or_later : (same : Bool) → (same ≡ true → k ≡ n) → (o : Option Value) → value_of t ≡ o → (value_in ts ns n ≡ Some v → Found ts ns n v) → value_or (if same then o else None) (value_in ts ns n) ≡ Some v → Found (t ∷ ts) (k ∷ ns) n v
    or_later true e (Some w) is more g = record { place = 0; literal = t; here = refl; class = ap Some (e refl); value = is ∙ g }
    or_later true e None is more g = later (more g)
    or_later false e o is more g = later (more g)

-- ---- places

occurs_at : (ts : List Term) (i : ℕ) (t : Term) → slice_get ts i ≡ Some t → list_any (same_term t) ts ≡ true
occurs_at [] i t h = cc
occurs_at (u ∷ ts) zero t h =
    let e : u ≡ t = cc in
    ap (λ v. v || list_any (same_term t) ts) (same_term_equal t u (sym e))
occurs_at (u ∷ ts) (suc i) t h = ap (λ v. same_term t u || v) (occurs_at ts i t h) ∙ or_true (same_term t u)
  where
    or_true : (v : Bool) → (v || true) ≡ true
    or_true true = refl
    or_true false = refl

place_at : (ts : List Term) (i : ℕ) (t : Term) → Once ts → slice_get ts i ≡ Some t → place_among (same_term t) ts ≡ i
place_at [] i t o h = cc
place_at (u ∷ ts) zero t o h =
    let e : u ≡ t = cc in
    ap (λ v. if v then 0 else suc (place_among (same_term t) ts)) (same_term_equal t u (sym e))
place_at (u ∷ ts) (suc i) t o h =
    ap (λ v. if v then 0 else suc (place_among (same_term t) ts)) (other (same_term t u) refl) ∙ ap suc (place_at ts i t o.1 h)
  where
    other : (v : Bool) → same_term t u ≡ v → v ≡ false
    other false e = refl
    other true e = absurd (false≢true (sym o.0 ∙ ap (λ x. list_any (same_term x) ts) (sym (equal_terms t u e)) ∙ occurs_at ts i t h))

pub class_at_place : (ns : List ℕ) (i n : ℕ) → slice_get ns i ≡ Some n → slice_index_or ns i 0 ≡ n
class_at_place [] i n h = cc
class_at_place (k ∷ ns) zero n h = cc
class_at_place (k ∷ ns) (suc i) n h = class_at_place ns i n h

pub told_value : (fs : List Formula) (classes : List ℕ) (truths : List Bool) → Agrees (model_of fs classes truths) fs → (t : Term) (v : Value) → value_at (terms fs) classes t ≡ Some v → IsTheValue (model_of fs classes truths) fs t v
told_value fs classes truths r t v h = by (slice_get classes (place_among (same_term t) (terms fs))) refl h
  where
    made : (n : ℕ) → slice_get classes (place_among (same_term t) (terms fs)) ≡ Some n → Found (terms fs) classes n v → IsTheValue (model_of fs classes truths) fs t v
    made n at f =
        let there : Occurs fs f.literal = occurs_at (terms fs) f.place f.literal f.here in
        let same : (model_of fs classes truths).class f.literal ≡ (model_of fs classes truths).class t =
        ap (λ i. slice_index_or classes i 0) (place_at (terms fs) f.place f.literal (terms_once fs) f.here) ∙ class_at_place classes f.place n f.class ∙ sym (class_at_place classes (place_among (same_term t) (terms fs)) n at) in
        record {
          literal = f.literal;
          occurs = there;
          value = f.value;
          class = same;
          only = λ u at is e. only_one (model_of fs classes truths) fs r u f.literal at there is (value_is_value f.literal v f.value) (e ∙ sym same);
        }

    by : (o : Option ℕ) → slice_get classes (place_among (same_term t) (terms fs)) ≡ o → option_and_then (value_in (terms fs) classes) o ≡ Some v → IsTheValue (model_of fs classes truths) fs t v
    by (Some n) e g = made n e (found_in (terms fs) classes n v g)
    by None e g = cc
