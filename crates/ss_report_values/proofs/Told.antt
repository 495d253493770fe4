-- What is told of a field is so in the model.
use Rattle.std.proofs.Common.{◌≡◌, ℕ, zero, suc, ◌==◌, ◌<◌, List, [], ◌∷◌, ◌++◌, length, get_or, Bool, true, false, ◌||◌, ◌&&◌, Option, Some, None, refl, sym, ◌∙◌, ap, subst, arith}
use Rattle.std.specs.Prelude.{IfSome}
use Rattle.std.specs.List.{list_any, list_all, AllByRecursion}
use Rattle.std.proofs.lemmas.Bool.{eqb-true, eq-eqb}
use Rattle.ss_logic.specs.Terms.{Field, Term, App, terms_from}
use Rattle.ss_logic.specs.Formulas.{Formula}
use Rattle.ss_logic.specs.Equal.{same_term, same_term_equal, same_symbol, symbols_discrete, answer_from}
use Rattle.ss_logic.specs.Occurring.{terms}
use Rattle.ss_logic_countermodels.specs.Refuting.{Model, Agrees, model_of, place_among, are_congruent, implies}
use Rattle.ss_terms.specs.declared.forms.TermId.{TermId}
use Rattle.ss_terms.specs.Forms.{Forms, term_at, terms_at, HasTerms}
use Rattle.ss_report_values.specs.declared.literals.Value.{Value}
use Rattle.ss_report_values.specs.declared.fields.FieldParts.{FieldParts}
use Rattle.ss_report_values.specs.Fields.{read_term, HasFieldValue, IsFieldOf}
use Rattle.ss_report_values.specs.Said.{Occurs, IsTheValue}
use Rattle.ss_report_values.proofs.Only.{all_at, class_at_place, told_value}

-- ---- lists

pub all_pushed : {X : Type 0} (P : X → Type 0) (xs : List X) (x : X) → AllByRecursion P xs → P x → AllByRecursion P (xs ++ x ∷ [])
all_pushed P [] x h k = (k, tt)
all_pushed P (y ∷ xs) x h k = (h.0, all_pushed P xs x h.1 k)

-- what stands at a place of a list stands in it
pub stands_at : (b : Forms) (ts : List TermId) (i : ℕ) (d : TermId) → i < length ts → list_any (same_term (term_at b (get_or ts i d))) (terms_at b ts) ≡ true
stands_at b [] i d h = absurd (omega arith)
stands_at b (t ∷ ts) zero d h = ap (λ v. v || list_any (same_term (term_at b t)) (terms_at b ts)) (same_term_equal (term_at b t) (term_at b t) refl)
stands_at b (t ∷ ts) (suc i) d h = ap (λ v. same_term (term_at b (get_or ts i d)) (term_at b t) || v) (stands_at b ts i d (omega arith)) ∙ or_true (same_term (term_at b (get_or ts i d)) (term_at b t))
  where
    or_true : (v : Bool) → (v || true) ≡ true
    or_true true = refl
    or_true false = refl

-- ---- the parts of a read

pub is_field_of : (b : Forms) (t : TermId) (f : ℕ) (ts : List TermId) (o : Option FieldParts) → HasTerms b ts → term_at b t ≡ App (Field f) (terms_from (terms_at b ts)) → IfSome o (λ p. (p.field ≡ f) × (ts ≡ p.store ∷ p.object ∷ [])) → IfSome o (λ p. IsFieldOf b t p)
is_field_of b t f ts None has is h = tt
is_field_of b t f ts (Some p) has is h =
    let there : HasTerms b (p.store ∷ p.object ∷ []) = subst (λ (us : List TermId). HasTerms b us) h.1 has in
    record {
      store = there.0;
      object = there.1.0;
      is = is ∙ ap (λ g. App (Field g) (terms_from (terms_at b ts))) (sym h.0) ∙ ap (λ us. App (Field p.field) (terms_from (terms_at b us))) h.1;
    }

-- ---- reads of equal objects in equal stores

field_itself : (f : ℕ) → same_symbol (Field f) (Field f) ≡ true
unfolding same_symbol
field_itself f = answer_from (symbols_discrete (Field f) (Field f)) refl

three : (x y z : Bool) → x ≡ true → y ≡ true → z ≡ true → (x && (y && (z && true))) ≡ true
three x y z a b c = ap (λ v. v && (y && (z && true))) a ∙ ap (λ v. v && (z && true)) b ∙ ap (λ v. v && true) c

congruent_reads : (m : Model) (f : ℕ) (s o t p : Term) → m.class s ≡ m.class t → m.class o ≡ m.class p → are_congruent m (read_term f s o) (read_term f t p) ≡ true
congruent_reads m f s o t p a b = three (same_symbol (Field f) (Field f)) (m.class s == m.class t) (m.class o == m.class p) (field_itself f) (eq-eqb (m.class s) (m.class t) a) (eq-eqb (m.class o) (m.class p) b)

implied : (x y : Bool) → x ≡ true → implies x y ≡ true → y ≡ true
implied true y h k = k
implied false y h k = cc

equal_reads : (m : Model) (fs : List Formula) → Agrees m fs → (t u : Term) → Occurs fs t → Occurs fs u → are_congruent m t u ≡ true → m.class t ≡ m.class u
equal_reads m fs r t u at bt e =
    let row = all_at (λ x. list_all (λ y. implies (are_congruent m x y) (m.class x == m.class y)) (terms fs)) (terms fs) t r.congruent at in
    let here = all_at (λ y. implies (are_congruent m t y) (m.class t == m.class y)) (terms fs) u row bt in
    eqb-true (m.class t) (m.class u) (implied (are_congruent m t u) (m.class t == m.class u) e here)

value_moved : (m : Model) (fs : List Formula) (t u : Term) (v : Value) → m.class t ≡ m.class u → IsTheValue m fs t v → IsTheValue m fs u v
value_moved m fs t u v e told = record {
  literal = told.literal;
  occurs = told.occurs;
  value = told.value;
  class = told.class ∙ e;
  only = λ w at is k. told.only w at is (k ∙ sym e);
}

pub told_field : (fs : List Formula) (classes : List ℕ) (truths : List Bool) → Agrees (model_of fs classes truths) fs → (store object field : ℕ) (v : Value) → HasFieldValue (terms fs) classes store object field v →
    (s o : Term) → Occurs fs (read_term field s o) → (model_of fs classes truths).class s ≡ store → (model_of fs classes truths).class o ≡ object → IsTheValue (model_of fs classes truths) fs (read_term field s o) v
told_field fs classes truths r store object field v h s o at in_store at_object =
    value_moved (model_of fs classes truths) fs (read_term field h.store_term h.object_term) (read_term field s o) v
    (equal_reads (model_of fs classes truths) fs r (read_term field h.store_term h.object_term) (read_term field s o) h.stands at
    (congruent_reads (model_of fs classes truths) field h.store_term h.object_term s o
    (class_at_place classes (place_among (same_term h.store_term) (terms fs)) store h.at_store ∙ sym in_store)
    (class_at_place classes (place_among (same_term h.object_term) (terms fs)) object h.at_object ∙ sym at_object)))
    (told_value fs classes truths r (read_term field h.store_term h.object_term) v h.value)
