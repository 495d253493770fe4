-- The operands of a call: each has a value, and a term for it.
use Rattle.std.proofs.Common.{◌≡◌, ℕ, List, [], ◌∷◌, map, Bool, true, Ok, Err, Result, refl, sym, ◌∙◌, ap, subst}
use Rattle.std.specs.Prelude.{Option, Some, None, is_some}
use Rattle.std.specs.List.{list_all}
use Rattle.std.proofs.lemmas.Bool.{false≢true, and_parts, and_from}
use Rattle.ss_core.specs.declared.names.Ty.{Ty}
use Rattle.ss_core.specs.Tree.{ClassTree, ExprTree, BodyTree}
use Rattle.ss_store_rules.specs.declared.Value.{Value as ObjectValue}
use Rattle.ss_store_rules.specs.declared.Undefined.{Undefined}
use Rattle.ss_store_rules.specs.Assigned.{reads_assigned}
use Rattle.ss_store_rules.specs.Formed.{IsFormed}
use Rattle.ss_store_rules.specs.Numbers.{Outcome}
use Rattle.ss_store_rules.specs.Store.{Object}
use Rattle.ss_store_rules.specs.Typed.{have_types_in}
use Rattle.ss_store_rules.specs.Types.{has_fitting, code_type}
use Rattle.ss_store_rules.specs.Values.{Setting}
use Rattle.ss_store_rules.specs.Values as run
use Rattle.ss_machine_rules.specs.Steps.{values_of}
use Rattle.ss_logic.specs.Values.{Table, Structure}
use Rattle.ss_logic.specs.Terms.{Term}
use Rattle.ss_logic.specs.Express.{Meant, One}
use Rattle.ss_vcgen_heaps.specs.Positions.{Counters, Position, Walk, evaluate_all}
use Rattle.ss_vcgen_heaps.specs.Obligations.{settle_all, arguments_settled, AreValid}
use Rattle.ss_sound_outcomes.specs.Points.{Point, scene}
use Rattle.ss_vcgen_safe.specs.At.{IsAlike, activation, IsAt}
use Rattle.ss_vcgen_safe.proofs.PositionsStatements.{leads_settle_all}
use Rattle.ss_vcgen_safe.proofs.PositionsArguments.{AreArguments}
use Rattle.ss_vcgen_safe.proofs.Same.{same_evaluate_all}
use Rattle.ss_vcgen_safe.proofs.Evaluates.{evaluated_all}
use Rattle.ss_vcgen_safe.proofs.Settles.{settled_all}
use Rattle.ss_vcgen_safe.specs.Stated.{AreTermsFor}

fitting_typed : (cs : List ClassTree) (o : Option Ty) (t : Ty) → has_fitting cs o t ≡ true → is_some o ≡ true
fitting_typed cs None t h = absurd (false≢true h)
fitting_typed cs (Some a) t h = refl

-- expressions that fit parameters have types
pub have_some : (cs : List ClassTree) (b : BodyTree) (es : List ExprTree) (ts : List Ty) → have_types_in cs b es ts ≡ true → list_all (λ e. is_some (code_type cs b e)) es ≡ true
have_some cs b [] ts h = refl
have_some cs b (e ∷ es) [] h = absurd (false≢true h)
have_some cs b (e ∷ es) (t ∷ ts) h =
    let p = and_parts _ (have_types_in cs b es ts) h in
    and_from (is_some (code_type cs b e)) (list_all (λ z. is_some (code_type cs b z)) es) (fitting_typed cs (code_type cs b e) t p.0) (have_some cs b es ts p.1)

-- values of a first expression and of the others
pub split_values : (e : ExprTree) (es : List ExprTree) (c : Setting) (us : List ObjectValue) → values_of (e ∷ es) c ≡ Ok us → (v : ObjectValue) × (vs : List ObjectValue) × (run.value_of e c ≡ Ok v) × (values_of es c ≡ Ok vs) × (us ≡ v ∷ vs)
split_values e es c us h = parts (run.value_of e c) (values_of es c) refl refl h
  where
    parts : (r : Outcome) (q : Result (List ObjectValue) Undefined) → run.value_of e c ≡ r → values_of es c ≡ q → run.and_then r (λ v. run.and_then q (λ vs. Ok (v ∷ vs))) ≡ Ok us →
        (v : ObjectValue) × (vs : List ObjectValue) × (run.value_of e c ≡ Ok v) × (values_of es c ≡ Ok vs) × (us ≡ v ∷ vs)
    parts (Err u) q a b k = absurd (let no : ⊥ = cc in no)
    parts (Ok v) (Err u) a b k = absurd (let no : ⊥ = cc in no)
    parts (Ok v) (Ok vs) a b k = (v, vs, a, b, (let same : v ∷ vs ≡ us = cc in sym same))

module _ (w : Walk) (before : List Object) (table : Table) where
  abbrev cs : List ClassTree
  cs = w.program.classes

  -- each argument is one term with its value
  pub record HaveTermsFor (next : Counters) (m : Structure) (xs : List Meant) (vs : List ObjectValue) : Type 0 where
    pub terms : List Term
    pub are : xs ≡ map One terms
    pub stand : AreTermsFor cs next m terms vs

  terms_are : (p : Point) (next : Counters) (m : Structure) (es : List ExprTree) (xs : List Meant) (vs : List ObjectValue) → AreArguments w before table p next m es xs vs → HaveTermsFor next m xs vs
  terms_are p next m [] [] [] h = record { terms = []; are = refl; stand = tt }
  terms_are p next m (e ∷ es) (x ∷ xs) (v ∷ vs) h =
      let r = terms_are p next m es xs vs h.1 in
      record {
        terms = h.0.term ∷ r.terms;
        are = ap (λ y. y ∷ xs) h.0.one ∙ ap (λ ys. One h.0.term ∷ ys) r.are;
        stand = (record { sorted = h.0.sorted.1; is = h.0.is }, r.stand);
      }
  terms_are p next m [] [] (v ∷ vs) h = absurd h
  terms_are p next m [] (x ∷ xs) vs h = absurd h
  terms_are p next m (e ∷ es) [] vs h = absurd h
  terms_are p next m (e ∷ es) (x ∷ xs) [] h = absurd h

  -- The operands have values, and in some structure that is alike they have terms for these.
  pub record AreGiven (xs : ℕ → Bool) (m : Structure) (k : Position) (p : Point) (es : List ExprTree) : Type 0 where
    pub values : List ObjectValue
    pub are : values_of es (scene (activation w before table) p) ≡ Ok values
    pub m' : Structure
    pub alike : IsAlike k.next m m'
    pub at : IsAt w before table xs m' (settle_all w es (evaluate_all w es k)) p
    pub have : HaveTermsFor (settle_all w es (evaluate_all w es k)).next m' (arguments_settled w es (evaluate_all w es k)) values

  pub operands_given : IsFormed w.program → (xs : ℕ → Bool) (m : Structure) (k : Position) (p : Point) (es : List ExprTree) → IsAt w before table xs m k p → list_all (reads_assigned w.body xs) es ≡ true → list_all (λ e. is_some (code_type cs w.body e)) es ≡ true →
      AreValid cs (settle_all w es (evaluate_all w es k)).listed → AreGiven xs m k p es
  operands_given formed xs m k p es at reads typed valid =
      let j = evaluate_all w es k in
      let ev = evaluated_all w before table formed xs m es k p at reads typed ((leads_settle_all w es j).listed valid) in
      let st = settled_all w before table xs m p j es ev.values ev.at ev.still in
      record {
        values = ev.values;
        are = ev.are;
        m' = st.m';
        alike = subst (λ (n : Counters). IsAlike n m st.m') (same_evaluate_all w es k).next st.alike;
        at = st.at;
        have = terms_are p (settle_all w es j).next st.m' es (arguments_settled w es j) ev.values st.are;
      }
