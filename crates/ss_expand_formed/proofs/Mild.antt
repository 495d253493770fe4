-- The fields of a constructor's `this` that have their values, along core code: what it means in what is known, and code that only adds to it.
use Rattle.std.proofs.Common.{◌≡◌, ℕ, List, Bool, true, false, Option, Some, None, refl, sym, ◌∙◌, ap, ⊎_elim}
use Rattle.std.specs.Prelude.{◌&&◌, ◌||◌, ◌==◌, not, option_map, if◌then◌else◌}
use Rattle.std.proofs.lemmas.Bool.{and_parts, and_from, or_left, false≢true}
use Rattle.ss_core.specs.declared.names.Place.{Place}
use Rattle.ss_core.specs.Tree as core
use Rattle.ss_core.specs.Tree.{ExprTree, CalleeTree, BaseConstructor, AssignStmt, WriteStmt, WriteElementStmt, NewStmt, NewArrayStmt, CallStmt, ReadyStmt, IfStmt, LoopStmt, UnpackStmt, PackStmt, AssertStmt, AssumeStmt, PrintStmt, PrintTextStmt, ReturnStmt, CodeTree, NoCode, Then, BodyTree, CoreTree}
use Rattle.ss_core.specs.Chain.{all_fields}
use Rattle.ss_store_rules.specs.Changes.{below}
use Rattle.ss_store_rules.specs.Admissible.{is_this}
use Rattle.ss_store_rules.specs.Locals.{each, each_inside}
use Rattle.ss_store_rules.specs.Paths.{Flow, Check, is_literal_true, passes, reaches_end, met, left, behind, at_end, where_reached, in_body, holds_at, holds_along}
use Rattle.ss_store_rules.specs.NonNull.{Known, is_field_above, known_after, known_tested, known_head, known_flow}
use Rattle.ss_expand_formed.proofs.Facts.{or_false, not_false, and_is_false}
use Rattle.ss_expand_formed.proofs.Along.{at_none}
use Rattle.ss_store_rules.specs.Construction.{is_return, has_fields_from, returns_complete, complete_check}

abbrev pub Fields : Type 0
Fields = ℕ → Bool

-- after a statement
abbrev pub fields_after : CoreTree → BodyTree → core.StmtTree → Fields → Fields
fields_after c b (WriteStmt p o f m t e) k = λ g. k g || is_this o && g == f
fields_after c b (CallStmt p x (BaseConstructor n) es) k = λ f. k f || not b.flags.delayed || is_field_above c b f
fields_after c b (ReadyStmt p) k = λ f. true
fields_after c b s k = k

abbrev pub fields_flow : CoreTree → BodyTree → Flow Fields
fields_flow c b = record {
  after = fields_after c b;
  tested = λ e v k. k;
  meet = λ k l f. k f && l f;
  head = λ s k. k;
}

-- those of the class of the body and of the classes above it
abbrev pub complete : CoreTree → BodyTree → Fields → Bool
complete c b k = has_fields_from (below c.classes b.class) k 0 (all_fields c.classes)

abbrev pub at_return : CoreTree → BodyTree → core.StmtTree → Fields → Bool
at_return c b (ReturnStmt p e) k = complete c b k
at_return c b s k = true

abbrev pub fields_check : CoreTree → BodyTree → Check Fields
fields_check c b = record { statement = at_return c b; test = λ e k. true }

-- ---- the fields among all that is known

module _ (c : CoreTree) (b : BodyTree) where
  abbrev pub fields_of : Option Known → Option Fields
  fields_of k = option_map (λ x. x.fields) k

  kept_same : (p : Place) (x : Option ℕ) (callee : CalleeTree) (es : List ExprTree) (k : Known) → (known_after c b (CallStmt p x callee es) k).fields ≡ fields_after c b (CallStmt p x callee es) k.fields
  kept_same p None (BaseConstructor n) es k = refl
  kept_same p (Some x) (BaseConstructor n) es k = refl
  kept_same p None callee es k = refl
  kept_same p (Some x) callee es k = refl

  made_same : (p : Place) (x : Option ℕ) (t : ℕ) (es : List ExprTree) (k : Known) → (known_after c b (NewStmt p x t es) k).fields ≡ k.fields
  made_same p None t es k = refl
  made_same p (Some x) t es k = refl

  array_same : (p : Place) (x : Option ℕ) (t : ℕ) (e : ExprTree) (k : Known) → (known_after c b (NewArrayStmt p x t e) k).fields ≡ k.fields
  array_same p None t e k = refl
  array_same p (Some x) t e k = refl

  met_same : (x y : Option Known) → fields_of (met (known_flow c b) x y) ≡ met (fields_flow c b) (fields_of x) (fields_of y)
  met_same None y = refl
  met_same (Some k) None = refl
  met_same (Some k) (Some l) = refl

  left_same : (e : ExprTree) (x : Option Known) → fields_of (left (known_flow c b) e x) ≡ left (fields_flow c b) e (fields_of x)
  left_same e x = by (is_literal_true e) x
    where
      by : (v : Bool) (x : Option Known) → fields_of (if v then None else option_map (known_tested e false) x) ≡ (if v then None else option_map (λ k. k) (fields_of x))
      by true x = refl
      by false None = refl
      by false (Some k) = refl

  body_same : (e : ExprTree) (x : Option Known) → fields_of (in_body (known_flow c b) e x) ≡ in_body (fields_flow c b) e (fields_of x)
  body_same e None = refl
  body_same e (Some k) = refl

  mutual
    after_same : (s : core.StmtTree) (k : Known) → fields_of (behind (known_flow c b) s k) ≡ behind (fields_flow c b) s k.fields
    after_same (IfStmt p e x y) k =
        met_same (at_end (known_flow c b) x (Some (known_tested e true k))) (at_end (known_flow c b) y (Some (known_tested e false k)))
        ∙ ap (λ z. met (fields_flow c b) z (fields_of (at_end (known_flow c b) y (Some (known_tested e false k))))) (end_same x (Some (known_tested e true k)))
        ∙ ap (met (fields_flow c b) (at_end (fields_flow c b) x (Some k.fields))) (end_same y (Some (known_tested e false k)))
    after_same (LoopStmt p is x e y xs) k = left_same e (at_end (known_flow c b) x (Some (known_head (LoopStmt p is x e y xs) k))) ∙ ap (left (fields_flow c b) e) (end_same x (Some (known_head (LoopStmt p is x e y xs) k)))
    after_same (ReturnStmt p e) k = refl
    after_same (CallStmt p x callee es) k = ap Some (kept_same p x callee es k)
    after_same (NewStmt p x t es) k = ap Some (made_same p x t es k)
    after_same (NewArrayStmt p x t e) k = ap Some (array_same p x t e k)
    after_same s k = refl

    pub end_same : (code : CodeTree) (k : Option Known) → fields_of (at_end (known_flow c b) code k) ≡ at_end (fields_flow c b) code (fields_of k)
    end_same NoCode k = refl
    end_same (Then s code) None = refl
    end_same (Then s code) (Some k) = end_same code (behind (known_flow c b) s k) ∙ ap (at_end (fields_flow c b) code) (after_same s k)

  reached_same : (s : core.StmtTree) (x : Option Known) → where_reached (returns_complete c b s) x ≡ where_reached (at_return c b s) (fields_of x)
  reached_same s None = refl
  reached_same s (Some k) = statement_same s k
    where
      statement_same : (s : core.StmtTree) (k : Known) → returns_complete c b s k ≡ at_return c b s k.fields
      statement_same (ReturnStmt p e) k = refl
      statement_same s k = refl

  test_same : (x : Option Known) → where_reached (λ k. true) x ≡ where_reached (λ k. true) (fields_of x)
  test_same None = refl
  test_same (Some k) = refl

  mutual
    holds_same : (s : core.StmtTree) (k : Known) → holds_at (known_flow c b) (complete_check c b) s k ≡ holds_at (fields_flow c b) (fields_check c b) s k.fields
    holds_same (IfStmt p e x y) k = rw (along_same x (Some (known_tested e true k)), along_same y (Some (known_tested e false k))) refl
    holds_same (LoopStmt p is x e y xs) k =
        let s = LoopStmt p is x e y xs in
        let start = Some (known_head s k) in
        let tested = at_end (known_flow c b) x start in
        let inside = in_body (known_flow c b) e tested in
        let tests : fields_of tested ≡ at_end (fields_flow c b) x (Some k.fields) = end_same x start in
        let insides : fields_of inside ≡ in_body (fields_flow c b) e (at_end (fields_flow c b) x (Some k.fields)) = body_same e tested ∙ ap (in_body (fields_flow c b) e) tests in
        five (along_same x start) (test_same tested ∙ ap (where_reached (λ z. true)) tests) (along_same y inside ∙ ap (holds_along (fields_flow c b) (fields_check c b) y) insides)
        (reached_same s (at_end (known_flow c b) y inside) ∙ ap (where_reached (at_return c b s)) (end_same y inside ∙ ap (at_end (fields_flow c b) y) insides))
      where
        five : {h i j l m n o q : Bool} → h ≡ m → i ≡ n → j ≡ o → l ≡ q → (true && h && i && j && l) ≡ (true && m && n && o && q)
        five e f g d = rw (e, f, g, d) refl
    holds_same (ReturnStmt p e) k = refl
    holds_same s k = refl

    pub along_same : (code : CodeTree) (k : Option Known) → holds_along (known_flow c b) (complete_check c b) code k ≡ holds_along (fields_flow c b) (fields_check c b) code (fields_of k)
    along_same NoCode k = refl
    along_same (Then s code) None = refl
    along_same (Then s code) (Some k) = ap (λ x. x && holds_along (known_flow c b) (complete_check c b) code (behind (known_flow c b) s k)) (holds_same s k) ∙ ap (λ x. holds_at (fields_flow c b) (fields_check c b) s k.fields && x) (along_same code (behind (known_flow c b) s k) ∙ ap (holds_along (fields_flow c b) (fields_check c b) code) (after_same s k))

-- ---- code that only adds to them

-- neither a loop nor a return
abbrev pub is_mild : core.StmtTree → Bool
is_mild (LoopStmt p is x e y xs) = false
is_mild (ReturnStmt p e) = false
is_mild s = true

abbrev pub Grows : Fields → Fields → Type 0
Grows k l = (f : ℕ) → k f ≡ true → l f ≡ true

-- the end is reached, and there at least as many have their values
pub record Adds (c : CoreTree) (b : BodyTree) (code : CodeTree) (k : Fields) : Type 0 where
  pub fields : Fields
  pub is : at_end (fields_flow c b) code (Some k) ≡ Some fields
  pub grows : Grows k fields

module _ (c : CoreTree) (b : BodyTree) where
  call_grows : (p : Place) (x : Option ℕ) (callee : CalleeTree) (es : List ExprTree) (k : Fields) → Grows k (fields_after c b (CallStmt p x callee es) k)
  call_grows p x (BaseConstructor n) es k f h = or_left (k f || not b.flags.delayed) _ (or_left (k f) _ h)
  call_grows p x callee es k f h = h

  mutual
    mild_after : (s : core.StmtTree) (k : Fields) → each_inside is_mild s ≡ true → (l : Fields) × (behind (fields_flow c b) s k ≡ Some l) × Grows k l
    mild_after (IfStmt p e x y) k h =
        let both = and_parts (each is_mild x) (each is_mild y) h in
        let one = mild_end x k both.0 in
        let other = mild_end y k both.1 in
        ((λ f. one.fields f && other.fields f), ap (λ z. met (fields_flow c b) z (at_end (fields_flow c b) y (Some k))) one.is ∙ ap (met (fields_flow c b) (Some one.fields)) other.is, λ f g. and_from _ _ (one.grows f g) (other.grows f g))
    mild_after (LoopStmt p is x e y xs) k h = absurd (false≢true h)
    mild_after (ReturnStmt p e) k h = absurd (false≢true h)
    mild_after (WriteStmt p o f m t e) k h = ((λ g. k g || is_this o && g == f), refl, λ g i. or_left (k g) _ i)
    mild_after (CallStmt p x callee es) k h = (fields_after c b (CallStmt p x callee es) k, refl, call_grows p x callee es k)
    mild_after (ReadyStmt p) k h = ((λ f. true), refl, λ f g. refl)
    mild_after s k h = (k, refl, λ f g. g)

    pub mild_end : (code : CodeTree) (k : Fields) → each is_mild code ≡ true → Adds c b code k
    mild_end NoCode k h = record { fields = k; is = refl; grows = λ f g. g }
    mild_end (Then s code) k h =
        let both = and_parts (each_inside is_mild s) (each is_mild code) h in
        let one = mild_after s k both.0 in
        let rest = mild_end code one.0 both.1 in
        record { fields = rest.fields; is = ap (at_end (fields_flow c b) code) one.1 ∙ rest.is; grows = λ f g. rest.grows f (one.2 f g) }

  -- ---- without a return

  pub record IsOfReturns (check : Check Fields) : Type 0 where
    pub others : (s : core.StmtTree) (k : Fields) → is_return s ≡ false → check.statement s k ≡ true
    pub tests : (e : ExprTree) (k : Fields) → check.test e k ≡ true

  pub any_reached : (test : Fields → Bool) → ((k : Fields) → test k ≡ true) → (k : Option Fields) → where_reached test k ≡ true
  any_reached test h None = refl
  any_reached test h (Some k) = h k

  module _ (check : Check Fields) (i : IsOfReturns check) where
    mutual
      mild_holds_at : (s : core.StmtTree) (k : Fields) → each_inside is_mild s ≡ true → holds_at (fields_flow c b) check s k ≡ true
      mild_holds_at (IfStmt p e x y) k h =
          let both = and_parts (each is_mild x) (each is_mild y) h in
          and_from _ _ (and_from _ _ (i.others (IfStmt p e x y) k refl) (mild_holds x (Some k) both.0)) (mild_holds y (Some k) both.1)
      mild_holds_at (LoopStmt p is x e y xs) k h = absurd (false≢true h)
      mild_holds_at (ReturnStmt p e) k h = absurd (false≢true h)
      mild_holds_at s k h = i.others s k refl

      pub mild_holds : (code : CodeTree) (k : Option Fields) → each is_mild code ≡ true → holds_along (fields_flow c b) check code k ≡ true
      mild_holds NoCode k h = refl
      mild_holds (Then s code) None h = refl
      mild_holds (Then s code) (Some k) h =
          let both = and_parts (each_inside is_mild s) (each is_mild code) h in
          and_from _ _ (mild_holds_at s k both.0) (mild_holds code (behind (fields_flow c b) s k) both.1)

  -- ---- an end that can't be reached

  mutual
    stops_after : (s : core.StmtTree) (k : Fields) → passes s ≡ false → behind (fields_flow c b) s k ≡ None
    stops_after (IfStmt p e x y) k h =
        let both = or_false (reaches_end x) (reaches_end y) h in
        ap (λ z. met (fields_flow c b) z (at_end (fields_flow c b) y (Some k))) (stops x (Some k) both.0) ∙ stops y (Some k) both.1
    stops_after (LoopStmt p is x e y xs) k h = ap (λ v. if v then None else option_map (λ z. z) (at_end (fields_flow c b) x (Some k))) (not_false (is_literal_true e) h)
    stops_after (ReturnStmt p e) k h = refl
    stops_after s k h = absurd (false≢true (sym h))

    pub stops : (code : CodeTree) (k : Option Fields) → reaches_end code ≡ false → at_end (fields_flow c b) code k ≡ None
    stops NoCode k h = absurd (false≢true (sym h))
    stops (Then s code) None h = refl
    stops (Then s code) (Some k) h =
        ⊎_elim
        (λ here. ap (at_end (fields_flow c b) code) (stops_after s k here) ∙ at_none (fields_flow c b) code)
        (λ later. stops code (behind (fields_flow c b) s k) later.1)
        (and_is_false (passes s) (reaches_end code) h)
