-- The statements before `base(..)` in the block of a constructor assign fields of its class.
use Rattle.std.proofs.Common.{◌≡◌, ℕ, ◌+◌, ◌-◌, ◌*◌, ◌/◌, ◌%◌, leb, List, [], ◌∷◌, Bool, true, false, Option, Some, None, refl, sym, ◌∙◌, ap, subst, arith, ⊎_elim}
use Rattle.std.specs.Prelude.{◌&&◌, not, slice_get, is_none}
use Rattle.std.proofs.lemmas.Bool.{cases_Bool, and_parts, le-leb, false≢true}
use Rattle.ss_core.specs.declared.names.Place.{Place}
use Rattle.ss_ast.specs.Expressions as text
use Rattle.ss_ast.specs.Statements as written
use Rattle.ss_ast.specs.Programs.{ParamTree, ClassTree, ProgramTree}
use Rattle.ss_faults.specs.declared.Fault.{Fault}
use Rattle.ss_tables.specs.Members.{field_in}
use Rattle.ss_tables.specs.Classes.{members_at, field_of, class_number, is_array_number, declared_place}
use Rattle.ss_tables.specs.Words.{is_state_read, is_state_call, is_state_word}
use Rattle.ss_tables.specs.Scopes.{Scope, local_named, class_scope, param_scope, behind}
use Rattle.ss_tables.specs.Scopes as scopes
use Rattle.ss_tables.specs.Statics.{this_type, static}
use Rattle.ss_typed.specs.Tree.{ExprTree, SimpleOf}
use Rattle.ss_delayed_rules.specs.Opening.{before_base}
use Rattle.ss_resolver_rules.specs.Numbers.{class_in}
use Rattle.ss_resolver_rules.specs.Names.{Env, known, class_env}
use Rattle.ss_resolver_rules.specs.Names as names
use Rattle.ss_resolver_rules.specs.Expressions.{this, read_field, known_or_field, member, expr}
use Rattle.ss_resolver_rules.specs.Statements.{simple, stmt, stmts}
use Rattle.ss_resolver_rules.specs.Statements as rules
use Rattle.ss_resolver_rules.specs.Programs.{param_env, resolved}
use Rattle.ss_resolver_types_heads.specs.Faults.{bad_type, fault_where}
use Rattle.ss_resolver_types_heads.specs.Wants.{place_of}
use Rattle.ss_resolver_types_heads.specs.Calls.{ExprContext}
use Rattle.ss_resolver_types_heads.specs.Expressions.{AsValue, faults}
use Rattle.ss_resolver_types_expressions.specs.Statements.{in_code, is_target, target_faults, assigned_faults, simple_faults, stmt_faults}
use Rattle.ss_resolver_types_heads.specs.Wants.{AnInt, wrong}
use Rattle.ss_resolver_types_expressions.specs.Members.{constructor_body, base_call, is_this, has_field, is_own_field, is_first_assignment, outermost_faults, constructor_stmts}
use Rattle.ss_typed.specs.Shapes as shapes
use Rattle.ss_typed.specs.Shapes.{has_base, is_base}
use Rattle.ss_expand_formed.proofs.Facts.{none_left, not_false, or_false}
use Rattle.ss_expand_formed.proofs.Bases.{no_more_first, stmt_free, at_no_base, none_found}
use Rattle.ss_expand_formed.proofs.OwnFields.{own_target, is_own, OnlyOwn, read_own, params_agree, none_known}

own_place : (k : ℕ) → declared_place (class_number k) ≡ Some k
own_place k =
    let high : leb 4 (4 + 2 * k) ≡ true = le-leb 4 (4 + 2 * k) (omega arith) in
    let even : (4 + 2 * k) % 2 ≡ 0 = omega arith in
    let place : (4 + 2 * k - 4) / 2 ≡ k = omega arith in
    rw (high, even, place) refl

no_array : (k : ℕ) → is_array_number (class_number k) ≡ false
no_array k =
    let high : leb 4 (4 + 2 * k) ≡ true = le-leb 4 (4 + 2 * k) (omega arith) in
    let even : (4 + 2 * k) % 2 ≡ 0 = omega arith in
    rw (high, even) refl

no_fault_where : (b : Bool) (f : Fault) → fault_where b f ≡ [] → b ≡ false
no_fault_where true f h = absurd (let z : ⊥ = cc in z)
no_fault_where false f h = refl

this_stays : (e : Env) (a : text.ExprTree) → is_this a ≡ true → (shapes.is_this (expr e a) ≡ true) × (static e.scope a ≡ this_type e.scope.refuses_this e.scope.class)
this_stays e (text.ThisOf q) h = (refl, refl)
this_stays e (text.ParenOf q a) h = this_stays e a h
this_stays e a h = absurd (false≢true h)

-- what stands in the scope of a constructor's block
pub record InConstructor (p : ProgramTree) (k : ℕ) (e : Env) (s : Scope) : Type 0 where
  pub classes : e.scope.classes ≡ p.classes
  pub class : e.scope.class ≡ k
  pub this : e.scope.refuses_this ≡ false
  pub scope : s.classes ≡ p.classes
  pub names : (n : List ℕ) → local_named s n ≡ None → known e n ≡ None

module _ (p : ProgramTree) (k : ℕ) (c : ClassTree) (at : slice_get p.classes k ≡ Some c) (e : Env) (s : Scope) (i : InConstructor p k e s) where
  abbrev Owns : ExprTree → Type 0
  Owns x = own_target (resolved p) (4 + 2 * k) x ≡ true

  field_owns : (q : Place) (o : ExprTree) (n : List ℕ) → shapes.is_this o ≡ true → has_field s.classes k n ≡ true → Owns (read_field e q o (field_of e.scope.classes k n))
  field_owns q o n this h =
      let there : has_field p.classes k n ≡ true = subst (λ cs. has_field cs k n ≡ true) i.scope h in
      subst (λ cs. Owns (read_field e q o (field_of cs k n))) (sym i.classes) (read_own p k c at e i.classes q o n this (field_in (members_at p.classes k) n) refl there)

  member_owns : (q : Place) (o : ExprTree) (n : List ℕ) → shapes.is_this o ≡ true → is_state_read n ≡ false → has_field s.classes k n ≡ true → Owns (member e q o n (class_number k))
  member_owns q o n this word h = rw (word, no_array k, own_place k) (field_owns q o n this h)

  target_owns : (a : ExprContext) → a.scope ≡ s → (x : text.ExprTree) → target_faults a x ≡ [] → is_own_field k s x ≡ true → Owns (expr e x)
  target_owns a is (text.NameOf q n) none h =
      let both = and_parts (is_none (local_named s n)) (has_field s.classes k n) h in
      let new = i.names n (is_nothing (local_named s n) both.0) in
      subst (λ o. Owns (known_or_field e q n o)) (sym new) (subst (λ j. Owns (read_field e q (this e q) (field_of e.scope.classes j n))) (sym i.class) (field_owns q (this e q) n refl both.1))
    where
      is_nothing : {X : Type 0} (o : Option X) → is_none o ≡ true → o ≡ None
      is_nothing None g = refl
      is_nothing (Some x) g = absurd (false≢true g)
  target_owns a is (text.MemberOf q x n) none h =
      let both = and_parts (is_this x) (has_field s.classes k n.text) h in
      let stays = this_stays e x both.0 in
      let class : class_in (static e.scope x) ≡ class_number k = ap class_in (stays.1 ∙ ap (λ r. this_type r e.scope.class) i.this) ∙ ap class_number i.class in
      let target = not_false (is_target a.scope (text.MemberOf q x n)) (no_fault_where (not (is_target a.scope (text.MemberOf q x n))) (bad_type (place_of (text.MemberOf q x n))) (none_left (faults a AsValue (text.MemberOf q x n)) _ none).1) in
      let word : is_state_read n.text ≡ false = (or_false (is_state_read n.text) (is_state_call n.text) (not_word (is_state_word n.text) _ target)).0 in
      subst (λ t. Owns (member e q (expr e x) n.text t)) (sym class) (member_owns q (expr e x) n.text stays.0 word both.1)
    where
      not_word : (b d : Bool) → (not b && d) ≡ true → b ≡ false
      not_word true d g = absurd (false≢true g)
      not_word false d g = refl
  target_owns a is x none h = absurd (false≢true h)

  first_owns : (x : written.SimpleTree) → simple_faults (in_code constructor_body s) x ≡ [] → is_first_assignment k s (written.SimpleOf x) ≡ true → is_own (resolved p) (4 + 2 * k) (simple e x) ≡ true
  first_owns (written.AssignOf l o r) none h = target_owns (in_code constructor_body s) refl l (none_left (target_faults (in_code constructor_body s) l) (assigned_faults (in_code constructor_body s) o l r) none).0 h
  first_owns (written.StepOf l o) none h = target_owns (in_code constructor_body s) refl l (none_left (target_faults (in_code constructor_body s) l) (wrong s AnInt l) none).0 h
  first_owns (written.AloneOf x) none h = absurd (false≢true h)

  -- where one `base(..)` stands in the block
  simple_own : (x : written.SimpleTree) (xs : written.StmtTrees) → base_call (written.SimpleOf x) ≡ None → constructor_stmts k s true (written.Before (written.SimpleOf x) xs) ≡ [] → has_base (stmts e (written.Before (written.SimpleOf x) xs)) ≡ true →
      (constructor_stmts k s true xs ≡ [] → has_base (stmts e xs) ≡ true → OnlyOwn (resolved p) (4 + 2 * k) (before_base (stmts e xs))) → OnlyOwn (resolved p) (4 + 2 * k) (before_base (stmts e (written.Before (written.SimpleOf x) xs)))
  simple_own x xs none h found go_on =
      let z = written.SimpleOf x in
      let both = none_left (outermost_faults k s z true (base_call z)) (constructor_stmts k s (is_first_assignment k s z) xs) h in
      let faultless : simple_faults (in_code constructor_body s) x ≡ [] = rw none at both.0 in
      let here = stmt_free constructor_body s e z faultless in
      let other : is_base (SimpleOf (simple e x)) ≡ false = at_no_base (SimpleOf (simple e x)) here in
      ⊎_elim
      (λ yes.
      let rest : constructor_stmts k s true xs ≡ [] = rw yes at both.1 in
      let there : has_base (stmts e xs) ≡ true = rw other at found in
      rw other (first_owns x faultless yes, go_on rest there))
      (λ no.
      let rest : constructor_stmts k s false xs ≡ [] = rw no at both.1 in
      let nothing = none_found (stmts e xs) (no_more_first k s e xs rest) in
      absurd (false≢true (sym (rw (other, nothing) refl) ∙ found)))
      (cases_Bool (is_first_assignment k s z))

  other_own : (x : written.StmtTree) (xs : written.StmtTrees) → base_call x ≡ None → is_first_assignment k s x ≡ false → constructor_stmts k s true (written.Before x xs) ≡ [] → has_base (stmts e (written.Before x xs)) ≡ true → ⊥
  other_own x xs none unlike h found =
      let both = none_left (outermost_faults k s x true (base_call x)) (constructor_stmts k (behind s x) (true && is_first_assignment k s x) xs) h in
      let faultless : stmt_faults constructor_body s x ≡ [] = rw none at both.0 in
      let here = at_no_base (stmt e x) (stmt_free constructor_body s e x faultless) in
      let rest : constructor_stmts k (behind s x) false xs ≡ [] = rw unlike at both.1 in
      let nothing = none_found (stmts (rules.behind e x) xs) (no_more_first k (behind s x) (rules.behind e x) xs rest) in
      false≢true (sym (rw (here, nothing) refl) ∙ found)

  pub before_own : (xs : written.StmtTrees) → constructor_stmts k s true xs ≡ [] → has_base (stmts e xs) ≡ true → OnlyOwn (resolved p) (4 + 2 * k) (before_base (stmts e xs))
  before_own written.NoMore h found = tt
  before_own (written.Before (written.SimpleOf (written.AloneOf (text.CallOf q (text.BaseOf r) es))) xs) h found = tt
  before_own (written.Before (written.SimpleOf x) xs) h found = simple_own x xs refl h found (λ i f. before_own xs i f)
  before_own (written.Before x xs) h found = absurd (other_own x xs refl refl h found)

-- the block of a constructor
pub in_constructor : (p : ProgramTree) (k : ℕ) (ps : List ParamTree) → InConstructor p k (names.enter (param_env p.classes k false ps)) (scopes.enter (param_scope p.classes k ps))
in_constructor p k ps =
    let start = record (class_env p.classes k) { next = 1 } in
    let agree = params_agree start (class_scope p.classes k) ps (record { scope = refl; inner = λ n. refl; around = refl; outside = refl }) in
    let same = agree.scope in
    record {
      classes = ap (λ (z : Scope). z.classes) same ∙ classes_stay (class_scope p.classes k) ps;
      class = ap (λ (z : Scope). z.class) same ∙ class_stays (class_scope p.classes k) ps;
      this = ap (λ (z : Scope). z.refuses_this) same ∙ this_stays_free (class_scope p.classes k) ps;
      scope = classes_stay (class_scope p.classes k) ps;
      names = λ n h. none_known (param_env p.classes k false ps) (param_scope p.classes k ps) n agree h;
    }
  where
    classes_stay : (z : Scope) (ps : List ParamTree) → (scopes.declare_params z ps).classes ≡ z.classes
    classes_stay z [] = refl
    classes_stay z (x ∷ ps) = classes_stay (scopes.declare_params z (x ∷ [])) ps

    class_stays : (z : Scope) (ps : List ParamTree) → (scopes.declare_params z ps).class ≡ z.class
    class_stays z [] = refl
    class_stays z (x ∷ ps) = class_stays (scopes.declare_params z (x ∷ [])) ps

    this_stays_free : (z : Scope) (ps : List ParamTree) → (scopes.declare_params z ps).refuses_this ≡ z.refuses_this
    this_stays_free z [] = refl
    this_stays_free z (x ∷ ps) = this_stays_free (scopes.declare_params z (x ∷ [])) ps
