-- The places in which the contract and the block of a written body stand.
use Rattle.std.proofs.Common.{◌≡◌, ℕ, zero, suc, ◌+◌, ◌*◌, ◌<◌, List, [], ◌∷◌, ◌++◌, length, map, Bool, true, false, Option, Some, None, refl, sym, ◌∙◌, ap, subst, arith}
use Rattle.std.specs.Prelude.{slice_get, option_map, option_to_list, if◌then◌else◌}
use Rattle.std.specs.List.{list_all}
use Rattle.std.proofs.lemmas.Bool.{and_parts, and_from, lt-ltb, false≢true}
use Rattle.std.proofs.lemmas.Option.{same_Some, slice_get_within, slice_get-map}
use Rattle.std.proofs.lemmas.List.Folds.{list_all-append}
use Rattle.ss_core.specs.declared.names.Ty.{Ty}
use Rattle.ss_core.specs.Tree as core
use Rattle.ss_core.specs.Chain.{is_type, is_class}
use Rattle.ss_ast.specs.Expressions.{TypeTree}
use Rattle.ss_ast.specs.Programs.{ParamTree, BaseCallTree, ClauseTree, ClassTree, ProgramTree}
use Rattle.ss_ast.specs.Statements.{BlockTree}
use Rattle.ss_tables.specs.Members.{MethodTree, ConstructorTree, is_static}
use Rattle.ss_tables.specs.Classes.{class_number}
use Rattle.ss_tables.specs.Types.{written_type}
use Rattle.ss_tables.specs.Scopes.{class_scope, param_scope}
use Rattle.ss_tables.specs.Scopes as scopes
use Rattle.ss_tables.specs.Statics.{result_type}
use Rattle.ss_typed.specs.Tree.{BodyTree}
use Rattle.ss_typed.specs.Tree as typed
use Rattle.ss_typed.specs.Types.{class_type}
use Rattle.ss_resolver_names_rules.specs.Faults as faults
use Rattle.ss_resolver_names_rules.specs.Members as names
use Rattle.ss_resolver_names_rules.specs.Programs.{program_faults}
use Rattle.ss_resolver_types_expressions.specs.Members as types
use Rattle.ss_resolver_rules.specs.Names.{Env}
use Rattle.ss_resolver_rules.specs.Numbers.{type_id}
use Rattle.ss_resolver_rules.specs.Programs.{param, method_env, param_env, method_body, constructor_body, resolved}
use Rattle.ss_typed.specs.Lookups.{body_at}
use Rattle.ss_store_rules.specs.Typed.{is_local}
use Rattle.ss_expand_formed.specs.Laws.{core_of}
use Rattle.ss_expand_formed.proofs.Facts.{none_left, all_at}
use Rattle.ss_expand_formed.proofs.ChainLaw.{size, type_known}
use Rattle.ss_expand_formed.proofs.Searching.{at_front}
use Rattle.ss_expand_formed.proofs.TypesKnown.{known, are_known, all_known, env_of}
use Rattle.ss_expand_formed.proofs.Declared.{have_declared_types}
use Rattle.ss_expand_formed.proofs.ExpressionsScopes.{refusing}
use Rattle.ss_expand_formed.proofs.Classes.{type_there}
use Rattle.ss_expand_formed.proofs.ExpressionsPlaces.{At, scope_at, IsKnown, IsPlace}
use Rattle.ss_expand_formed.proofs.Environments.{with_at, params_at, params_scope, viewed, class_at, first_number, constructor_at, method_at, place_params, this_in, param_types, context_with, context_of}
use Rattle.ss_expand_formed.proofs.ExpressionsBodies.{IsMethod, IsConstructor}

pub there_in_front : {X : Type 0} (xs ys : List X) (i : ℕ) (x : X) → slice_get xs i ≡ Some x → slice_get (xs ++ ys) i ≡ Some x
there_in_front xs ys i x h = at_front xs ys i (slice_get_within xs i x h) ∙ h

-- a parameter after `this`
at_param : (s : Bool) (t : Ty) (ps ls : List Ty) (i : ℕ) (u : Ty) → slice_get ps i ≡ Some u → slice_get (((if s then [] else t ∷ []) ++ ps) ++ ls) ((if s then 0 else 1) + i) ≡ Some u
at_param true t ps ls i u h = let e : 0 + i ≡ i = omega arith in rw e (there_in_front ps ls i u h)
at_param false t ps ls i u h = let e : 1 + i ≡ suc i = omega arith in ap (slice_get ((t ∷ ps) ++ ls)) e ∙ there_in_front ps ls i u h

all_types : {X : Type 0} (test : Ty → Bool) (f : X → Ty) (xs : List X) → list_all (λ (x : X). test (f x)) xs ≡ true → list_all test (map f xs) ≡ true
all_types test f [] h = refl
all_types test f (x ∷ xs) h = let both = and_parts (test (f x)) (list_all (λ y. test (f y)) xs) h in and_from _ _ both.0 (all_types test f xs both.1)

module _ (p : ProgramTree) (faultless : program_faults p ≡ []) where
  abbrev C : List core.ClassTree
  C = (core_of p).classes

  local_types_known : (ls : List core.LocalTree) → list_all (is_local C) ls ≡ true → list_all (is_type C) (map (λ (l : core.LocalTree). l.ty) ls) ≡ true
  local_types_known [] h = refl
  local_types_known (l ∷ ls) h =
      let both = and_parts (is_local C l) (list_all (is_local C) ls) h in
      and_from _ _ (and_parts (is_type C l.ty) _ both.0).0 (local_types_known ls both.1)

  this_known : (static : Bool) (t : ℕ) → is_class C t ≡ true → list_all (is_type C) (if static then [] else class_type t true ∷ []) ≡ true
  this_known true t h = refl
  this_known false t h = and_from _ _ h refl

  -- the types of a written body's context are of the table
  pub body_known : (n : ℕ) (b : BodyTree) → body_at (resolved p) n ≡ Some b → is_class C b.class ≡ true → IsKnown p (context_of b)
  body_known n b at class =
      let all = and_parts (list_all (known p faultless) (option_to_list b.result)) (list_all (λ (q : typed.ParamTree). known p faultless q.ty) b.params) (all_at (are_known p faultless) (resolved p).bodies n b (all_known p faultless) at) in
      let own = all_at (λ (y : BodyTree). list_all (is_local C) y.locals) (resolved p).bodies n b (have_declared_types p faultless) at in
      let whole : list_all (is_type C) (context_of b).locals ≡ true =
      list_all-append (is_type C) (this_in b ++ param_types b) (map (λ (l : core.LocalTree). l.ty) b.locals)
      ∙ and_from _ _ (list_all-append (is_type C) (this_in b) (param_types b) ∙ and_from _ _ (this_known b.flags.is_static b.class class) (all_types (is_type C) (λ (q : typed.ParamTree). q.ty) b.params all.1)) (local_types_known b.locals own) in
      record { locals = λ y t e. all_at (is_type C) (context_of b).locals y t whole e; result = λ t e. (and_parts (is_type C t) _ (subst (λ o. list_all (known p faultless) (option_to_list o) ≡ true) e all.0)).0 }

  -- so are those of its arguments alone
  pub arguments_known : (n : ℕ) (b : BodyTree) → body_at (resolved p) n ≡ Some b → is_class C b.class ≡ true → IsKnown p (context_with b [])
  arguments_known n b at class =
      let h = body_known n b at class in
      record { locals = λ y t e. h.locals y t (in_arguments (this_in b ++ param_types b) (map (λ (l : core.LocalTree). l.ty) b.locals) y t e); result = h.result }
    where
      in_arguments : (xs ys : List Ty) (y : ℕ) (t : Ty) → slice_get (xs ++ []) y ≡ Some t → slice_get (xs ++ ys) y ≡ Some t
      in_arguments [] ys y t e = absurd (let z : ⊥ = cc in z)
      in_arguments (x ∷ xs) ys zero t e = e
      in_arguments (x ∷ xs) ys (suc y) t e = in_arguments xs ys y t e

  pub class_numbered : (k : ℕ) → k < length p.classes → is_class C (class_number k) ≡ true
  class_numbered k l = let s = size p in lt-ltb (4 + 2 * k) (4 + 2 * length C) (omega arith)

  -- ---- parameters

  -- where names have no fault, the parameters have types
  params_written : (s : scopes.Scope) → s.classes ≡ p.classes → (ps : List ParamTree) → names.params_faults s ps ≡ [] → (i : ℕ) (q : ParamTree) → slice_get ps i ≡ Some q → written_type p.classes q.ty ≡ Some (type_id p.classes q.ty)
  params_written s same [] h i q e = absurd (let z : ⊥ = cc in z)
  params_written s same (r ∷ ps) h i q e =
      let both = none_left (faults.type_faults s.classes r.ty ++ faults.twice_in s.inner r.name) _ h in
      let type = (none_left (faults.type_faults s.classes r.ty) _ both.0).0 in
      by i e (subst (λ cs. faults.type_faults cs r.ty ≡ []) same type) (params_written (scopes.declare s r.name.text (record { ty = written_type s.classes r.ty; is_param = true })) same ps both.1)
    where
      by : (j : ℕ) → slice_get (r ∷ ps) j ≡ Some q → faults.type_faults p.classes r.ty ≡ [] → ((n : ℕ) (z : ParamTree) → slice_get ps n ≡ Some z → written_type p.classes z.ty ≡ Some (type_id p.classes z.ty)) → written_type p.classes q.ty ≡ Some (type_id p.classes q.ty)
      by zero g t rest = subst (λ (z : ParamTree). written_type p.classes z.ty ≡ Some (type_id p.classes z.ty)) (same_Some _ _ g) (type_there p faultless r.ty (type_known p faultless r.ty t))
      by (suc j) g t rest = rest j q g

  body_params : (s : scopes.Scope) (ps : List ParamTree) (base : Option BaseCallTree) (cs : List ClauseTree) (b : BlockTree) → names.body_faults s ps base cs b ≡ [] → names.params_faults s ps ≡ []
  body_params s ps base cs b h =
      let inside = scopes.declare_params s ps in
      let two = none_left (names.params_faults s ps ++ names.base_faults inside base ++ names.clauses_faults inside cs) _ h in
      let one = none_left (names.params_faults s ps ++ names.base_faults inside base) _ two.0 in
      (none_left (names.params_faults s ps) _ one.0).0

  params_there : (e : Env) → e.scope.classes ≡ p.classes → (static : Bool) (t : Ty) (ls : List Ty) (ps : List ParamTree) (i : ℕ) (q : ParamTree) → slice_get ps i ≡ Some q →
      slice_get (((if static then [] else t ∷ []) ++ map (λ (z : typed.ParamTree). z.ty) (map (param e) ps)) ++ ls) ((if static then 0 else 1) + i) ≡ Some (type_id p.classes q.ty)
  params_there e same static t ls ps i q h =
      at_param static t (map (λ (z : typed.ParamTree). z.ty) (map (param e) ps)) ls i (type_id p.classes q.ty)
      (slice_get-map (λ (z : typed.ParamTree). z.ty) (map (param e) ps) i ∙ ap (option_map (λ (z : typed.ParamTree). z.ty)) (slice_get-map (param e) ps i ∙ ap (option_map (param e)) h) ∙ ap (λ cs. Some (type_id cs q.ty)) same)

  params_class : (a : At) (ps : List ParamTree) → (params_at p a ps).class ≡ a.class
  params_class a [] = refl
  params_class a (q ∷ ps) = params_class (with_at p true a q.ty q.name.text) ps

  params_outcome : (a : At) (ps : List ParamTree) → (params_at p a ps).outcome ≡ a.outcome
  params_outcome a [] = refl
  params_outcome a (q ∷ ps) = params_outcome (with_at p true a q.ty q.name.text) ps

  -- ---- methods

  result_is : (r : Option TypeTree) → names.written_type_faults p.classes r ≡ [] → result_type p.classes r ≡ option_map (type_id p.classes) r
  result_is None h = refl
  result_is (Some t) h = type_there p faultless t (type_known p faultless t h)

  outcome_is : (r : Option TypeTree) → names.written_type_faults p.classes r ≡ [] → types.type_of_result (types.outcome_of p.classes r) ≡ option_map (type_id p.classes) r
  outcome_is None h = refl
  outcome_is (Some t) h = type_there p faultless t (type_known p faultless t h)

  module _ (k : ℕ) (l : k < length p.classes) (m : MethodTree) (is : IsMethod p k m) (ls : List Ty) (lacks answer : Bool) (answers : answer ≡ true → lacks ≡ false → (t : Ty) × (option_map (type_id p.classes) m.result ≡ Some t)) where
    pub method_place : IsPlace p (context_with (method_body p.classes k m) ls) (is_static m) lacks answer (method_at p k m)
    method_place =
        let x = context_with (method_body p.classes k m) ls in
        let first : IsPlace p x (is_static m) lacks false (class_at p k (first_number p (is_static m))) = record {
          class = l;
          this = λ e. rw e refl;
          in_static = λ e. e;
          in_class = refl;
          outcome = λ t e. absurd (let z : ⊥ = cc in z);
          answer_is = λ e g. absurd (false≢true e);
          inner = tt;
          outer = tt;
        } in
        let h = place_params p x (is_static m) lacks false (class_at p k (first_number p (is_static m))) m.params first
        (params_written (names.in_method (class_scope p.classes k) (is_static m) (result_type p.classes m.result)) refl m.params (body_params _ m.params None m.clauses m.body is.names))
        (params_there (method_env p.classes k m) (env_of p faultless k (is_static m) m.params) (is_static m) (class_type (class_number k) true) ls m.params) in
        record { class = h.class; this = h.this; in_static = h.in_static; in_class = h.in_class; outcome = λ t e. e; answer_is = answers; inner = h.inner; outer = h.outer }

    -- the scopes of the phases of names and types
    pub method_names : scopes.declare_params (names.in_method (class_scope p.classes k) (is_static m) (result_type p.classes m.result)) m.params ≡ refusing (is_static m) false (scope_at p (method_at p k m))
    method_names =
        params_scope p (is_static m) false (result_type p.classes m.result) (class_at p k (first_number p (is_static m))) m.params
        ∙ ap (λ o. viewed p (is_static m) false o (scope_at p (params_at p (class_at p k (first_number p (is_static m))) m.params))) (result_is m.result is.result)

    pub method_types : types.method_scope p.classes k (types.method_body p.classes m.modifiers m.result) m.params ≡ refusing (is_static m) (is_static m) (scope_at p (method_at p k m))
    method_types =
        params_scope p (is_static m) (is_static m) (types.type_of_result (types.outcome_of p.classes m.result)) (class_at p k (first_number p (is_static m))) m.params
        ∙ ap (λ o. viewed p (is_static m) (is_static m) o (scope_at p (params_at p (class_at p k (first_number p (is_static m))) m.params))) (outcome_is m.result is.result)

  -- ---- constructors

  module _ (k : ℕ) (l : k < length p.classes) (c : ClassTree) (d : ConstructorTree) (is : IsConstructor p k c d) (ls : List Ty) (lacks : Bool) where
    pub constructor_place : IsPlace p (context_with (constructor_body p.classes k d) ls) false lacks false (constructor_at p k d)
    constructor_place =
        let x = context_with (constructor_body p.classes k d) ls in
        let first : IsPlace p x false lacks false (class_at p k 1) = record {
          class = l;
          this = λ e. refl;
          in_static = λ e. e;
          in_class = refl;
          outcome = λ t e. absurd (let z : ⊥ = cc in z);
          answer_is = λ e g. absurd (false≢true e);
          inner = tt;
          outer = tt;
        } in
        place_params p x false lacks false (class_at p k 1) d.params first
        (params_written (class_scope p.classes k) refl d.params (body_params (class_scope p.classes k) d.params d.base d.clauses d.body is.names))
        (params_there (param_env p.classes k false d.params) (env_of p faultless k false d.params) false (class_type (class_number k) true) ls d.params)

    pub constructor_names : param_scope p.classes k d.params ≡ refusing false false (scope_at p (constructor_at p k d))
    constructor_names = params_scope p false false None (class_at p k 1) d.params ∙ ap (λ o. viewed p false false o (scope_at p (constructor_at p k d))) (sym (params_outcome (class_at p k 1) d.params))
