-- The statements of each body of a source without faults fit.
use Rattle.std.proofs.Common.{◌≡◌, ℕ, zero, suc, ◌+◌, ◌<◌, List, [], ◌∷◌, ◌++◌, length, map, Bool, true, false, Option, Some, None, refl, sym, ◌∙◌, ap, subst, arith, length-append}
use Rattle.std.specs.Prelude.{◌&&◌, ◌||◌, not, slice_get, is_some, is_none, option_map, option_and_then, if◌then◌else◌}
use Rattle.std.proofs.lemmas.Bool.{false≢true}
use Rattle.std.proofs.lemmas.Option.{same_Some, slice_get_within, slice_get-map}
use Rattle.std.proofs.lemmas.List.{length-map}
use Rattle.ss_core.specs.declared.names.Place.{Place}
use Rattle.ss_core.specs.declared.names.Ty.{Ty}
use Rattle.ss_core.specs.Tree as core
use Rattle.ss_core.specs.Chain.{is_type}
use Rattle.ss_ast.specs.Expressions.{TypeTree}
use Rattle.ss_ast.specs.Expressions as text
use Rattle.ss_ast.specs.Statements as written
use Rattle.ss_ast.specs.Programs.{ParamTree, BaseCallTree, ClassTree, ProgramTree}
use Rattle.ss_tables.specs.Members.{MethodTree, ConstructorTree, is_static, constructors_in}
use Rattle.ss_tables.specs.Classes.{class_number}
use Rattle.ss_tables.specs.Scopes.{class_scope, param_scope}
use Rattle.ss_tables.specs.Scopes as scopes
use Rattle.ss_tables.specs.Statics.{result_type, count}
use Rattle.ss_typed.specs.Tree.{BaseTree, BodyTree, StmtTrees, TypedTree}
use Rattle.ss_typed.specs.Tree as typed
use Rattle.ss_typed.specs.Types.{class_type}
use Rattle.ss_owners_rules.specs.Words.{NoWord, misplaced_each, misplaced_in}
use Rattle.ss_owners_rules.specs.Program.{misplaced_base, ownership_faults}
use Rattle.ss_resolver_names_rules.specs.Expressions.{expr_faults, arguments_faults}
use Rattle.ss_resolver_names_rules.specs.Statements.{faults_of_all}
use Rattle.ss_resolver_names_rules.specs.Statements as naming_in
use Rattle.ss_resolver_names_rules.specs.Members as naming
use Rattle.ss_resolver_names_rules.specs.Programs.{program_faults}
use Rattle.ss_resolver_types_heads.specs.Calls.{ExprContext, Taking, base_wants, takes_nothing, argument_wants, is_wrong_call, whole_call}
use Rattle.ss_resolver_types_heads.specs.Wants.{Want}
use Rattle.ss_resolver_types_heads.specs.Expressions.{argument_faults}
use Rattle.ss_resolver_types_expressions.specs.Statements.{Nothing, in_code}
use Rattle.ss_resolver_types_expressions.specs.Statements as typing_in
use Rattle.ss_resolver_types_expressions.specs.Members as typing
use Rattle.ss_resolver_types_expressions.specs.Programs.{type_faults}
use Rattle.ss_resolver_types_expressions.specs.Programs as phases
use Rattle.ss_resolver_rules.specs.Numbers.{type_id}
use Rattle.ss_resolver_rules.specs.Names.{Env}
use Rattle.ss_resolver_rules.specs.Expressions.{expr, args}
use Rattle.ss_resolver_rules.specs.Statements.{Declared, declared_in_block, block, local}
use Rattle.ss_resolver_rules.specs.Programs.{param, param_env, method_env, locals, base_of, method_body, constructor_body, written_constructor, resolved}
use Rattle.ss_expand_rules.specs.Program.{above_of}
use Rattle.ss_typed.specs.Lookups.{body_at, constructor_in, constructor_of, param_types_in}
use Rattle.ss_expand_rules.specs.Constructors.{implicit_constructor}
use Rattle.ss_typed.specs.Shapes.{in_block, has_base}
use Rattle.ss_expand_rules.specs.Contracts.{first_param}
use Rattle.ss_expand_rules.specs.Bodies.{statements}
use Rattle.ss_expand_formed.specs.Laws.{core_of}
use Rattle.ss_expand_formed.proofs.Facts.{none_left, not_false}
use Rattle.ss_expand_formed.proofs.ChainLaw.{type_known}
use Rattle.ss_expand_formed.proofs.Searching.{at_back}
use Rattle.ss_expand_formed.proofs.TypesKnown.{env_of}
use Rattle.ss_expand_formed.proofs.Places.{members_at as members_there, constructor_at as constructor_there}
use Rattle.ss_expand_formed.proofs.Fit.{Context}
use Rattle.ss_expand_formed.proofs.ExpressionsScopes.{no_fault}
use Rattle.ss_expand_formed.proofs.Classes.{type_there}
use Rattle.ss_expand_formed.proofs.ExpressionsPlaces.{At, env_at, IsKnown, IsPlace}
use Rattle.ss_expand_formed.proofs.Environments.{with_at, params_at, class_at, first_number, constructor_at, method_at, method_env_is, constructor_env, this_in, param_types, context_of}
use Rattle.ss_expand_formed.proofs.ExpressionsBodies.{IsMethod, IsConstructor, IsFrom, AMethod, AConstructor, body_from}
use Rattle.ss_expand_formed.proofs.BodyPlaces.{body_known, class_numbered, method_place, method_names, method_types, constructor_place, constructor_names}
use Rattle.ss_expand_formed.proofs.Fits.{FitArguments, FitBlock}
use Rattle.ss_expand_formed.proofs.StatementsBodies.{InBody, method_in}
use Rattle.ss_expand_formed.proofs.StatementsBodies.{constructor_in as constructor_stands}
use Rattle.ss_expand_formed.proofs.Given.{named_at, code_at, Stands, base_given}
use Rattle.ss_expand_formed.proofs.FitsDeclared.{Placed}
use Rattle.ss_expand_formed.proofs.FitsStatements.{Returns, block_fits}
use Rattle.ss_expand_formed.proofs.Owned.{worded}
use Rattle.ss_expand_formed.proofs.FitsFields.{initializers_fit}
use Rattle.ss_expand_formed.proofs.Outer.{block_calls_none, constructor_block_fits}

-- ---- the numbers of locals

front_length : (b : BodyTree) → length (this_in b ++ param_types b) ≡ first_param b + length b.params
front_length b =
    let whole = length-append (this_in b) (param_types b) in
    let params : length (param_types b) ≡ length b.params = length-map b.params (λ (q : typed.ParamTree). q.ty) in
    let this = by b.flags.is_static in
    omega arith
  where
    by : (s : Bool) → length (if s then [] else class_type b.class true ∷ []) ≡ (if s then 0 else 1)
    by true = refl
    by false = refl

module _ (p : ProgramTree) where
  params_next : (a : At) (ps : List ParamTree) → (params_at p a ps).next ≡ a.next + length ps
  params_next a [] = omega arith
  params_next a (q ∷ ps) = let rest = params_next (with_at p true a q.ty q.name.text) ps in omega arith

  params_bound : (a : At) (ps : List ParamTree) → (params_at p a ps).bound ≡ a.bound
  params_bound a [] = refl
  params_bound a (q ∷ ps) = params_bound (with_at p true a q.ty q.name.text) ps

  placed_from : (x : Context) (n : ℕ) (ds : List Declared) → ((i : ℕ) (d : Declared) → slice_get ds i ≡ Some d → slice_get x.locals (n + i) ≡ Some (type_id p.classes d.ty)) → Placed p x n ds
  placed_from x n [] h = tt
  placed_from x n (d ∷ ds) h =
      let z : n + 0 ≡ n = omega arith in
      (subst (λ m. slice_get x.locals m ≡ Some (type_id p.classes d.ty)) z (h 0 d refl), placed_from x (n + 1) ds (λ i e g. let s : n + 1 + i ≡ n + suc i = omega arith in rw s (h (suc i) e g)))

  -- the declared locals stand after the parameters
  locals_placed : (b : BodyTree) (e : Env) → e.scope.classes ≡ p.classes → (c : written.BlockTree) → b.locals ≡ locals e c → (n : ℕ) → n ≡ first_param b + length b.params → Placed p (context_of b) n (declared_in_block c)
  locals_placed b e same c is n number =
      let front = this_in b ++ param_types b in
      placed_from (context_of b) n (declared_in_block c) (λ i d h.
      let length_is = front_length b in
      let at : n + i ≡ length front + i = omega arith in
      ap (slice_get (context_of b).locals) at ∙ at_back front (map (λ (l : core.LocalTree). l.ty) b.locals) i
      ∙ slice_get-map (λ (l : core.LocalTree). l.ty) b.locals i
      ∙ ap (λ ls. option_map (λ (l : core.LocalTree). l.ty) (slice_get ls i)) is
      ∙ ap (option_map (λ (l : core.LocalTree). l.ty)) (slice_get-map (local e) (declared_in_block c) i ∙ ap (option_map (local e)) h)
      ∙ ap (λ cs. Some (type_id cs d.ty)) same)

-- ---- bodies

module _ (p : ProgramTree) (faultless : program_faults p ≡ []) (typed_well : type_faults p ≡ []) (owned : ownership_faults (resolved p) ≡ []) where
  abbrev C : List core.ClassTree
  C = (core_of p).classes

  abbrev P : TypedTree
  P = resolved p

  abbrev first : BodyTree → ℕ
  first b = first_param b + length b.params

  -- ---- methods

  returned : (r : Option TypeTree) → naming.written_type_faults p.classes r ≡ [] → Returns (typing.outcome_of p.classes r) (option_map (type_id p.classes) r)
  returned None h = tt
  returned (Some t) h = type_there p faultless t (type_known p faultless t h)

  abbrev MethodFits : BodyTree → Type 0
  MethodFits b = FitBlock P C (context_of b) b.flags.ctor (first b) b.block

  method_fits : (n k : ℕ) (c : ClassTree) → slice_get p.classes k ≡ Some c → (m : MethodTree) → IsMethod p k m → body_at P n ≡ Some (method_body p.classes k m) → MethodFits (method_body p.classes k m)
  method_fits n k c at m is there =
      let b = method_body p.classes k m in
      let x = context_of b in
      let l = slice_get_within p.classes k c at in
      let known = body_known p faultless n b there (class_numbered p faultless k l) in
      let ls = map (λ (l : core.LocalTree). l.ty) b.locals in
      let place : IsPlace p x (is_static m) false false (method_at p k m) = method_place p faultless k l m is ls false false (λ e g. absurd (false≢true e)) in
      let next = params_next p (class_at p k (first_number p (is_static m))) m.params in
      let size : length b.params ≡ length m.params = length-map m.params (param (method_env p.classes k m)) in
      let number : (method_at p k m).next ≡ first b = omega arith in
      let here : Stands p faultless x known (is_static m) false (first b) (method_at p k m) = record {
        place = place;
        unbound = params_bound p (class_at p k (first_number p (is_static m))) m.params;
        behind = omega arith;
      } in
      let names_in = scopes.declare_params (naming.in_method (class_scope p.classes k) (is_static m) (result_type p.classes m.result)) m.params in
      let named : naming_in.block_faults names_in m.body ≡ [] = (none_left (naming.params_faults (naming.in_method (class_scope p.classes k) (is_static m) (result_type p.classes m.result)) m.params ++ [] ++ naming.clauses_faults names_in m.clauses) _ is.names).1 in
      let body = typing.method_body p.classes m.modifiers m.result in
      let types_in = typing.method_scope p.classes k body m.params in
      let typed_so = (none_left (typing.result_faults m.result ++ typing.params_faults m.params ++ typing.clauses_faults body types_in m.clauses ++ typing_in.block_faults body types_in m.body) _ is.types).0 in
      let well : typing_in.block_faults body types_in m.body ≡ [] = (none_left (typing.result_faults m.result ++ typing.params_faults m.params ++ typing.clauses_faults body types_in m.clauses) _ typed_so).1 in
      let words : misplaced_in (block (env_at p (method_at p k m)) m.body) ≡ [] = subst (λ e. misplaced_in (block e m.body) ≡ []) (method_env_is p k m) (worded P owned n b there).block in
      let placed : Placed p x (method_at p k m).next (declared_in_block m.body) = locals_placed p b (method_env p.classes k m) (env_of p faultless k (is_static m) m.params) m.body refl (method_at p k m).next number in
      let fits = block_fits p faultless x known (is_static m) false (first b) (typing.outcome_of p.classes m.result) (returned m.result is.result) (method_at p k m) here m.body placed
      (subst (λ s. naming_in.block_faults s m.body ≡ []) (method_names p faultless k l m is ls false false (λ e g. absurd (false≢true e))) named)
      (subst (λ s. typing_in.block_faults body s m.body ≡ []) (method_types p faultless k l m is ls false false (λ e g. absurd (false≢true e))) well) words in
      subst (λ e. FitBlock P C x false (first b) (block e m.body)) (sym (method_env_is p k m)) fits

  -- ---- constructors

  args_of_list : (e : Env) (es : List text.ExprTree) → args e (text.arguments es) ≡ typed.arguments (map (expr e) es)
  args_of_list e [] = refl
  args_of_list e (y ∷ es) = ap (typed.Argument (expr e y)) (args_of_list e es)

  all_named : (s : scopes.Scope) (es : List text.ExprTree) → faults_of_all s es ≡ [] → arguments_faults s None (text.arguments es) ≡ []
  all_named s [] h = refl
  all_named s (y ∷ es) h = let both = none_left (expr_faults s y) _ h in rw both.0 (all_named s es both.1)

  -- where nothing is taken, nothing is given
  none_taken : (ws : List Want) → takes_nothing ws ≡ true → is_wrong_call 0 (Taking ws) ≡ false
  none_taken [] h = refl
  none_taken (w ∷ ws) h = absurd (false≢true h)

  none_given : (a : ExprContext) (ws : List Want) → argument_faults a ws text.NoMore ≡ []
  none_given a [] = refl
  none_given a (w ∷ ws) = refl

  not_taken : (given takes : Bool) → given ≡ false → (not given && not takes) ≡ false → takes ≡ true
  not_taken true takes e h = absurd (false≢true (sym e))
  not_taken false takes e h = not_false takes h

  implied : (k : ℕ) (given : Bool) (q : Place) → given ≡ false → typing.implied_base p.classes k given q ≡ [] → takes_nothing (base_wants p.classes k) ≡ true
  implied k given q e h = not_taken given (takes_nothing (base_wants p.classes k)) e (no_fault _ _ h)

  class_place : (k : ℕ) → k < length p.classes → (b : BodyTree) → b.flags.is_static ≡ false → b.class ≡ class_number k → IsPlace p (context_of b) false false false (class_at p k 1)
  class_place k l b static class = record {
    class = l;
    this = λ e. this_first b.flags.is_static static ∙ ap (λ t. Some (class_type t true)) class;
    in_static = λ e. static;
    in_class = class;
    outcome = λ t e. absurd (let z : ⊥ = cc in z);
    answer_is = λ e g. absurd (false≢true e);
    inner = tt;
    outer = tt;
  }
    where
      this_first : (s : Bool) → s ≡ false → slice_get ((if s then [] else class_type b.class true ∷ []) ++ param_types b ++ map (λ (l : core.LocalTree). l.ty) b.locals) 0 ≡ Some (class_type b.class true)
      this_first true e = absurd (false≢true (sym e))
      this_first false e = refl

  module _ (n k : ℕ) (c : ClassTree) (at : slice_get p.classes k ≡ Some c) (d : ConstructorTree) (is : IsConstructor p k c d) (there : body_at P n ≡ Some (constructor_body p.classes k d)) where
    abbrev b : BodyTree
    b = constructor_body p.classes k d

    abbrev x : Context
    x = context_of b

    abbrev a : At
    a = constructor_at p k d

    abbrev ls : List Ty
    ls = map (λ (l : core.LocalTree). l.ty) b.locals

    l : k < length p.classes
    l = slice_get_within p.classes k c at

    known : IsKnown p x
    known = body_known p faultless n b there (class_numbered p faultless k l)

    number : a.next ≡ first b
    number =
        let next = params_next p (class_at p k 1) d.params in
        let size : length b.params ≡ length d.params = length-map d.params (param (param_env p.classes k false d.params)) in
        omega arith

    here : Stands p faultless x known false true (first b) a
    here = let same = number in record { place = constructor_place p faultless k l c d is ls false; unbound = params_bound p (class_at p k 1) d.params; behind = omega arith }

    abbrev S : scopes.Scope
    S = param_scope p.classes k d.params

    scope_is : S ≡ named_at p x false a
    scope_is = constructor_names p faultless k l c d is ls false

    record AreTyped : Type 0 where
      base : typing.written_base k (named_at p x false a) d.base ≡ []
      implied : typing.implied_base p.classes k (is_some d.base || typing.block_calls_base d.body) d.name.place ≡ []
      block : typing.constructor_block k (named_at p x false a) (is_none d.base) d.body ≡ []

    typings : AreTyped
    typings =
        let front = typing.title_faults c d.name ++ typing.params_faults d.params ++ typing.written_base k S d.base ++ typing.implied_base p.classes k (is_some d.base || typing.block_calls_base d.body) d.name.place in
        let all = none_left (front ++ typing.clauses_faults typing.constructor_body S d.clauses) (typing.constructor_block k S (is_none d.base) d.body) is.types in
        let most = none_left front _ all.0 in
        let more = none_left (typing.title_faults c d.name ++ typing.params_faults d.params ++ typing.written_base k S d.base) _ most.0 in
        let some = none_left (typing.title_faults c d.name ++ typing.params_faults d.params) _ more.0 in
        record {
          base = subst (λ s. typing.written_base k s d.base ≡ []) scope_is some.1;
          implied = more.1;
          block = subst (λ s. typing.constructor_block k s (is_none d.base) d.body ≡ []) scope_is all.1;
        }

    record AreNamed : Type 0 where
      base : naming.base_faults (named_at p x false a) d.base ≡ []
      block : naming_in.block_faults (named_at p x false a) d.body ≡ []

    named : AreNamed
    named =
        let all = none_left (naming.params_faults (class_scope p.classes k) d.params ++ naming.base_faults S d.base ++ naming.clauses_faults S d.clauses) (naming_in.block_faults S d.body) is.names in
        let most = none_left (naming.params_faults (class_scope p.classes k) d.params ++ naming.base_faults S d.base) _ all.0 in
        record {
          base = subst (λ s. naming.base_faults s d.base ≡ []) scope_is (none_left (naming.params_faults (class_scope p.classes k) d.params) _ most.0).1;
          block = subst (λ s. naming_in.block_faults s d.body ≡ []) scope_is all.1;
        }

    env_is : param_env p.classes k false d.params ≡ env_at p a
    env_is = constructor_env p k d

    abbrev Given : typed.Arguments → Type 0
    Given es = FitArguments P C x true (first b) es (param_types_in (constructor_of P (above_of P b.class)))

    written_given : (base : Option BaseCallTree) → typing.written_base k (named_at p x false a) base ≡ [] → naming.base_faults (named_at p x false a) base ≡ [] → misplaced_base (option_map (base_of (param_env p.classes k false d.params)) base) ≡ [] →
        (y : BaseTree) → option_map (base_of (param_env p.classes k false d.params)) base ≡ Some y → Given y.arguments
    written_given None types names words y e = absurd (let z : ⊥ = cc in z)
    written_given (Some q) types names words y e =
        let es = text.arguments q.arguments in
        let ts = none_left (whole_call q.place (count es) (Taking (base_wants p.classes k))) _ types in
        let tree : args (env_at p a) es ≡ typed.arguments (map (expr (param_env p.classes k false d.params)) q.arguments) = args_of_list (env_at p a) q.arguments ∙ ap (λ v. typed.arguments (map (expr v) q.arguments)) (sym env_is) in
        let worded : misplaced_each NoWord (args (env_at p a) es) ≡ [] = ap (misplaced_each NoWord) tree ∙ words in
        let given = base_given p faultless x known true (first b) k refl a here es (all_named (named_at p x false a) q.arguments names) (no_fault _ _ ts.0) ts.1 worded in
        subst (λ (z : BaseTree). Given z.arguments) (same_Some _ _ e) (subst Given tree given)

    implied_given : (base : Option BaseCallTree) → typing.implied_base p.classes k (is_some base || typing.block_calls_base d.body) d.name.place ≡ [] → option_map (base_of (param_env p.classes k false d.params)) base ≡ None → has_base (in_block b.block) ≡ false → Given typed.Arguments.NoMore
    implied_given (Some q) types e none = absurd (let z : ⊥ = cc in z)
    implied_given None types e none =
        let takes = implied k (typing.block_calls_base d.body) d.name.place (block_calls_none (param_env p.classes k false d.params) d.body none) types in
        base_given p faultless x known true (first b) k refl a here text.NoMore refl (none_taken (base_wants p.classes k) takes) (none_given (code_at p x false a) (argument_wants 0 (Taking (base_wants p.classes k)))) refl

    -- the statements of a constructor
    pub constructor_fits : InBody P C b (statements P b)
    constructor_fits =
        let words = worded P owned n b there in
        let own = initializers_fit p faultless typed_well owned k c at x known true (first b) refl (class_place k l b refl refl) in
        let placed : Placed p x a.next (declared_in_block d.body) = locals_placed p b (param_env p.classes k false d.params) (env_of p faultless k false d.params) d.body refl a.next number in
        let inner = constructor_block_fits p faultless x known (first b) tt k refl a here d.body placed named.block (is_none d.base) typings.block (subst (λ e. misplaced_in (block e d.body) ≡ []) env_is words.block) in
        let whole : FitBlock P C x true (first b) b.block = subst (λ e. FitBlock P C x true (first b) (block e d.body)) (sym env_is) inner in
        constructor_stands P C b refl own (written_given d.base typings.base named.base words.base) (implied_given d.base typings.implied) whole

  -- ---- implicit constructors

  class_types : (j : ℕ) (cs : List ClassTree) (i : ℕ) (c : ClassTree) → phases.classes_faults p.classes j cs ≡ [] → slice_get cs i ≡ Some c → phases.class_faults p.classes (j + i) c ≡ []
  class_types j [] i c h e = absurd (let z : ⊥ = cc in z)
  class_types j (d ∷ cs) zero c h e =
      let z : j + 0 ≡ j = omega arith in
      rw z (ap (phases.class_faults p.classes j) (sym (same_Some _ _ e)) ∙ (none_left (phases.class_faults p.classes j d) _ h).0)
  class_types j (d ∷ cs) (suc i) c h e =
      let s : j + suc i ≡ j + 1 + i = omega arith in
      rw s (class_types (j + 1) cs i c (none_left (phases.class_faults p.classes j d) _ h).1 e)

  -- a class without a constructor in the resolved program writes none
  pub none_written : (k : ℕ) (c : ClassTree) → slice_get p.classes k ≡ Some c → constructor_of P (class_number k) ≡ None → constructors_in c.members ≡ []
  none_written k c at none = by (constructors_in c.members) refl
    where
      by : (ds : List ConstructorTree) → constructors_in c.members ≡ ds → ds ≡ []
      by [] e = refl
      by (d ∷ ds) e =
          let found : constructor_of P (class_number k) ≡ Some (constructor_body p.classes k d) =
          ap (constructor_in P) (members_there p k c at) ∙ ap (λ xs. option_and_then (body_at P) (written_constructor p.classes k xs)) e ∙ constructor_there p k c at d ds e in
          absurd (let bad : None ≡ Some (constructor_body p.classes k d) = sym none ∙ found in let z : ⊥ = cc in z)

  module _ (k : ℕ) (c : ClassTree) (at : slice_get p.classes k ≡ Some c) (none : constructors_in c.members ≡ []) (name : List ℕ) (q : Place) where
    abbrev implicit : BodyTree
    implicit = implicit_constructor (class_number k) name q

    within : k < length p.classes
    within = slice_get_within p.classes k c at

    implicit_known : IsKnown p (context_of implicit)
    implicit_known = record { locals = by; result = λ t e. absurd (let z : ⊥ = cc in z) }
      where
        by : (y : ℕ) (t : Ty) → slice_get (context_of implicit).locals y ≡ Some t → is_type C t ≡ true
        by zero t e = subst (λ u. is_type C u ≡ true) (same_Some _ _ e) (class_numbered p faultless k within)
        by (suc y) t e = absurd (let z : ⊥ = cc in z)

    -- the statements of an implicit constructor
    pub implicit_fits : InBody P C implicit (statements P implicit)
    implicit_fits =
        let x = context_of implicit in
        let known = implicit_known in
        let place = class_place k within implicit refl refl in
        let here : Stands p faultless x known false true (first implicit) (class_at p k 1) = record { place = place; unbound = refl; behind = omega arith } in
        let z : 0 + k ≡ k = omega arith in
        let faults : phases.class_faults p.classes k c ≡ [] = subst (λ i. phases.class_faults p.classes i c ≡ []) z (class_types 0 p.classes k c typed_well at) in
        let takes = implied k (phases.has_constructor (constructors_in c.members)) c.name.place (ap phases.has_constructor none) (none_left (phases.members_faults p.classes k c c.members) _ faults).1 in
        let given = base_given p faultless x known true (first implicit) k refl (class_at p k 1) here text.NoMore refl (none_taken (base_wants p.classes k) takes) (none_given (code_at p x false (class_at p k 1)) (argument_wants 0 (Taking (base_wants p.classes k)))) refl in
        let own = initializers_fit p faultless typed_well owned k c at x known true (first implicit) refl place in
        constructor_stands P C implicit refl own (λ y e. absurd (let w : ⊥ = cc in w)) (λ e n. given) tt

  -- ---- all written bodies

  -- the statements of each written body fit
  pub each_fits : (n : ℕ) (b : BodyTree) → body_at P n ≡ Some b → InBody P C b (statements P b)
  each_fits n b there = by b (body_from p faultless typed_well n b there) there
    where
      by : (y : BodyTree) → IsFrom p y → body_at P n ≡ Some y → InBody P C y (statements P y)
      by y (AMethod {k = k} {c = c} {m = m} at is) h = method_in P C (method_body p.classes k m) refl (method_fits n k c at m is h)
      by y (AConstructor {k = k} {c = c} {d = d} at is) h = constructor_fits n k c at d is h
