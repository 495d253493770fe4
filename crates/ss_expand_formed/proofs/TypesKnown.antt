-- The types of parameters and results are of the table.
use Rattle.std.proofs.Common.{◌≡◌, ℕ, suc, ◌+◌, List, [], ◌∷◌, ◌++◌, map, Bool, true, false, Option, Some, None, refl, ◌∙◌, ap, subst, arith}
use Rattle.std.specs.Prelude.{if◌then◌else◌, ◌&&◌, slice_get, option_map, option_to_list}
use Rattle.std.specs.List.{list_all}
use Rattle.std.proofs.lemmas.Bool.{and_parts}
use Rattle.std.proofs.lemmas.List.{map-append}
use Rattle.std.proofs.lemmas.List.Folds.{list_all-append}
use Rattle.ss_core.specs.declared.names.Ty.{Ty}
use Rattle.ss_core.specs.Tree as core
use Rattle.ss_core.specs.Chain.{is_type}
use Rattle.ss_ast.specs.declared.class.Modifier.{Modifier}
use Rattle.ss_ast.specs.Expressions.{NameTree, TypeTree}
use Rattle.ss_ast.specs.Statements.{BlockTree}
use Rattle.ss_ast.specs.Programs as written
use Rattle.ss_ast.specs.Programs.{MemberKindTree, FieldsOf, InvariantOf, MethodOf, ConstructorOf, MemberTree, ClassTree, ProgramTree}
use Rattle.ss_tables.specs.Members.{MethodTree, methods_of_kind, constructors_of_kind, methods_in, constructors_in, is_static_word, word_of, is_static}
use Rattle.ss_tables.specs.Types.{written_type}
use Rattle.ss_tables.specs.Scopes.{Scope, class_scope, declare}
use Rattle.ss_tables.specs.Scopes as scopes
use Rattle.ss_tables.specs.Statics.{result_type}
use Rattle.ss_typed.specs.Tree.{ParamTree, BodyTree}
use Rattle.ss_resolver_names_rules.specs.Faults.{type_faults, twice_in}
use Rattle.ss_resolver_names_rules.specs.Statements.{block_faults}
use Rattle.ss_resolver_names_rules.specs.Members.{params_faults, clauses_faults, written_type_faults, base_faults, in_method, body_faults, kind_faults, members_faults}
use Rattle.ss_resolver_names_rules.specs.Programs.{program_faults}
use Rattle.ss_resolver_rules.specs.Names.{Env, class_env, declare_param, declare_params}
use Rattle.ss_resolver_rules.specs.Numbers.{type_id}
use Rattle.ss_resolver_rules.specs.Programs.{param, param_env, method_env, method_body, constructor_body, bodies_of, bodies_from, resolved}
use Rattle.ss_expand_rules.specs.Program.{table, Origin}
use Rattle.ss_expand_rules.specs.Bodies.{param_of}
use Rattle.ss_store_rules.specs.Locals.{types_of}
use Rattle.ss_store_rules.specs.Typed.{are_declared}
use Rattle.ss_expand_formed.specs.Laws.{core_of, HaveResultTypes, HaveParamTypes}
use Rattle.ss_expand_formed.proofs.Facts.{none_left, all_at}
use Rattle.ss_expand_formed.proofs.Bodies.{IsMade, WrittenConstructor, ImplicitConstructor, WrittenMethod, Wrapper, origin_of}
use Rattle.ss_expand_formed.proofs.Resolved.{method_is}
use Rattle.ss_expand_formed.proofs.ChainLaw.{none_at, type_known}

-- ---- environments

env_classes : (e : Env) (ps : List written.ParamTree) → (declare_params e ps).scope.classes ≡ e.scope.classes
env_classes e [] = refl
env_classes e (q ∷ ps) = env_classes (declare_param e q) ps

params_faultless : (s : Scope) (ps : List written.ParamTree) (base : Option written.BaseCallTree) (cs : List written.ClauseTree) (b : BlockTree) → body_faults s ps base cs b ≡ [] → params_faults s ps ≡ []
params_faultless s ps base cs b h =
    let inside = scopes.declare_params s ps in
    let two = none_left (params_faults s ps ++ base_faults inside base ++ clauses_faults inside cs) (block_faults inside b) h in
    let one = none_left (params_faults s ps ++ base_faults inside base) (clauses_faults inside cs) two.0 in
    (none_left (params_faults s ps) (base_faults inside base) one.0).0

-- what holds of the bodies of each class holds of all
pub classes_pass : (test : BodyTree → Bool) (all : List ClassTree) (j : ℕ) (cs : List ClassTree) → ((i : ℕ) (c : ClassTree) → slice_get cs i ≡ Some c → list_all test (bodies_of all (j + i) c) ≡ true) → list_all test (bodies_from all j cs) ≡ true
classes_pass test all j [] h = refl
classes_pass test all j (c ∷ cs) h =
    let z : j + 0 ≡ j = omega arith in
    let here : list_all test (bodies_of all j c) ≡ true = subst (λ k. list_all test (bodies_of all k c) ≡ true) z (h 0 c refl) in
    let rest = classes_pass test all (j + 1) cs (λ i x e. let s : j + 1 + i ≡ j + suc i = omega arith in rw s (h (suc i) x e)) in
    list_all-append test (bodies_of all j c) (bodies_from all (j + 1) cs) ∙ rw (here, rest) refl

module _ (p : ProgramTree) (faultless : program_faults p ≡ []) where
  abbrev pub known : Ty → Bool
  known t = is_type (core_of p).classes t

  abbrev pub are_known : BodyTree → Bool
  are_known b = list_all known (option_to_list b.result) && list_all (λ (q : ParamTree). known q.ty) b.params

  params_known : (s : Scope) → s.classes ≡ p.classes → (e : Env) → e.scope.classes ≡ p.classes → (ps : List written.ParamTree) → params_faults s ps ≡ [] → list_all (λ (q : ParamTree). known q.ty) (map (param e) ps) ≡ true
  params_known s same e also [] h = refl
  params_known s same e also (q ∷ ps) h =
      let next = declare s q.name.text (record { ty = written_type s.classes q.ty; is_param = true }) in
      let both = none_left (type_faults s.classes q.ty ++ twice_in s.inner q.name) (params_faults next ps) h in
      let first = none_left (type_faults s.classes q.ty) (twice_in s.inner q.name) both.0 in
      let it : known (type_id e.scope.classes q.ty) ≡ true = ap (λ cs. known (type_id cs q.ty)) also ∙ type_known p faultless q.ty (subst (λ cs. type_faults cs q.ty ≡ []) same first.0) in
      rw (it, params_known next same e also ps both.1) refl

  pub env_of : (k : ℕ) (static : Bool) (ps : List written.ParamTree) → (param_env p.classes k static ps).scope.classes ≡ p.classes
  env_of k static ps = env_classes (record (class_env p.classes k) { next = if static then 0 else 1 }) ps

  result_known : (r : Option TypeTree) → written_type_faults p.classes r ≡ [] → list_all known (option_to_list (option_map (type_id p.classes) r)) ≡ true
  result_known None h = refl
  result_known (Some t) h = rw (type_known p faultless t h) refl

  method_known : (k : ℕ) (attributes : List NameTree) (words : List Modifier) (kind : MemberKindTree) → kind_faults (class_scope p.classes k) words kind ≡ [] → list_all are_known (map (method_body p.classes k) (methods_of_kind attributes words kind)) ≡ true
  method_known k attributes words (FieldsOf d) h = refl
  method_known k attributes words (InvariantOf e) h = refl
  method_known k attributes words (ConstructorOf n ps base cs b) h = refl
  method_known k attributes words (MethodOf r n ps cs b) h =
      let s = in_method (class_scope p.classes k) (is_static_word (word_of words)) (result_type p.classes r) in
      let m : MethodTree = record { attributes = attributes; modifiers = words; result = r; name = n; params = ps; clauses = cs; body = b } in
      let both = none_left (written_type_faults p.classes r) (body_faults s ps None cs b) h in
      rw (result_known r both.0, params_known s refl (method_env p.classes k m) (env_of k (is_static m) ps) ps (params_faultless s ps None cs b both.1)) refl

  constructor_known : (k : ℕ) (attributes : List NameTree) (words : List Modifier) (kind : MemberKindTree) → kind_faults (class_scope p.classes k) words kind ≡ [] → list_all are_known (map (constructor_body p.classes k) (constructors_of_kind attributes kind)) ≡ true
  constructor_known k attributes words (FieldsOf d) h = refl
  constructor_known k attributes words (InvariantOf e) h = refl
  constructor_known k attributes words (MethodOf r n ps cs b) h = refl
  constructor_known k attributes words (ConstructorOf n ps base cs b) h =
      let s = class_scope p.classes k in
      rw (params_known s refl (param_env p.classes k false ps) (env_of k false ps) ps (params_faultless s ps base cs b h)) refl

  methods_known : (k : ℕ) (ms : List MemberTree) → members_faults (class_scope p.classes k) ms ≡ [] → list_all are_known (map (method_body p.classes k) (methods_in ms)) ≡ true
  methods_known k [] h = refl
  methods_known k (m ∷ ms) h =
      let both = none_left (kind_faults (class_scope p.classes k) m.modifiers m.kind) (members_faults (class_scope p.classes k) ms) h in
      ap (list_all are_known) (map-append (method_body p.classes k) (methods_of_kind m.attributes m.modifiers m.kind) (methods_in ms))
      ∙ list_all-append are_known (map (method_body p.classes k) (methods_of_kind m.attributes m.modifiers m.kind)) (map (method_body p.classes k) (methods_in ms))
      ∙ rw (method_known k m.attributes m.modifiers m.kind both.0, methods_known k ms both.1) refl

  constructors_known : (k : ℕ) (ms : List MemberTree) → members_faults (class_scope p.classes k) ms ≡ [] → list_all are_known (map (constructor_body p.classes k) (constructors_in ms)) ≡ true
  constructors_known k [] h = refl
  constructors_known k (m ∷ ms) h =
      let both = none_left (kind_faults (class_scope p.classes k) m.modifiers m.kind) (members_faults (class_scope p.classes k) ms) h in
      ap (list_all are_known) (map-append (constructor_body p.classes k) (constructors_of_kind m.attributes m.kind) (constructors_in ms))
      ∙ list_all-append are_known (map (constructor_body p.classes k) (constructors_of_kind m.attributes m.kind)) (map (constructor_body p.classes k) (constructors_in ms))
      ∙ rw (constructor_known k m.attributes m.modifiers m.kind both.0, constructors_known k ms both.1) refl

  class_known : (i : ℕ) (c : ClassTree) → slice_get p.classes i ≡ Some c → list_all are_known (bodies_of p.classes (0 + i) c) ≡ true
  class_known i c at =
      let z : 0 + i ≡ i = omega arith in
      let none = (none_at p faultless i c at).members in
      rw z (list_all-append are_known (map (constructor_body p.classes i) (constructors_in c.members)) (map (method_body p.classes i) (methods_in c.members))
      ∙ rw (constructors_known i c.members none, methods_known i c.members none) refl)

  pub all_known : list_all are_known (resolved p).bodies ≡ true
  all_known = classes_pass are_known p.classes 0 p.classes class_known

  -- ---- bodies of the elaboration

  params_stay : (qs : List ParamTree) → list_all (λ (q : ParamTree). known q.ty) qs ≡ true → are_declared (core_of p).classes (types_of (map param_of qs)) ≡ true
  params_stay [] h = refl
  params_stay (q ∷ qs) h = let both = and_parts (known q.ty) (list_all (λ (x : ParamTree). known x.ty) qs) h in rw (both.0, params_stay qs both.1) refl

  of_body : (b : BodyTree) → are_known b ≡ true → (are_declared (core_of p).classes (option_to_list b.result) ≡ true) × (are_declared (core_of p).classes (types_of (map param_of b.params)) ≡ true)
  of_body b h = let both = and_parts (list_all known (option_to_list b.result)) (list_all (λ (q : ParamTree). known q.ty) b.params) h in (both.0, params_stay b.params both.1)

  made_known : (o : Origin) (y : core.BodyTree) → IsMade (resolved p) o y → (are_declared (core_of p).classes (option_to_list y.result) ≡ true) × (are_declared (core_of p).classes (types_of y.params) ≡ true)
  made_known o y (WrittenConstructor {n = n} {b = b} eo em en eb) = of_body b (all_at are_known (resolved p).bodies n b all_known eb)
  made_known o y (ImplicitConstructor eo ec em none) = (refl, refl)
  made_known o y (WrittenMethod {t = t} {m = m} {b = b} eo eb own) = let at = method_is (resolved p) (slice_get (table (resolved p) t) m) b eb in of_body b (all_at are_known (resolved p).bodies at.0 b all_known at.1)
  made_known o y (Wrapper {t = t} {m = m} {b = b} eo eb own em) = let at = method_is (resolved p) (slice_get (table (resolved p) t) m) b eb in of_body b (all_at are_known (resolved p).bodies at.0 b all_known at.1)

pub have_result_types : (p : ProgramTree) → program_faults p ≡ [] → HaveResultTypes (core_of p)
have_result_types p faultless n y at = let from = origin_of (resolved p) n y at in (made_known p faultless from.origin y from.made).0

pub have_param_types : (p : ProgramTree) → program_faults p ≡ [] → HaveParamTypes (core_of p)
have_param_types p faultless n y at = let from = origin_of (resolved p) n y at in (made_known p faultless from.origin y from.made).1
