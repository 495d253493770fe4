-- Each body of an elaborated program reads what is assigned.
use Rattle.std.proofs.Common.{◌≡◌, ℕ, zero, suc, ◌+◌, ◌≤◌, List, [], ◌∷◌, ◌++◌, length, map, Bool, true, false, Option, Some, None, refl, sym, ◌∙◌, ap, subst, arith, ⊎_elim}
use Rattle.std.specs.Prelude.{◌&&◌, ◌||◌, not, is_some, is_none, nat_le, nat_lt, slice_get, unwrap_or, option_map, if◌then◌else◌}
use Rattle.std.specs.List.{list_all}
use Rattle.std.proofs.lemmas.Bool.{and_parts, and_from, or_left, or_right, cases_Bool, false≢true}
use Rattle.std.proofs.lemmas.Option.{same_Some}
use Rattle.std.proofs.lemmas.List.{length-map, map-append}
use Rattle.std.proofs.lemmas.List.Folds.{list_all-append}
use Rattle.ss_core.specs.declared.names.Place.{Place}
use Rattle.ss_core.specs.declared.names.Ty.{Ty}
use Rattle.ss_core.specs.declared.names.Ty.TheVariants as ty
use Rattle.ss_core.specs.Tree as core
use Rattle.ss_core.specs.Chain.{fields_of}
use Rattle.ss_ast.specs.declared.class.Modifier.{Modifier}
use Rattle.ss_ast.specs.Expressions.{NameTree, TypeTree, TypeNameTree, IntType, BoolType, ObjectType, ClassType}
use Rattle.ss_ast.specs.Expressions as text
use Rattle.ss_ast.specs.Programs as written
use Rattle.ss_ast.specs.Programs.{MemberKindTree, FieldsOf, InvariantOf, MethodOf, ConstructorOf, MemberTree, ClassTree, ProgramTree}
use Rattle.ss_tables.specs.Members.{MethodTree, ConstructorTree, methods_of_kind, methods_in, constructors_in, fields_in, is_static, is_static_word, word_of}
use Rattle.ss_tables.specs.Members as tables
use Rattle.ss_tables.specs.Classes.{class_named, class_number, array_number}
use Rattle.ss_tables.specs.Types.{reference, array_type, named_type}
use Rattle.ss_tables.specs.Scopes.{Scope, class_scope}
use Rattle.ss_tables.specs.Scopes as scopes
use Rattle.ss_tables.specs.Statics.{result_type}
use Rattle.ss_typed.specs.Tree.{ExprTree, BaseTree, MembersTree, BodyTree, TypedTree}
use Rattle.ss_typed.specs.Tree as typed
use Rattle.ss_owners_rules.specs.Words.{NoWord, misplaced_in_all, misplaced_if, misplaced_in, Questions, EveryWord}
use Rattle.ss_owners_rules.specs.Attributes.{on_body, on_field, bad_attributes}
use Rattle.ss_owners_rules.specs.Program.{misplaced_word, at, of_words, of_attributes, field_faults, fields_faults, invariants_faults, class_faults, classes_faults, params_faults, misplaced_modified, misplaced_base, misplaced_body, body_faults, bodies_faults, ownership_faults}
use Rattle.ss_resolver_names_rules.specs.Faults.{unless, unknown, type_name_faults}
use Rattle.ss_resolver_names_rules.specs.Members as names
use Rattle.ss_resolver_names_rules.specs.Statements as names_of
use Rattle.ss_resolver_names_rules.specs.Programs.{program_faults}
use Rattle.ss_resolver_types_expressions.specs.Statements as types
use Rattle.ss_resolver_types_expressions.specs.Members as members_of
use Rattle.ss_resolver_types_expressions.specs.Programs as types_of
use Rattle.ss_resolver_types_expressions.specs.Programs.{type_faults}
use Rattle.ss_resolver_rules.specs.Names.{Env, known, class_env, declare_param, declare_params}
use Rattle.ss_resolver_rules.specs.declared.known.Known.{Known}
use Rattle.ss_resolver_rules.specs.declared.known.Known.TheVariants.{Variable, BoundName}
use Rattle.ss_resolver_rules.specs.Numbers.{type_id}
use Rattle.ss_resolver_rules.specs.Expressions.{expr}
use Rattle.ss_resolver_rules.specs.Statements.{block}
use Rattle.ss_resolver_rules.specs.Programs.{param, param_env, result_env, method_env, method_body, base_of, constructor_body, bodies_of, field, class, field_member, members, each, resolved}
use Rattle.ss_expand_rules.specs.Program.{table, Origin}
use Rattle.ss_expand_rules.specs.Contracts.{declarations}
use Rattle.ss_expand_rules.specs.Constructors.{implicit_constructor}
use Rattle.ss_store_rules.specs.Assigned.{reads_what_is_assigned}
use Rattle.ss_expand_formed.specs.Laws.{core_of}
use Rattle.ss_expand_formed.proofs.Facts.{none_left, all_at}
use Rattle.ss_expand_formed.proofs.Bodies.{IsMade, WrittenConstructor, ImplicitConstructor, WrittenMethod, Wrapper, origin_of}
use Rattle.ss_expand_formed.proofs.ChainLaw.{none_at}
use Rattle.ss_expand_formed.proofs.Resolved.{bodies_pass, method_is}
use Rattle.ss_expand_formed.proofs.TypesKnown.{classes_pass}
use Rattle.ss_expand_formed.proofs.Resolving.{is_numbered, may_have, known_numbered, params_numbered}
use Rattle.ss_expand_formed.specs.Assigned.{ReadAssigned}
use Rattle.ss_expand_formed.proofs.AssignedReading.{May, read_all, may_read, block_reads}
use Rattle.ss_expand_formed.proofs.AssignedBodies.{in_class, base_read, members_read, arguments, own_of, is_read, written_reads, wrapper_reads}
use Rattle.ss_expand_formed.proofs.Strict.{strictly, all_strict, may_strict, block_strict}
use Rattle.ss_expand_formed.proofs.Scopes.{has, Scoped, expr_scoped, maybe_scoped, block_scoped}
use Rattle.ss_expand_formed.proofs.AssignedStatics.{quiet, Match}
use Rattle.ss_expand_formed.proofs.AssignedStatements.{params_match, block_quiet}

none_of : {A B : Type 0} (f : A → B) (xs : List A) → map f xs ≡ [] → xs ≡ []
none_of f [] h = refl
none_of f (x ∷ xs) h = absurd (let z : ⊥ = cc in z)

-- ---- what is in scope

-- with `this` and `result`
abbrev scope_of : BodyTree → May
scope_of b = record { this = true; result = true; locals = λ x. nat_lt x (arguments b) }

abbrev is_scoped : BodyTree → Bool
is_scoped b = (not b.flags.ctor || not b.flags.is_static) && (base_read (scope_of b) b.base && block_reads (own_of b) (scope_of b) b.block)

numbered_has : (low high n : ℕ) (f : ℕ → Bool) → high ≡ n → ((x : ℕ) → nat_lt x n ≡ true → f x ≡ true) → (m : May) → m.locals ≡ f → (k : Option Known) → may_have low high k ≡ true → has m k ≡ true
numbered_has low high n f same more m is None h = refl
numbered_has low high n f same more m is (Some (BoundName k)) h = refl
numbered_has low high n f same more m is (Some (Variable x t)) h =
    let below = (and_parts (nat_le low x) (nat_lt x high) h).1 in
    ap (λ g. g x) is ∙ more x (subst (λ z. nat_lt x z ≡ true) same below)

params_scoped : (low n : ℕ) (e0 : Env) (ps : List written.ParamTree) → is_numbered low e0 ≡ true → low ≤ e0.next → e0.next + length ps ≡ n → Scoped n (record { this = true; result = true; locals = λ x. nat_lt x n }) (declare_params e0 ps)
params_scoped low n e0 ps h l same =
    let r = params_numbered low e0 ps h l in
    let next = r.next in
    record {
      this = refl;
      result = refl;
      names = λ x. numbered_has low (declare_params e0 ps).next n (λ z. nat_lt z n) (next ∙ same) (λ z i. i) (record { this = true; result = true; locals = λ z. nat_lt z n }) refl (known (declare_params e0 ps) x) (known_numbered low (declare_params e0 ps) r.names x);
      above = omega arith;
    }

result_scoped : (n : ℕ) (m : May) (e : Env) (t : Option Ty) → Scoped n m e → Scoped n m (result_env e t)
result_scoped n m e t h = record { this = h.this; result = h.result; names = h.names; above = h.above }

given_scoped : (n : ℕ) (m : May) (e : Env) → Scoped n m e → (es : List text.ExprTree) → read_all m (typed.arguments (map (expr e) es)) ≡ true
given_scoped n m e h [] = refl
given_scoped n m e h (x ∷ es) = and_from _ _ (expr_scoped n m e h x) (given_scoped n m e h es)

base_scoped : (n : ℕ) (m : May) (e : Env) → Scoped n m e → (b : Option written.BaseCallTree) → base_read m (option_map (base_of e) b) ≡ true
base_scoped n m e h None = refl
base_scoped n m e h (Some b) = given_scoped n m e h b.arguments

method_scoped : (cs : List ClassTree) (k : ℕ) (m : MethodTree) → is_scoped (method_body cs k m) ≡ true
method_scoped cs k m =
    let first : ℕ = if is_static m then 0 else 1 in
    let e0 : Env = record (class_env cs k) { next = first } in
    let b = method_body cs k m in
    let e = method_env cs k m in
    let count = length-map m.params (param e) in
    let h = result_scoped (arguments b) (scope_of b) (declare_params e0 m.params) (option_map (type_id cs) m.result) (params_scoped first (arguments b) e0 m.params refl (omega arith) (omega arith)) in
    block_scoped (arguments b) (scope_of b) e h m.body

constructor_scoped : (cs : List ClassTree) (k : ℕ) (d : ConstructorTree) → is_scoped (constructor_body cs k d) ≡ true
constructor_scoped cs k d =
    let e0 : Env = record (class_env cs k) { next = 1 } in
    let b = constructor_body cs k d in
    let e = param_env cs k false d.params in
    let count = length-map d.params (param e) in
    let h = params_scoped 1 (arguments b) e0 d.params refl (omega arith) (omega arith) in
    and_from _ _ (base_scoped (arguments b) (scope_of b) e h d.base) (block_scoped (arguments b) (scope_of b) e h d.body)

all_scoped : (p : ProgramTree) → list_all is_scoped (resolved p).bodies ≡ true
all_scoped p = bodies_pass is_scoped p.classes (λ k d l. constructor_scoped p.classes k d) (λ k m l. method_scoped p.classes k m) 0 p.classes (omega arith)

-- ---- static methods

abbrev any : ℕ → Bool
any x = true

-- a static body reads nothing of `this`
abbrev is_hushed : BodyTree → Bool
is_hushed b = not b.flags.is_static || (is_none b.base && block_reads any quiet b.block)

class_type : (array : Bool) (f g : ℕ → Ty) (o : Option ℕ) (q : Place) → unless (is_some o) (unknown q) ≡ [] → (if array then option_map f o else option_map g o) ≡ Some (unwrap_or (if array then option_map f o else option_map g o) ty.Null)
class_type true f g (Some k) q h = refl
class_type false f g (Some k) q h = refl
class_type array f g None q h = absurd (let z : ⊥ = cc in z)

type_is : (cs : List ClassTree) (non_null array : Bool) (n : TypeNameTree) (q : Place) → type_name_faults cs q n ≡ [] →
    (if array then array_type cs non_null n else named_type cs non_null n) ≡ Some (unwrap_or (if array then array_type cs non_null n else named_type cs non_null n) ty.Null)
type_is cs non_null true IntType q h = refl
type_is cs non_null false IntType q h = refl
type_is cs non_null true BoolType q h = refl
type_is cs non_null false BoolType q h = refl
type_is cs non_null true ObjectType q h = refl
type_is cs non_null false ObjectType q h = refl
type_is cs non_null array (ClassType n) q h = class_type array (λ k. reference non_null (array_number k)) (λ k. reference non_null (class_number k)) (class_named cs n) q h

-- the result has the type that the resolver takes it to have
outcome_is : (cs : List ClassTree) (r : Option TypeTree) → names.written_type_faults cs r ≡ [] → members_of.type_of_result (members_of.outcome_of cs r) ≡ option_map (type_id cs) r
outcome_is cs None h = refl
outcome_is cs (Some t) h = type_is cs t.non_null t.is_array t.name t.place h

params_scope : (f : Scope → Scope) → ((s : Scope) (q : written.ParamTree) → scopes.declare_params (f s) (q ∷ []) ≡ f (scopes.declare_params s (q ∷ []))) → (e : Env) (ps : List written.ParamTree) → scopes.declare_params (f e.scope) ps ≡ f (declare_params e ps).scope
params_scope f keeps e [] = refl
params_scope f keeps e (q ∷ ps) = ap (λ s. scopes.declare_params s ps) (keeps e.scope q) ∙ params_scope f keeps (declare_param e q) ps

-- what is of `this` is refused, and `result` has this type
abbrev refused_with : Option Ty → Scope → Scope
refused_with t s = record s { refuses_members = true; refuses_this = true; outcome = t }

method_hushed : (cs : List ClassTree) (k : ℕ) (m : MethodTree) → names.written_type_faults cs m.result ≡ [] →
    names_of.block_faults (scopes.declare_params (names.in_method (class_scope cs k) (is_static m) (result_type cs m.result)) m.params) m.body ≡ [] →
    types.block_faults (members_of.method_body cs m.modifiers m.result) (members_of.method_scope cs k (members_of.method_body cs m.modifiers m.result) m.params) m.body ≡ [] →
    is_hushed (method_body cs k m) ≡ true
method_hushed cs k m result none wrong =
    ⊎_elim
    (λ yes.
    let e0 : Env = record (class_env cs k) { next = if is_static m then 0 else 1 } in
    let e = method_env cs k m in
    let t = option_map (type_id cs) m.result in
    let r = result_type cs m.result in
    let o = members_of.outcome_of cs m.result in
    let start : Match e0 = record { inner = λ n. refl; outer = λ n. refl } in
    let ps = params_match e0 m.params start in
    let match : Match e = record { inner = ps.inner; outer = ps.outer } in
    let refused = subst (λ s. types.block_faults (record { is_static = s; outcome = o }) (scopes.declare_params (record (class_scope cs k) { refuses_members = s; refuses_this = s; outcome = members_of.type_of_result o }) m.params) m.body ≡ []) yes wrong in
    let outcome = subst (λ u. types.block_faults (record { is_static = true; outcome = o }) (scopes.declare_params (refused_with u (class_scope cs k)) m.params) m.body ≡ []) (outcome_is cs m.result result) refused in
    let types_here = subst (λ s. types.block_faults (record { is_static = true; outcome = o }) s m.body ≡ []) (params_scope (refused_with t) (λ s q. refl) e0 m.params) outcome in
    let static_names = subst (λ s. names_of.block_faults (scopes.declare_params (names.in_method (class_scope cs k) s r) m.params) m.body ≡ []) yes none in
    let names_here = subst (λ s. names_of.block_faults s m.body ≡ []) (params_scope (λ s. record s { refuses_members = true; outcome = r }) (λ s q. refl) e0 m.params) static_names in
    let h = block_quiet r o e match m.body types_here names_here in
    or_right (not (is_static m)) (block_reads any quiet (block e m.body)) h)
    (λ no. or_left (not (is_static m)) (block_reads any quiet (block (method_env cs k m) m.body)) (ap not no))
    (cases_Bool (is_static m))

kind_hushed : (cs : List ClassTree) (k : ℕ) (c : ClassTree) (attributes : List NameTree) (words : List Modifier) (kind : MemberKindTree) → names.kind_faults (class_scope cs k) words kind ≡ [] → members_of.kind_faults cs k c words kind ≡ [] →
    list_all is_hushed (map (method_body cs k) (methods_of_kind attributes words kind)) ≡ true
kind_hushed cs k c attributes words (FieldsOf d) n h = refl
kind_hushed cs k c attributes words (InvariantOf e) n h = refl
kind_hushed cs k c attributes words (ConstructorOf x ps base clauses b) n h = refl
kind_hushed cs k c attributes words (MethodOf r x ps clauses b) n h =
    let body = members_of.method_body cs words r in
    let s = members_of.method_scope cs k body ps in
    let last = none_left (members_of.result_faults r ++ members_of.params_faults ps ++ members_of.clauses_faults body s clauses ++ types.block_faults body s b) (members_of.end_faults r b) h in
    let in_code = none_left (members_of.result_faults r ++ members_of.params_faults ps ++ members_of.clauses_faults body s clauses) (types.block_faults body s b) last.0 in
    let z = names.in_method (class_scope cs k) (is_static_word (word_of words)) (result_type cs r) in
    let two = none_left (names.written_type_faults cs r) (names.body_faults z ps None clauses b) n in
    let inside = scopes.declare_params z ps in
    let static_names = none_left (names.params_faults z ps ++ names.base_faults inside None ++ names.clauses_faults inside clauses) (names_of.block_faults inside b) two.1 in
    let m : MethodTree = record { attributes = attributes; modifiers = words; result = r; name = x; params = ps; clauses = clauses; body = b } in
    and_from _ _ (method_hushed cs k m two.0 static_names.1 in_code.1) refl

methods_hushed : (cs : List ClassTree) (k : ℕ) (c : ClassTree) (ms : List MemberTree) → names.members_faults (class_scope cs k) ms ≡ [] → types_of.members_faults cs k c ms ≡ [] → list_all is_hushed (map (method_body cs k) (methods_in ms)) ≡ true
methods_hushed cs k c [] n h = refl
methods_hushed cs k c (m ∷ ms) n h =
    let both = none_left (names.kind_faults (class_scope cs k) m.modifiers m.kind) (names.members_faults (class_scope cs k) ms) n in
    let other = none_left (members_of.member_faults cs k c m) (types_of.members_faults cs k c ms) h in
    let kind = none_left (members_of.surplus_words m) (members_of.kind_faults cs k c m.modifiers m.kind) other.0 in
    ap (list_all is_hushed) (map-append (method_body cs k) (methods_of_kind m.attributes m.modifiers m.kind) (methods_in ms))
    ∙ list_all-append is_hushed (map (method_body cs k) (methods_of_kind m.attributes m.modifiers m.kind)) (map (method_body cs k) (methods_in ms))
    ∙ rw (kind_hushed cs k c m.attributes m.modifiers m.kind both.0 kind.1, methods_hushed cs k c ms both.1 other.1) refl

constructors_hushed : (cs : List ClassTree) (k : ℕ) (ds : List ConstructorTree) → list_all is_hushed (map (constructor_body cs k) ds) ≡ true
constructors_hushed cs k [] = refl
constructors_hushed cs k (d ∷ ds) = constructors_hushed cs k ds

types_at : (all : List ClassTree) (k : ℕ) (cs : List ClassTree) (i : ℕ) (c : ClassTree) → types_of.classes_faults all k cs ≡ [] → slice_get cs i ≡ Some c → types_of.class_faults all (k + i) c ≡ []
types_at all k [] i c h e = absurd (let z : ⊥ = cc in z)
types_at all k (x ∷ cs) zero c h e =
    let z : k + 0 ≡ k = omega arith in
    rw z (ap (types_of.class_faults all k) (sym (same_Some _ _ e)) ∙ (none_left (types_of.class_faults all k x) (types_of.classes_faults all (k + 1) cs) h).0)
types_at all k (x ∷ cs) (suc i) c h e =
    let s : k + suc i ≡ k + 1 + i = omega arith in
    rw s (types_at all (k + 1) cs i c (none_left (types_of.class_faults all k x) (types_of.classes_faults all (k + 1) cs) h).1 e)

module _ (p : ProgramTree) (named : program_faults p ≡ []) (well_typed : type_faults p ≡ []) where
  class_hushed : (i : ℕ) (c : ClassTree) → slice_get p.classes i ≡ Some c → list_all is_hushed (bodies_of p.classes (0 + i) c) ≡ true
  class_hushed i c there =
      let z : 0 + i ≡ i = omega arith in
      let none = (none_at p named i c there).members in
      let wrong = subst (λ n. types_of.class_faults p.classes n c ≡ []) z (types_at p.classes 0 p.classes i c well_typed there) in
      let own = (none_left (types_of.members_faults p.classes i c c.members) (members_of.implied_base p.classes i (types_of.has_constructor (constructors_in c.members)) c.name.place) wrong).0 in
      rw z (list_all-append is_hushed (map (constructor_body p.classes i) (constructors_in c.members)) (map (method_body p.classes i) (methods_in c.members))
      ∙ rw (constructors_hushed p.classes i (constructors_in c.members), methods_hushed p.classes i c c.members none own) refl)

  all_hushed : list_all is_hushed (resolved p).bodies ≡ true
  all_hushed = classes_pass is_hushed p.classes 0 p.classes class_hushed

-- ---- `result`

body_words : (bs : List BodyTree) (n : ℕ) (b : BodyTree) → bodies_faults bs ≡ [] → slice_get bs n ≡ Some b → misplaced_body b ≡ []
body_words [] n b h e = absurd (let z : ⊥ = cc in z)
body_words (x ∷ bs) zero b h e =
    let mine : body_faults b ≡ [] = ap body_faults (sym (same_Some _ _ e)) ∙ (none_left (body_faults x) (bodies_faults bs) h).0 in
    none_of (at misplaced_word) (misplaced_body b) (none_left (of_attributes (bad_attributes (on_body b.flags.ctor) b.attributes) ++ params_faults b.params) (of_words (misplaced_body b)) mine).1
body_words (x ∷ bs) (suc n) b h e = body_words bs n b (none_left (body_faults x) (bodies_faults bs) h).1 e

base_strict : (m n : May) (base : Option BaseTree) → base_read m base ≡ true → base_read n base ≡ true → misplaced_base base ≡ [] → base_read (strictly m n) base ≡ true
base_strict m n None h i j = refl
base_strict m n (Some base) h i j = all_strict m n NoWord refl base.arguments h i j

no_base : (m : May) (base : Option BaseTree) → is_none base ≡ true → base_read m base ≡ true
no_base m None h = refl
no_base m (Some b) h = absurd (false≢true h)

-- what is in scope, without `result`, and without `this` where the body is static
body_strict : (b : BodyTree) → is_scoped b ≡ true → is_hushed b ≡ true → misplaced_body b ≡ [] → is_read b ≡ true
body_strict b h i j =
    let built = and_parts (not b.flags.ctor || not b.flags.is_static) (base_read (scope_of b) b.base && block_reads (own_of b) (scope_of b) b.block) h in
    let parts = and_parts (base_read (scope_of b) b.base) (block_reads (own_of b) (scope_of b) b.block) built.1 in
    let last = none_left (misplaced_in_all Questions b.entry ++ misplaced_in_all EveryWord b.exit ++ misplaced_modified b.modifies ++ misplaced_base b.base) (misplaced_in b.block) j in
    let base = none_left (misplaced_in_all Questions b.entry ++ misplaced_in_all EveryWord b.exit ++ misplaced_modified b.modifies) (misplaced_base b.base) last.0 in
    and_from _ _ built.0 (by b.flags.is_static parts.0 parts.1 i base.1 last.1)
  where
    by : (static : Bool) → base_read (scope_of b) b.base ≡ true → block_reads (own_of b) (scope_of b) b.block ≡ true → (not static || (is_none b.base && block_reads any quiet b.block)) ≡ true → misplaced_base b.base ≡ [] → misplaced_in b.block ≡ [] →
        (base_read (record { this = not static; result = false; locals = λ x. nat_lt x (arguments b) }) b.base && block_reads (own_of b) (record { this = not static; result = false; locals = λ x. nat_lt x (arguments b) }) b.block) ≡ true
    by true base body hush m n =
        let both = and_parts (is_none b.base) (block_reads any quiet b.block) hush in
        and_from _ _ (no_base (record { this = false; result = false; locals = λ x. nat_lt x (arguments b) }) b.base both.0) (block_strict (own_of b) any (scope_of b) quiet b.block body both.1 n)
    by false base body hush m n = and_from _ _ (base_strict (scope_of b) (scope_of b) b.base base base m) (block_strict (own_of b) (own_of b) (scope_of b) (scope_of b) b.block body body n)

-- ---- fields

class_none : (p : TypedTree) (k : ℕ) (ms : List MembersTree) → classes_faults p k ms ≡ [] → (i : ℕ) (m : MembersTree) → slice_get ms i ≡ Some m → class_faults p (k + i) m ≡ []
class_none p k [] h i m e = absurd (let z : ⊥ = cc in z)
class_none p k (x ∷ ms) h zero m e =
    let z : k + 0 ≡ k = omega arith in
    rw z (ap (class_faults p k) (sym (same_Some _ _ e)) ∙ (none_left (class_faults p k x) (classes_faults p (k + 1) ms) h).0)
class_none p k (x ∷ ms) h (suc i) m e =
    let s : k + suc i ≡ k + 1 + i = omega arith in
    rw s (class_none p (k + 1) ms (none_left (class_faults p k x) (classes_faults p (k + 1) ms) h).1 i m e)

fields_read : (cs : List ClassTree) (e : Env) → Scoped 0 (record { this = true; result = true; locals = λ x. false }) e → (fs : List tables.FieldTree) → fields_faults (map (field_member e) fs) (map (field cs) fs) ≡ [] →
    list_all (λ (f : typed.FieldTree). may_read in_class f.initial) (map (field_member e) fs) ≡ true
fields_read cs e h [] n = refl
fields_read cs e h (f ∷ fs) n =
    let m : May = record { this = true; result = true; locals = λ x. false } in
    let both = none_left (field_faults (field_member e f) (field cs f)) (fields_faults (map (field_member e) fs) (map (field cs) fs)) n in
    let mine = none_left (of_attributes (bad_attributes (on_field (field cs f).ty) f.attributes)) (of_words (misplaced_if NoWord (field_member e f).initial)) both.0 in
    let it = maybe_scoped 0 m e h f.initial in
    and_from _ _ (may_strict m m NoWord refl (field_member e f).initial it it (none_of (at misplaced_word) (misplaced_if NoWord (field_member e f).initial) mine.1)) (fields_read cs e h fs both.1)

each_at : {A : Type 0} (f : ℕ → ClassTree → A) (k : ℕ) (cs : List ClassTree) (i : ℕ) (c : ClassTree) → slice_get cs i ≡ Some c → slice_get (each f k cs) i ≡ Some (f (k + i) c)
each_at f k [] i c e = absurd (let z : ⊥ = cc in z)
each_at f k (x ∷ cs) zero c e = let z : k + 0 ≡ k = omega arith in ap (λ (o : Option ClassTree). option_map (f k) o) e ∙ ap (λ n. Some (f n c)) (sym z)
each_at f k (x ∷ cs) (suc i) c e = let s : k + 1 + i ≡ k + suc i = omega arith in each_at f (k + 1) cs i c e ∙ ap (λ n. Some (f n c)) s

from_each : (test : MembersTree → Bool) (f : ℕ → ClassTree → MembersTree) (k : ℕ) (cs : List ClassTree) → ((i : ℕ) (c : ClassTree) → slice_get cs i ≡ Some c → test (f (k + i) c) ≡ true) → list_all test (each f k cs) ≡ true
from_each test f k [] h = refl
from_each test f k (c ∷ cs) h =
    let z : k + 0 ≡ k = omega arith in
    and_from _ _ (subst (λ n. test (f n c) ≡ true) z (h 0 c refl))
    (from_each test f (k + 1) cs (λ i x e. let s : k + suc i ≡ k + 1 + i = omega arith in subst (λ n. test (f n x) ≡ true) s (h (suc i) x e)))

module _ (p : ProgramTree) (owned : classes_faults (resolved p) 0 (resolved p).members ≡ []) where
  class_fields : (k : ℕ) (c : ClassTree) → slice_get p.classes k ≡ Some c → members_read (members p.classes (0 + k) c) ≡ true
  class_fields k c there =
      let e = class_env p.classes (0 + k) in
      let m = each_at (members p.classes) 0 p.classes k c there in
      let d = each_at (class p.classes) 0 p.classes k c there in
      let z : 0 + k ≡ k = omega arith in
      let all = class_none (resolved p) 0 (resolved p).members owned k (members p.classes (0 + k) c) m in
      let of_fields = (none_left (fields_faults (map (field_member e) (fields_in c.members)) (fields_of (slice_get (resolved p).classes (0 + k)))) (invariants_faults _ (members p.classes (0 + k) c).invariants) all).0 in
      let mine = subst (λ o. fields_faults (map (field_member e) (fields_in c.members)) (fields_of o) ≡ []) (ap (slice_get (resolved p).classes) z ∙ d) of_fields in
      fields_read p.classes e (record { this = refl; result = refl; names = λ n. refl; above = omega arith }) (fields_in c.members) mine

  all_fields : list_all members_read (resolved p).members ≡ true
  all_fields = from_each members_read (members p.classes) 0 p.classes class_fields

-- ---- all bodies

module _ (p : ProgramTree) (fields : list_all members_read (resolved p).members ≡ true) (all : (n : ℕ) (b : BodyTree) → slice_get (resolved p).bodies n ≡ Some b → is_read b ≡ true) where
  made_reads : (o : Origin) (y : core.BodyTree) → IsMade (resolved p) o y → reads_what_is_assigned y ≡ true
  made_reads o y (WrittenConstructor {n = n} {b = b} is em en eb) = written_reads (resolved p) b (b ∷ []) fields (all n b eb)
  made_reads o y (ImplicitConstructor {t = t} {c = c} {m = m} is ec em none) = let b = implicit_constructor t c.name m.place in written_reads (resolved p) b (b ∷ []) fields refl
  made_reads o y (WrittenMethod {t = t} {m = m} {b = b} is eb own) =
      let r = method_is (resolved p) (slice_get (table (resolved p) t) m) b eb in
      written_reads (resolved p) b (declarations (resolved p) t m) fields (all r.0 b r.1)
  made_reads o y (Wrapper {t = t} {m = m} {b = b} {ms = ms} is eb own em) = wrapper_reads (resolved p) ms.place t m b (declarations (resolved p) t m)

pub read_what_is_assigned : (p : ProgramTree) → program_faults p ≡ [] → type_faults p ≡ [] → ownership_faults (resolved p) ≡ [] → ReadAssigned (core_of p)
unfolding ownership_faults
read_what_is_assigned p named well_typed owned n y there =
    let both = none_left (classes_faults (resolved p) 0 (resolved p).members) (bodies_faults (resolved p).bodies) owned in
    let from = origin_of (resolved p) n y there in
    made_reads p (all_fields p both.0)
    (λ i b e. body_strict b (all_at is_scoped (resolved p).bodies i b (all_scoped p) e) (all_at is_hushed (resolved p).bodies i b (all_hushed p named well_typed) e) (body_words (resolved p).bodies i b both.1 e))
    from.origin y from.made
