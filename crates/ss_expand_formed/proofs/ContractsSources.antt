-- The contracts of a source: what is written in them has no faults.
use Rattle.std.proofs.Common.{◌≡◌, ℕ, zero, suc, ◌+◌, ◌<◌, List, [], ◌∷◌, ◌++◌, length, map, Bool, false, Option, Some, None, refl, sym, ◌∙◌, ap, subst, arith}
use Rattle.std.specs.Prelude.{◌||◌, slice_get, option_map, is_some, is_none}
use Rattle.std.proofs.lemmas.Option.{same_Some, slice_get_within}
use Rattle.ss_ast.specs.declared.class.Modifier.{Modifier}
use Rattle.ss_ast.specs.Expressions.{TypeTree}
use Rattle.ss_ast.specs.Statements.{BlockTree}
use Rattle.ss_ast.specs.Programs.{ParamTree, ClauseTree, BaseCallTree, MemberKindTree, FieldsOf, InvariantOf, MethodOf, ConstructorOf, MemberTree, ClassTree, ProgramTree}
use Rattle.ss_tables.specs.Members.{MethodTree, ConstructorTree, methods_of_kind, constructors_of_kind, methods_in, constructors_in, is_static}
use Rattle.ss_tables.specs.Classes.{class_number}
use Rattle.ss_tables.specs.Scopes.{Scope, class_scope}
use Rattle.ss_tables.specs.Scopes as scopes
use Rattle.ss_tables.specs.Statics.{result_type}
use Rattle.ss_typed.specs.Tree as typed
use Rattle.ss_typed.specs.Tree.{BodyTree, TypedTree}
use Rattle.ss_resolver_names_rules.specs.Faults.{type_faults}
use Rattle.ss_resolver_names_rules.specs.Statements.{block_faults}
use Rattle.ss_resolver_names_rules.specs.Members as names
use Rattle.ss_resolver_names_rules.specs.Members.{in_method, written_type_faults}
use Rattle.ss_resolver_names_rules.specs.Programs.{program_faults}
use Rattle.ss_resolver_types_expressions.specs.Statements.{Body}
use Rattle.ss_resolver_types_expressions.specs.Statements as statements
use Rattle.ss_resolver_types_expressions.specs.Members as types
use Rattle.ss_resolver_types_expressions.specs.Programs as programs
use Rattle.ss_resolver_rules.specs.Names.{Env, class_env}
use Rattle.ss_resolver_rules.specs.Numbers.{type_id}
use Rattle.ss_resolver_rules.specs.Programs.{entry_in, exit_in, modifies_in, param, param_env, result_env, method_env, method_body, constructor_body}
use Rattle.ss_expand_formed.proofs.Facts.{none_left}
use Rattle.ss_expand_formed.proofs.ChainLaw.{none_at}
use Rattle.ss_expand_formed.proofs.ExpressionsPlaces.{At, env_at}
use Rattle.ss_expand_formed.proofs.Scenes.{env_after, first_number, place_of, params_there}

-- ---- members

-- where a method or a constructor is written
pub record IsMember (ms : List MemberTree) (words : List Modifier) (kind : MemberKindTree) : Type 0 where
  pub place : ℕ
  pub member : MemberTree
  pub there : slice_get ms place ≡ Some member
  pub words_are : member.modifiers ≡ words
  pub is : member.kind ≡ kind

later : (x : MemberTree) (ms : List MemberTree) (words : List Modifier) (kind : MemberKindTree) → IsMember ms words kind → IsMember (x ∷ ms) words kind
later x ms words kind m = record { place = suc m.place; member = m.member; there = m.there; words_are = m.words_are; is = m.is }

abbrev method_kind : MethodTree → MemberKindTree
method_kind m = MethodOf m.result m.name m.params m.clauses m.body

abbrev constructor_kind : ConstructorTree → MemberKindTree
constructor_kind c = ConstructorOf c.name c.params c.base c.clauses c.body

method_member : (ms : List MemberTree) (i : ℕ) (m : MethodTree) → slice_get (methods_in ms) i ≡ Some m → IsMember ms m.modifiers (method_kind m)
method_member [] i m h = absurd (let z : ⊥ = cc in z)
method_member (x ∷ ms) i m h = by x.kind refl (λ n e. method_member ms n m e) i h
  where
    by : (kind : MemberKindTree) → x.kind ≡ kind → ((n : ℕ) → slice_get (methods_in ms) n ≡ Some m → IsMember ms m.modifiers (method_kind m)) → (j : ℕ) → slice_get (methods_of_kind x.attributes x.modifiers kind ++ methods_in ms) j ≡ Some m → IsMember (x ∷ ms) m.modifiers (method_kind m)
    by (FieldsOf d) e rest j g = later x ms m.modifiers (method_kind m) (rest j g)
    by (InvariantOf a) e rest j g = later x ms m.modifiers (method_kind m) (rest j g)
    by (ConstructorOf n ps base cs b) e rest j g = later x ms m.modifiers (method_kind m) (rest j g)
    by (MethodOf r n ps cs b) e rest zero g = record { place = 0; member = x; there = refl; words_are = ap (λ (y : MethodTree). y.modifiers) (same_Some _ _ g); is = e ∙ ap method_kind (same_Some _ _ g) }
    by (MethodOf r n ps cs b) e rest (suc j) g = later x ms m.modifiers (method_kind m) (rest j g)

constructor_member : (ms : List MemberTree) (i : ℕ) (c : ConstructorTree) → slice_get (constructors_in ms) i ≡ Some c → (words : List Modifier) × IsMember ms words (constructor_kind c)
constructor_member [] i c h = absurd (let z : ⊥ = cc in z)
constructor_member (x ∷ ms) i c h = by x.kind refl (λ n e. constructor_member ms n c e) i h
  where
    by : (kind : MemberKindTree) → x.kind ≡ kind → ((n : ℕ) → slice_get (constructors_in ms) n ≡ Some c → (words : List Modifier) × IsMember ms words (constructor_kind c)) → (j : ℕ) → slice_get (constructors_of_kind x.attributes kind ++ constructors_in ms) j ≡ Some c → (words : List Modifier) × IsMember (x ∷ ms) words (constructor_kind c)
    by (FieldsOf d) e rest j g = let r = rest j g in (r.0, later x ms r.0 (constructor_kind c) r.1)
    by (InvariantOf a) e rest j g = let r = rest j g in (r.0, later x ms r.0 (constructor_kind c) r.1)
    by (MethodOf t n ps cs b) e rest j g = let r = rest j g in (r.0, later x ms r.0 (constructor_kind c) r.1)
    by (ConstructorOf n ps base cs b) e rest zero g = (x.modifiers, record { place = 0; member = x; there = refl; words_are = refl; is = e ∙ ap constructor_kind (same_Some _ _ g) })
    by (ConstructorOf n ps base cs b) e rest (suc j) g = let r = rest j g in (r.0, later x ms r.0 (constructor_kind c) r.1)

-- ---- faults of members

names_none : (s : Scope) (ms : List MemberTree) (i : ℕ) (x : MemberTree) → names.members_faults s ms ≡ [] → slice_get ms i ≡ Some x → names.kind_faults s x.modifiers x.kind ≡ []
names_none s [] i x h e = absurd (let z : ⊥ = cc in z)
names_none s (m ∷ ms) zero x h e = subst (λ (y : MemberTree). names.kind_faults s y.modifiers y.kind ≡ []) (same_Some _ _ e) (none_left (names.kind_faults s m.modifiers m.kind) (names.members_faults s ms) h).0
names_none s (m ∷ ms) (suc i) x h e = names_none s ms i x (none_left (names.kind_faults s m.modifiers m.kind) (names.members_faults s ms) h).1 e

types_none : (cs : List ClassTree) (k : ℕ) (c : ClassTree) (ms : List MemberTree) (i : ℕ) (x : MemberTree) → programs.members_faults cs k c ms ≡ [] → slice_get ms i ≡ Some x → types.kind_faults cs k c x.modifiers x.kind ≡ []
types_none cs k c [] i x h e = absurd (let z : ⊥ = cc in z)
types_none cs k c (m ∷ ms) zero x h e =
    let here = (none_left (types.member_faults cs k c m) (programs.members_faults cs k c ms) h).0 in
    subst (λ (y : MemberTree). types.kind_faults cs k c y.modifiers y.kind ≡ []) (same_Some _ _ e) (none_left (types.surplus_words m) (types.kind_faults cs k c m.modifiers m.kind) here).1
types_none cs k c (m ∷ ms) (suc i) x h e = types_none cs k c ms i x (none_left (types.member_faults cs k c m) (programs.members_faults cs k c ms) h).1 e

class_types : (all : List ClassTree) (k : ℕ) (cs : List ClassTree) (i : ℕ) (c : ClassTree) → programs.classes_faults all k cs ≡ [] → slice_get cs i ≡ Some c → programs.members_faults all (k + i) c c.members ≡ []
class_types all k [] i c h e = absurd (let z : ⊥ = cc in z)
class_types all k (x ∷ cs) zero c h e =
    let z : k + 0 ≡ k = omega arith in
    let here = (none_left (programs.class_faults all k x) (programs.classes_faults all (k + 1) cs) h).0 in
    let members = (none_left (programs.members_faults all k x x.members) (types.implied_base all k (programs.has_constructor (constructors_in x.members)) x.name.place) here).0 in
    subst (λ n. programs.members_faults all n c c.members ≡ []) (sym z) (subst (λ (y : ClassTree). programs.members_faults all k y y.members ≡ []) (same_Some _ _ e) members)
class_types all k (x ∷ cs) (suc i) c h e =
    let s : k + suc i ≡ k + 1 + i = omega arith in
    subst (λ n. programs.members_faults all n c c.members ≡ []) (sym s) (class_types all (k + 1) cs i c (none_left (programs.class_faults all k x) (programs.classes_faults all (k + 1) cs) h).1 e)

-- ---- contracts

-- what a contract is written in: of the class k, static or not, with this result and these parameters
abbrev pub body_of : List ClassTree → Bool → Option TypeTree → Body
body_of cs static r = record { is_static = static; outcome = types.outcome_of cs r }

abbrev pub place_in : List ClassTree → ℕ → Bool → Option TypeTree → List ParamTree → At
place_in cs k static r ps = place_of cs k static (option_map (type_id cs) r) ps

-- these clauses are those of the written body d, and have no faults
pub record HasClauses (p : ProgramTree) (d : BodyTree) : Type 0 where
  pub class : ℕ
  pub within : class < length p.classes
  pub static : Bool
  pub result : Option TypeTree
  pub params : List ParamTree
  pub clauses : List ClauseTree
  pub result_known : written_type_faults p.classes result ≡ []
  pub params_known : (i : ℕ) (q : ParamTree) → slice_get params i ≡ Some q → type_faults p.classes q.ty ≡ []
  pub names : names.clauses_faults (scopes.declare_params (in_method (class_scope p.classes class) static (result_type p.classes result)) params) clauses ≡ []
  pub types : types.clauses_faults (body_of p.classes static result) (types.method_scope p.classes class (body_of p.classes static result) params) clauses ≡ []
  pub of_class : d.class ≡ class_number class
  pub is_static : d.flags.is_static ≡ static
  pub gives : d.result ≡ option_map (type_id p.classes) result
  pub takes : map (λ (q : typed.ParamTree). q.ty) d.params ≡ map (λ (q : ParamTree). type_id p.classes q.ty) params
  pub entry : d.entry ≡ entry_in (env_at p (place_in p.classes class static result params)) clauses
  pub exit : d.exit ≡ exit_in (env_at p (place_in p.classes class static result params)) clauses
  pub modifies : d.modifies ≡ modifies_in (env_at p (place_in p.classes class static result params)) clauses

param_types : (e : Env) (ps : List ParamTree) → map (λ (q : typed.ParamTree). q.ty) (map (param e) ps) ≡ map (λ (q : ParamTree). type_id e.scope.classes q.ty) ps
param_types e [] = refl
param_types e (q ∷ ps) = ap (λ ts. type_id e.scope.classes q.ty ∷ ts) (param_types e ps)

module _ (p : ProgramTree) (faultless : program_faults p ≡ []) (typed_well : programs.type_faults p ≡ []) (k : ℕ) (c : ClassTree) (at : slice_get p.classes k ≡ Some c) where
  pub members_typed : programs.members_faults p.classes k c c.members ≡ []
  members_typed =
      let z : 0 + k ≡ k = omega arith in
      subst (λ n. programs.members_faults p.classes n c c.members ≡ []) z (class_types p.classes 0 p.classes k c typed_well at)

  -- names in the contract and in the parameters of a body
  body_names : (s : Scope) (ps : List ParamTree) (base : Option BaseCallTree) (cs : List ClauseTree) (b : BlockTree) → names.body_faults s ps base cs b ≡ [] → (names.params_faults s ps ≡ []) × (names.clauses_faults (scopes.declare_params s ps) cs ≡ [])
  body_names s ps base cs b h =
      let inside = scopes.declare_params s ps in
      let two = none_left (names.params_faults s ps ++ names.base_faults inside base ++ names.clauses_faults inside cs) (block_faults inside b) h in
      let one = none_left (names.params_faults s ps ++ names.base_faults inside base) (names.clauses_faults inside cs) two.0 in
      ((none_left (names.params_faults s ps) (names.base_faults inside base) one.0).0, one.1)

  pub method_clauses : (i : ℕ) (m : MethodTree) → slice_get (methods_in c.members) i ≡ Some m → HasClauses p (method_body p.classes k m)
  method_clauses i m h =
      let w = method_member c.members i m h in
      let static = is_static m in
      let s = in_method (class_scope p.classes k) static (result_type p.classes m.result) in
      let named = names_none (class_scope p.classes k) c.members w.place w.member (none_at p faultless k c at).members w.there in
      let named_kind : names.kind_faults (class_scope p.classes k) m.modifiers (method_kind m) ≡ [] = subst (λ q. names.kind_faults (class_scope p.classes k) m.modifiers q ≡ []) w.is (subst (λ q. names.kind_faults (class_scope p.classes k) q w.member.kind ≡ []) w.words_are named) in
      let parts = none_left (written_type_faults p.classes m.result) (names.body_faults s m.params None m.clauses m.body) named_kind in
      let inner = body_names s m.params None m.clauses m.body parts.1 in
      let typed_member = types_none p.classes k c c.members w.place w.member members_typed w.there in
      let typed_kind : types.kind_faults p.classes k c m.modifiers (method_kind m) ≡ [] = subst (λ q. types.kind_faults p.classes k c m.modifiers q ≡ []) w.is (subst (λ q. types.kind_faults p.classes k c q w.member.kind ≡ []) w.words_are typed_member) in
      let b = body_of p.classes static m.result in
      let t = types.method_scope p.classes k b m.params in
      let four = none_left (types.result_faults m.result ++ types.params_faults m.params ++ types.clauses_faults b t m.clauses ++ statements.block_faults b t m.body) (types.end_faults m.result m.body) typed_kind in
      let three = none_left (types.result_faults m.result ++ types.params_faults m.params ++ types.clauses_faults b t m.clauses) (statements.block_faults b t m.body) four.0 in
      let two = none_left (types.result_faults m.result ++ types.params_faults m.params) (types.clauses_faults b t m.clauses) three.0 in
      let e0 : Env = record (class_env p.classes k) { next = first_number static } in
      let env : method_env p.classes k m ≡ env_at p (place_in p.classes k static m.result m.params) = ap (λ e. result_env e (option_map (type_id p.classes) m.result)) (env_after e0 m.params) in
      record {
        class = k;
        within = slice_get_within p.classes k c at;
        static = static;
        result = m.result;
        params = m.params;
        clauses = m.clauses;
        result_known = parts.0;
        params_known = params_there p faultless s refl m.params inner.0;
        names = inner.1;
        types = two.1;
        of_class = refl;
        is_static = refl;
        gives = refl;
        takes = param_types (method_env p.classes k m) m.params ∙ ap (λ (e : Env). map (λ (q : ParamTree). type_id e.scope.classes q.ty) m.params) env;
        entry = ap (λ e. entry_in e m.clauses) env;
        exit = ap (λ e. exit_in e m.clauses) env;
        modifies = ap (λ e. modifies_in e m.clauses) env;
      }

  pub constructor_clauses : (i : ℕ) (d : ConstructorTree) → slice_get (constructors_in c.members) i ≡ Some d → HasClauses p (constructor_body p.classes k d)
  constructor_clauses i d h =
      let r = constructor_member c.members i d h in
      let w = r.1 in
      let s = class_scope p.classes k in
      let named = names_none s c.members w.place w.member (none_at p faultless k c at).members w.there in
      let named_kind : names.kind_faults s w.member.modifiers (constructor_kind d) ≡ [] = subst (λ q. names.kind_faults s w.member.modifiers q ≡ []) w.is named in
      let inner = body_names s d.params d.base d.clauses d.body named_kind in
      let typed_member = types_none p.classes k c c.members w.place w.member members_typed w.there in
      let typed_kind : types.kind_faults p.classes k c w.member.modifiers (constructor_kind d) ≡ [] = subst (λ q. types.kind_faults p.classes k c w.member.modifiers q ≡ []) w.is typed_member in
      let clauses = constructor_typed d typed_kind in
      let e0 : Env = record (class_env p.classes k) { next = 1 } in
      let env : param_env p.classes k false d.params ≡ env_at p (place_in p.classes k false None d.params) = env_after e0 d.params in
      record {
        class = k;
        within = slice_get_within p.classes k c at;
        static = false;
        result = None;
        params = d.params;
        clauses = d.clauses;
        result_known = refl;
        params_known = params_there p faultless s refl d.params inner.0;
        names = inner.1;
        types = clauses;
        of_class = refl;
        is_static = refl;
        gives = refl;
        takes = param_types (param_env p.classes k false d.params) d.params ∙ ap (λ (e : Env). map (λ (q : ParamTree). type_id e.scope.classes q.ty) d.params) env;
        entry = ap (λ e. entry_in e d.clauses) env;
        exit = ap (λ e. exit_in e d.clauses) env;
        modifies = ap (λ e. modifies_in e d.clauses) env;
      }
    where
      constructor_typed : (d : ConstructorTree) → types.constructor_faults p.classes k c d.name d.params d.base d.clauses d.body ≡ [] → types.clauses_faults types.constructor_body (scopes.param_scope p.classes k d.params) d.clauses ≡ []
      constructor_typed d g =
          let t = scopes.param_scope p.classes k d.params in
          let front = types.title_faults c d.name ++ types.params_faults d.params ++ types.written_base k t d.base ++ types.implied_base p.classes k (is_some d.base || types.block_calls_base d.body) d.name.place in
          (none_left front (types.clauses_faults types.constructor_body t d.clauses) (none_left (front ++ types.clauses_faults types.constructor_body t d.clauses) (types.constructor_block k t (is_none d.base) d.body) g).0).1
