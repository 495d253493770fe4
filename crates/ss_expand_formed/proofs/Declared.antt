-- The types of the locals that bodies declare are of the table.
use Rattle.std.proofs.Common.{◌≡◌, ℕ, ◌+◌, List, [], ◌∷◌, ◌++◌, map, Bool, true, false, Option, Some, None, refl, sym, ◌∙◌, ap, subst, arith}
use Rattle.std.specs.Prelude.{slice_get}
use Rattle.std.specs.List.{list_all}
use Rattle.std.proofs.lemmas.Bool.{and_parts, and_from}
use Rattle.std.proofs.lemmas.List.{map-append}
use Rattle.std.proofs.lemmas.List.Folds.{list_all-append}
use Rattle.ss_core.specs.Chain.{is_type}
use Rattle.ss_ast.specs.declared.class.Modifier.{Modifier}
use Rattle.ss_ast.specs.Expressions.{NameTree, TypeTree}
use Rattle.ss_ast.specs.Statements.{DeclaratorTree, DeclarationTree, ForInitTree, DeclareFirst, SimpleFirst, BlockTree, BlockOf, StmtTree, InBlock, DeclareOf, SimpleOf, IfOf, IfElseOf, WhileOf, ForOf, ReturnOf, AssertOf, AssumeOf, ExposeOf, EmptyOf, StmtTrees, NoMore, Before}
use Rattle.ss_ast.specs.Programs.{ParamTree, BaseCallTree, ClauseTree, MemberKindTree, FieldsOf, InvariantOf, MethodOf, ConstructorOf, MemberTree, ClassTree, ProgramTree}
use Rattle.ss_tables.specs.Members.{methods_of_kind, constructors_of_kind, methods_in, constructors_in, is_static, is_static_word, word_of, MethodTree}
use Rattle.ss_tables.specs.Scopes.{Scope, class_scope, declare_local, declare_all, behind, after_init, enter}
use Rattle.ss_tables.specs.Scopes as scopes
use Rattle.ss_tables.specs.Statics.{result_type}
use Rattle.ss_typed.specs.Tree.{BodyTree}
use Rattle.ss_resolver_names_rules.specs.Faults.{type_faults}
use Rattle.ss_resolver_names_rules.specs.Expressions.{expr_faults}
use Rattle.ss_resolver_names_rules.specs.Statements.{faults_of_all, named_class_faults, declarators_faults, init_faults, heading_faults, stmt_faults, block_faults, stmts_faults}
use Rattle.ss_resolver_names_rules.specs.Members.{params_faults, base_faults, clauses_faults, written_type_faults, in_method, body_faults, kind_faults, members_faults}
use Rattle.ss_resolver_names_rules.specs.Programs.{program_faults}
use Rattle.ss_resolver_rules.specs.Names.{Env}
use Rattle.ss_resolver_rules.specs.Numbers.{type_id}
use Rattle.ss_resolver_rules.specs.Statements.{Declared, declared_by, declared_first, declared_in_block, declared_in, declared_in_all, local}
use Rattle.ss_resolver_rules.specs.Programs.{param_env, method_env, method_body, constructor_body, bodies_of}
use Rattle.ss_store_rules.specs.Typed.{is_local}
use Rattle.ss_expand_formed.specs.Laws.{core_of}
use Rattle.ss_expand_formed.proofs.Facts.{none_left}
use Rattle.ss_expand_formed.proofs.ChainLaw.{none_at, type_known}
use Rattle.ss_expand_formed.proofs.TypesKnown.{classes_pass, env_of}
use Rattle.ss_expand_formed.specs.Members.{HaveDeclaredTypes}

-- ---- scopes

all_classes : (s : Scope) (t : TypeTree) (ds : List DeclaratorTree) → (declare_all s t ds).classes ≡ s.classes
all_classes s t [] = refl
all_classes s t (d ∷ ds) = all_classes (declare_local s t d.name) t ds

init_classes : (s : Scope) (i : Option ForInitTree) → (after_init s i).classes ≡ s.classes
init_classes s None = refl
init_classes s (Some (DeclareFirst d)) = all_classes s d.ty d.declarators
init_classes s (Some (SimpleFirst x)) = refl

after_classes : (s : Scope) (x : StmtTree) → (behind s x).classes ≡ s.classes
after_classes s (DeclareOf d) = all_classes s d.ty d.declarators
after_classes s (InBlock b) = refl
after_classes s (SimpleOf x) = refl
after_classes s (IfOf p e a) = refl
after_classes s (IfElseOf p e a b) = refl
after_classes s (WhileOf p e is a) = refl
after_classes s (ForOf p i e x is a) = refl
after_classes s (ReturnOf p e) = refl
after_classes s (AssertOf p e) = refl
after_classes s (AssumeOf p e) = refl
after_classes s (ExposeOf p e n b) = refl
after_classes s (EmptyOf p) = refl

params_classes : (s : Scope) (ps : List ParamTree) → (scopes.declare_params s ps).classes ≡ s.classes
params_classes s [] = refl
params_classes s (q ∷ ps) = params_classes (scopes.declare_params s (q ∷ [])) ps

module _ (p : ProgramTree) (faultless : program_faults p ≡ []) where
  abbrev is_known : Declared → Bool
  is_known d = is_type (core_of p).classes (type_id p.classes d.ty)

  abbrev Known : List Declared → Type 0
  Known ds = list_all is_known ds ≡ true

  both_known : (xs ys : List Declared) → Known xs → Known ys → Known (xs ++ ys)
  both_known xs ys h g = list_all-append is_known xs ys ∙ rw (h, g) refl

  -- ---- declarations

  each_known : (t : TypeTree) → is_type (core_of p).classes (type_id p.classes t) ≡ true → (ds : List DeclaratorTree) → Known (map (λ (x : DeclaratorTree). record { name = x.name; ty = t }) ds)
  each_known t h [] = refl
  each_known t h (d ∷ ds) = and_from _ _ h (each_known t h ds)

  declaration_known : (s : Scope) → s.classes ≡ p.classes → (d : DeclarationTree) → type_faults s.classes d.ty ++ declarators_faults s d.ty d.declarators ≡ [] → Known (declared_by d)
  declaration_known s same d h =
      let none = (none_left (type_faults s.classes d.ty) (declarators_faults s d.ty d.declarators) h).0 in
      each_known d.ty (type_known p faultless d.ty (subst (λ cs. type_faults cs d.ty ≡ []) same none)) d.declarators

  first_known : (s : Scope) → s.classes ≡ p.classes → (i : Option ForInitTree) → init_faults s i ≡ [] → Known (declared_first i)
  first_known s same None h = refl
  first_known s same (Some (DeclareFirst d)) h = declaration_known s same d h
  first_known s same (Some (SimpleFirst x)) h = refl

  -- ---- statements

  mutual
    stmt_known : (s : Scope) → s.classes ≡ p.classes → (x : StmtTree) → stmt_faults s x ≡ [] → Known (declared_in x)
    stmt_known s same (InBlock b) h = block_known s same b h
    stmt_known s same (DeclareOf d) h = declaration_known s same d h
    stmt_known s same (SimpleOf x) h = refl
    stmt_known s same (IfOf q e a) h = stmt_known (enter s) same a (none_left (expr_faults s e) (stmt_faults (enter s) a) h).1
    stmt_known s same (IfElseOf q e a b) h =
        let both = none_left (expr_faults s e ++ stmt_faults (enter s) a) (stmt_faults (enter s) b) h in
        let one = none_left (expr_faults s e) (stmt_faults (enter s) a) both.0 in
        both_known (declared_in a) (declared_in b) (stmt_known (enter s) same a one.1) (stmt_known (enter s) same b both.1)
    stmt_known s same (WhileOf q e es a) h = stmt_known (enter s) same a (none_left (expr_faults s e ++ faults_of_all s es) (stmt_faults (enter s) a) h).1
    stmt_known s same (ForOf q i e x es a) h =
        let t = after_init (enter s) i in
        let both = none_left (init_faults (enter s) i ++ heading_faults t e x es) (stmt_faults (enter t) a) h in
        let one = none_left (init_faults (enter s) i) (heading_faults t e x es) both.0 in
        both_known (declared_first i) (declared_in a) (first_known (enter s) same i one.0) (stmt_known (enter t) (init_classes (enter s) i ∙ same) a both.1)
    stmt_known s same (ReturnOf q e) h = refl
    stmt_known s same (AssertOf q e) h = refl
    stmt_known s same (AssumeOf q e) h = refl
    stmt_known s same (ExposeOf q e n b) h = block_known s same b (none_left (expr_faults s e ++ named_class_faults s.classes n) (block_faults s b) h).1
    stmt_known s same (EmptyOf q) h = refl

    block_known : (s : Scope) → s.classes ≡ p.classes → (b : BlockTree) → block_faults s b ≡ [] → Known (declared_in_block b)
    block_known s same (BlockOf q ss end) h = stmts_known (enter s) same ss h

    stmts_known : (s : Scope) → s.classes ≡ p.classes → (ss : StmtTrees) → stmts_faults s ss ≡ [] → Known (declared_in_all ss)
    stmts_known s same NoMore h = refl
    stmts_known s same (Before x xs) h =
        let both = none_left (stmt_faults s x) (stmts_faults (behind s x) xs) h in
        both_known (declared_in x) (declared_in_all xs) (stmt_known s same x both.0) (stmts_known (behind s x) (after_classes s x ∙ same) xs both.1)

  -- ---- bodies

  abbrev has_known : BodyTree → Bool
  has_known b = list_all (is_local (core_of p).classes) b.locals

  locals_known : (e : Env) → e.scope.classes ≡ p.classes → (ds : List Declared) → Known ds → list_all (is_local (core_of p).classes) (map (local e) ds) ≡ true
  locals_known e same [] h = refl
  locals_known e same (d ∷ ds) h =
      let both = and_parts (is_known d) (list_all is_known ds) h in
      let mine : is_type (core_of p).classes (type_id e.scope.classes d.ty) ≡ true = subst (λ cs. is_type (core_of p).classes (type_id cs d.ty) ≡ true) (sym same) both.0 in
      and_from _ _ (and_from _ _ mine refl) (locals_known e same ds both.1)

  of_body : (s : Scope) → s.classes ≡ p.classes → (e : Env) → e.scope.classes ≡ p.classes → (ps : List ParamTree) (base : Option BaseCallTree) (cs : List ClauseTree) (b : BlockTree) → body_faults s ps base cs b ≡ [] →
      list_all (is_local (core_of p).classes) (map (local e) (declared_in_block b)) ≡ true
  of_body s same e also ps base cs b h =
      let inside = scopes.declare_params s ps in
      let none = (none_left (params_faults s ps ++ base_faults inside base ++ clauses_faults inside cs) (block_faults inside b) h).1 in
      locals_known e also (declared_in_block b) (block_known inside (params_classes s ps ∙ same) b none)

  method_known : (k : ℕ) (attributes : List NameTree) (words : List Modifier) (kind : MemberKindTree) → kind_faults (class_scope p.classes k) words kind ≡ [] → list_all has_known (map (method_body p.classes k) (methods_of_kind attributes words kind)) ≡ true
  method_known k attributes words (FieldsOf d) h = refl
  method_known k attributes words (InvariantOf e) h = refl
  method_known k attributes words (ConstructorOf n ps base cs b) h = refl
  method_known k attributes words (MethodOf r n ps cs b) h =
      let s = in_method (class_scope p.classes k) (is_static_word (word_of words)) (result_type p.classes r) in
      let m : MethodTree = record { attributes = attributes; modifiers = words; result = r; name = n; params = ps; clauses = cs; body = b } in
      let both = none_left (written_type_faults p.classes r) (body_faults s ps None cs b) h in
      and_from _ _ (of_body s refl (method_env p.classes k m) (env_of p faultless k (is_static m) ps) ps None cs b both.1) refl

  constructor_known : (k : ℕ) (attributes : List NameTree) (words : List Modifier) (kind : MemberKindTree) → kind_faults (class_scope p.classes k) words kind ≡ [] → list_all has_known (map (constructor_body p.classes k) (constructors_of_kind attributes kind)) ≡ true
  constructor_known k attributes words (FieldsOf d) h = refl
  constructor_known k attributes words (InvariantOf e) h = refl
  constructor_known k attributes words (MethodOf r n ps cs b) h = refl
  constructor_known k attributes words (ConstructorOf n ps base cs b) h =
      and_from _ _ (of_body (class_scope p.classes k) refl (param_env p.classes k false ps) (env_of p faultless k false ps) ps base cs b h) refl

  methods_known : (k : ℕ) (ms : List MemberTree) → members_faults (class_scope p.classes k) ms ≡ [] → list_all has_known (map (method_body p.classes k) (methods_in ms)) ≡ true
  methods_known k [] h = refl
  methods_known k (m ∷ ms) h =
      let both = none_left (kind_faults (class_scope p.classes k) m.modifiers m.kind) (members_faults (class_scope p.classes k) ms) h in
      ap (list_all has_known) (map-append (method_body p.classes k) (methods_of_kind m.attributes m.modifiers m.kind) (methods_in ms))
      ∙ list_all-append has_known (map (method_body p.classes k) (methods_of_kind m.attributes m.modifiers m.kind)) (map (method_body p.classes k) (methods_in ms))
      ∙ rw (method_known k m.attributes m.modifiers m.kind both.0, methods_known k ms both.1) refl

  constructors_known : (k : ℕ) (ms : List MemberTree) → members_faults (class_scope p.classes k) ms ≡ [] → list_all has_known (map (constructor_body p.classes k) (constructors_in ms)) ≡ true
  constructors_known k [] h = refl
  constructors_known k (m ∷ ms) h =
      let both = none_left (kind_faults (class_scope p.classes k) m.modifiers m.kind) (members_faults (class_scope p.classes k) ms) h in
      ap (list_all has_known) (map-append (constructor_body p.classes k) (constructors_of_kind m.attributes m.kind) (constructors_in ms))
      ∙ list_all-append has_known (map (constructor_body p.classes k) (constructors_of_kind m.attributes m.kind)) (map (constructor_body p.classes k) (constructors_in ms))
      ∙ rw (constructor_known k m.attributes m.modifiers m.kind both.0, constructors_known k ms both.1) refl

  class_known : (i : ℕ) (c : ClassTree) → slice_get p.classes i ≡ Some c → list_all has_known (bodies_of p.classes (0 + i) c) ≡ true
  class_known i c at =
      let z : 0 + i ≡ i = omega arith in
      let none = (none_at p faultless i c at).members in
      rw z (list_all-append has_known (map (constructor_body p.classes i) (constructors_in c.members)) (map (method_body p.classes i) (methods_in c.members))
      ∙ rw (constructors_known i c.members none, methods_known i c.members none) refl)

pub have_declared_types : (p : ProgramTree) → program_faults p ≡ [] → HaveDeclaredTypes p
have_declared_types p faultless = classes_pass (has_known p faultless) p.classes 0 p.classes (class_known p faultless)
