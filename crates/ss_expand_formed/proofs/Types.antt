-- The locals of each body of an elaborated program have types of the table.
use Rattle.std.proofs.Common.{◌≡◌, ℕ, zero, suc, ◌+◌, ◌*◌, ◌<◌, List, [], ◌∷◌, ◌++◌, length, map, Bool, true, false, Option, Some, None, refl, ◌∙◌, arith}
use Rattle.std.specs.Prelude.{◌&&◌, ◌==◌, nat_le, slice_get, option_map, option_to_list, ◌%◌, if◌then◌else◌}
use Rattle.std.specs.List.{list_all}
use Rattle.std.proofs.lemmas.Bool.{and_parts, and_from, leb-true, lt-ltb}
use Rattle.std.proofs.lemmas.List.Folds.{list_all-append}
use Rattle.ss_core.specs.declared.names.Ty.{Ty}
use Rattle.ss_core.specs.Tree as core
use Rattle.ss_core.specs.Chain.{DeclaredField, fields_of_class, fields_from, all_fields, is_class, is_type, is_declared}
use Rattle.ss_ast.specs.Expressions.{TypeTree}
use Rattle.ss_ast.specs.Expressions as text
use Rattle.ss_ast.specs.Programs as written
use Rattle.ss_ast.specs.Programs.{ClassTree, ProgramTree}
use Rattle.ss_tables.specs.Members.{MethodTree, ConstructorTree, is_static, fields_in}
use Rattle.ss_tables.specs.Members as tables
use Rattle.ss_typed.specs.Tree.{ExprTree, StmtTree, StmtTrees, NoMore, Before, BlockTree, BlockOf, ParamTree, BaseTree, MembersTree, BodyTree, TypedTree, ReturnOf}
use Rattle.ss_typed.specs.Tree as typed
use Rattle.ss_resolver_names_rules.specs.Programs.{program_faults}
use Rattle.ss_resolver_rules.specs.Names.{Env, class_env}
use Rattle.ss_resolver_rules.specs.Numbers.{type_id}
use Rattle.ss_resolver_rules.specs.Expressions.{expr}
use Rattle.ss_resolver_rules.specs.Programs.{param_env, method_env, base_of, field, class, field_member, members, each, resolved}
use Rattle.ss_expand_rules.specs.Program.{field_at, table, Origin}
use Rattle.ss_typed.specs.Lookups.{members_of}
use Rattle.ss_typed.proofs.ByClass.{of_members}
use Rattle.ss_expand_rules.specs.Statements.{result_type}
use Rattle.ss_expand_rules.specs.Contracts.{first_param, declarations}
use Rattle.ss_paths.specs.Opening.{is_first}
use Rattle.ss_expand_rules.specs.Constructors.{before_all, initialize, initializers_from, initializers_in, initializers, after_initial, base_alone, with_base, constructor_stmts, implicit_constructor}
use Rattle.ss_typed.specs.Shapes.{closing_brace, in_block, has_base}
use Rattle.ss_expand_rules.specs.Bodies.{block_assigns, assigned_from, copy_of, copies, temporaries_from, with_return, statements, elaboration_context, temporary_types, written_body, wrapper_types}
use Rattle.ss_store_rules.specs.Typed.{is_local}
use Rattle.ss_expand_formed.specs.Laws.{core_of}
use Rattle.ss_expand_formed.proofs.Facts.{all_at}
use Rattle.ss_expand_formed.proofs.Bodies.{IsMade, WrittenConstructor, ImplicitConstructor, WrittenMethod, Wrapper, origin_of}
use Rattle.ss_expand_formed.proofs.Resolved.{bodies_pass, method_is, method_declared, stays_declared}
use Rattle.ss_expand_formed.proofs.TypesKnown.{known, are_known, all_known}
use Rattle.ss_expand_formed.proofs.Choosing.{on_either, all_more}
use Rattle.ss_expand_formed.proofs.Declared.{have_declared_types}
use Rattle.ss_expand_formed.specs.Types.{HaveLocals}
use Rattle.ss_expand_formed.proofs.Typings.{may_be, may_have, have_types, may_type, stmt_typed, block_typed, all_typed, object_known}
use Rattle.ss_expand_formed.proofs.Written.{Fits, type_fits, class_known, expr_ok, maybe_ok, params_fit, block_ok}
use Rattle.ss_expand_formed.proofs.Made.{are_types, params_typed, Fitting, stmts_made}

-- ---- the statements of a body

module _ (cs : List core.ClassTree) where
  typed-append : (xs ys : StmtTrees) → all_typed cs xs ≡ true → all_typed cs ys ≡ true → all_typed cs (before_all xs ys) ≡ true
  typed-append NoMore ys h g = g
  typed-append (Before x xs) ys h g = let both = and_parts (stmt_typed cs x) (all_typed cs xs) h in and_from _ _ both.0 (typed-append xs ys both.1 g)

  abbrev pub base_typed : Option BaseTree → Bool
  base_typed None = true
  base_typed (Some base) = have_types cs base.arguments

  abbrev pub members_typed : MembersTree → Bool
  members_typed m = list_all (λ (f : typed.FieldTree). may_type cs f.initial) m.fields

  abbrev pub field_typed : DeclaredField → Bool
  field_typed d = may_be cs d.field.ty

  module _ (p : TypedTree) (fields : list_all field_typed (all_fields p.classes) ≡ true) where
    one_typed : (t n : ℕ) → is_class cs t ≡ true → (m : typed.FieldTree) (e : Option ExprTree) → may_type cs e ≡ true → (d : Option DeclaredField) → field_at p n ≡ d → (more : StmtTrees) → all_typed cs more ≡ true → all_typed cs (initialize t n m e d more) ≡ true
    one_typed t n c m None g d at more h = h
    one_typed t n c m (Some e) g None at more h = h
    one_typed t n c m (Some e) g (Some d) at more h = and_from _ _ (and_from _ _ (and_from _ _ (all_at field_typed (all_fields p.classes) n d fields at) c) g) h

    fields_typed : (t n : ℕ) → is_class cs t ≡ true → (ms : List typed.FieldTree) → list_all (λ (f : typed.FieldTree). may_type cs f.initial) ms ≡ true → all_typed cs (initializers_from p t n ms) ≡ true
    fields_typed t n c [] h = refl
    fields_typed t n c (m ∷ ms) h =
        let both = and_parts (may_type cs m.initial) (list_all (λ (f : typed.FieldTree). may_type cs f.initial) ms) h in
        one_typed t n c m m.initial both.0 (field_at p n) refl (initializers_from p t (n + 1) ms) (fields_typed t (n + 1) c ms both.1)

    abbrev may_members : Option MembersTree → Bool
    may_members None = true
    may_members (Some m) = members_typed m

    initial_typed : (t : ℕ) → is_class cs t ≡ true → (m : Option MembersTree) → may_members m ≡ true → all_typed cs (initializers_in p t m) ≡ true
    initial_typed t c None h = refl
    initial_typed t c (Some m) h = fields_typed t _ c m.fields h

    members_found : (ms : List MembersTree) (i : ℕ) → list_all members_typed ms ≡ true → may_members (slice_get ms i) ≡ true
    members_found [] zero h = refl
    members_found [] (suc i) h = refl
    members_found (m ∷ ms) zero h = (and_parts (members_typed m) (list_all members_typed ms) h).0
    members_found (m ∷ ms) (suc i) h = members_found ms i (and_parts (members_typed m) (list_all members_typed ms) h).1

    after_typed : (t : ℕ) (s : StmtTree) (ss : StmtTrees) → stmt_typed cs s ≡ true → all_typed cs ss ≡ true → all_typed cs (after_initial p t s ss) ≡ true
    after_typed t s NoMore h g = and_from _ _ h refl
    after_typed t s (Before x xs) h g =
        let both = and_parts (stmt_typed cs x) (all_typed cs xs) g in
        on_either (λ (z : StmtTrees). all_typed cs z ≡ true) (is_first p t x) (Before x (after_initial p t s xs)) (Before s (Before x xs)) (and_from _ _ both.0 (after_typed t s xs h both.1)) (and_from _ _ h g)

    with_base_typed : (b : BodyTree) (base : Option BaseTree) → base_typed base ≡ true → (ss : StmtTrees) → all_typed cs ss ≡ true → all_typed cs (with_base p b base ss) ≡ true
    with_base_typed b (Some base) g ss h = and_from _ _ g h
    with_base_typed b None g ss h =
        on_either (λ (z : StmtTrees). all_typed cs z ≡ true) (has_base ss) ss (if b.flags.delayed then Before (base_alone b) ss else after_initial p b.class (base_alone b) ss) h
        (on_either (λ (z : StmtTrees). all_typed cs z ≡ true) b.flags.delayed (Before (base_alone b) ss) (after_initial p b.class (base_alone b) ss) h (after_typed b.class (base_alone b) ss refl h))

    with_return_typed : (b : BodyTree) (r : Option Ty) (ss : StmtTrees) → all_typed cs ss ≡ true → all_typed cs (with_return b r ss) ≡ true
    with_return_typed b None ss h = typed-append ss (Before (ReturnOf (closing_brace b.block) None) NoMore) h refl
    with_return_typed b (Some t) ss h = h

    in_block_typed : (b : BlockTree) → block_typed cs b ≡ true → all_typed cs (in_block b) ≡ true
    in_block_typed (BlockOf q ss end) h = h

    pub statements_typed : (b : BodyTree) → list_all members_typed p.members ≡ true → is_class cs b.class ≡ true → base_typed b.base ≡ true → block_typed cs b.block ≡ true → all_typed cs (statements p b) ≡ true
    statements_typed b ms c base h =
        let inner = in_block_typed b.block h in
        with_return_typed b b.result (if b.flags.ctor then constructor_stmts p b else in_block b.block)
        (on_either (λ (z : StmtTrees). all_typed cs z ≡ true) b.flags.ctor (constructor_stmts p b) (in_block b.block)
        (typed-append (initializers p b.class) (with_base p b b.base (in_block b.block)) (initial_typed b.class c (members_of p b.class) (of_members (λ (z : Option MembersTree). may_members z ≡ true) refl p b.class (λ i. members_found p.members i ms))) (with_base_typed b b.base base (in_block b.block) inner))
        inner)

-- ---- locals

copies_local : (cs : List core.ClassTree) (block : BlockTree) (x : ℕ) (qs : List ParamTree) → list_all (λ (q : ParamTree). is_type cs q.ty) qs ≡ true → list_all (is_local cs) (map copy_of (assigned_from block x qs)) ≡ true
copies_local cs block x [] h = refl
copies_local cs block x (q ∷ qs) h =
    let both = and_parts (is_type cs q.ty) (list_all (λ (z : ParamTree). is_type cs z.ty) qs) h in
    let rest = copies_local cs block (x + 1) qs both.1 in
    on_either (λ (z : List ParamTree). list_all (is_local cs) (map copy_of z) ≡ true) (block_assigns x block) (q ∷ assigned_from block (x + 1) qs) (assigned_from block (x + 1) qs) (and_from _ _ (and_from _ _ both.0 refl) rest) rest

temporaries_local : (cs : List core.ClassTree) (i : ℕ) (ts : List Ty) → are_types cs ts ≡ true → list_all (is_local cs) (temporaries_from i ts) ≡ true
temporaries_local cs i [] h = refl
temporaries_local cs i (t ∷ ts) h = let both = and_parts (is_type cs t) (are_types cs ts) h in and_from _ _ (and_from _ _ both.0 refl) (temporaries_local cs (i + 1) ts both.1)

declared_class : (cs : List core.ClassTree) (t : ℕ) → is_declared cs t ≡ true → is_class cs t ≡ true
declared_class cs t h =
    let both = and_parts (nat_le 4 t && t % 2 == 0) (nat_le (t + 1) (4 + 2 * length cs)) h in
    let l = leb-true (t + 1) (4 + 2 * length cs) both.1 in
    lt-ltb t (4 + 2 * length cs) (omega arith)

module _ (p : ProgramTree) where
  abbrev C : List core.ClassTree
  C = (core_of p).classes

  -- ---- what is resolved

  class_fits : (k : ℕ) → k < length p.classes → (n : ℕ) → Fits p (record (class_env p.classes k) { next = n })
  class_fits k l n = record { classes = refl; class = l; outcome = refl; inner = refl; outer = refl }

  result_may : (r : Option TypeTree) → may_have C (option_map (type_id p.classes) r) ≡ true
  result_may None = refl
  result_may (Some t) = type_fits p p.classes refl t

  method_fits : (k : ℕ) → k < length p.classes → (m : MethodTree) → Fits p (method_env p.classes k m)
  method_fits k l m =
      let h = params_fit p (record (class_env p.classes k) { next = if is_static m then 0 else 1 }) (class_fits k l (if is_static m then 0 else 1)) m.params in
      record { classes = h.classes; class = h.class; outcome = result_may m.result; inner = h.inner; outer = h.outer }

  constructor_fits : (k : ℕ) → k < length p.classes → (c : ConstructorTree) → Fits p (param_env p.classes k false c.params)
  constructor_fits k l c = params_fit p (record (class_env p.classes k) { next = 1 }) (class_fits k l 1) c.params

  arguments_ok : (e : Env) → Fits p e → (es : List text.ExprTree) → have_types C (typed.arguments (map (expr e) es)) ≡ true
  arguments_ok e h [] = refl
  arguments_ok e h (a ∷ es) = and_from _ _ (expr_ok p e h a) (arguments_ok e h es)

  base_ok : (e : Env) → Fits p e → (b : Option written.BaseCallTree) → base_typed C (option_map (base_of e) b) ≡ true
  base_ok e h None = refl
  base_ok e h (Some b) = arguments_ok e h b.arguments

  abbrev body_typed : BodyTree → Bool
  body_typed b = is_class C b.class && (base_typed C b.base && block_typed C b.block)

  bodies_typed : list_all body_typed (resolved p).bodies ≡ true
  bodies_typed =
      bodies_pass body_typed p.classes
      (λ k d l. and_from _ _ (class_known p k l) (and_from _ _ (base_ok (param_env p.classes k false d.params) (constructor_fits k l d) d.base) (block_ok p (param_env p.classes k false d.params) (constructor_fits k l d) d.body)))
      (λ k m l. and_from _ _ (class_known p k l) (and_from _ _ refl (block_ok p (method_env p.classes k m) (method_fits k l m) m.body)))
      0 p.classes (omega arith)

  initial_ok : (e : Env) → Fits p e → (fs : List tables.FieldTree) → list_all (λ (f : typed.FieldTree). may_type C f.initial) (map (field_member e) fs) ≡ true
  initial_ok e h [] = refl
  initial_ok e h (f ∷ fs) = and_from _ _ (maybe_ok p e h f.initial) (initial_ok e h fs)

  members_ok : (k : ℕ) (cs : List ClassTree) → k + length cs ≡ length p.classes → list_all (members_typed C) (each (members p.classes) k cs) ≡ true
  members_ok k [] n = refl
  members_ok k (c ∷ cs) n =
      let l : k < length p.classes = omega arith in
      and_from _ _ (initial_ok (class_env p.classes k) (class_fits k l 1) (fields_in c.members)) (members_ok (k + 1) cs (omega arith))

  class_fields : (t : ℕ) (fs : List tables.FieldTree) → list_all (field_typed C) (fields_of_class t (map (field p.classes) fs)) ≡ true
  class_fields t [] = refl
  class_fields t (f ∷ fs) = and_from _ _ (type_fits p p.classes refl f.ty) (class_fields t fs)

  fields_ok : (t k : ℕ) (cs : List ClassTree) → list_all (field_typed C) (fields_from t (each (class p.classes) k cs)) ≡ true
  fields_ok t k [] = refl
  fields_ok t k (c ∷ cs) =
      list_all-append (field_typed C) (fields_of_class t (map (field p.classes) (fields_in c.members))) (fields_from (t + 2) (each (class p.classes) (k + 1) cs))
      ∙ rw (class_fields t (fields_in c.members), fields_ok (t + 2) (k + 1) cs) refl

  -- ---- bodies

  module _ (faultless : program_faults p ≡ []) where
    all_params : list_all (params_typed C) (resolved p).bodies ≡ true
    all_params =
        all_more (are_known p faultless) (params_typed C) (λ b h. (and_parts (list_all (known p faultless) (option_to_list b.result)) (list_all (λ (q : ParamTree). known p faultless q.ty) b.params) h).1)
        (resolved p).bodies (all_known p faultless)

    result_known : (r : Option Ty) → list_all (is_type C) (option_to_list r) ≡ true → is_type C (result_type r) ≡ true
    result_known None h = object_known C
    result_known (Some t) h = (and_parts (is_type C t) true h).0

    of_body : (b : BodyTree) (bs : List BodyTree) → body_typed b ≡ true → list_all (is_local C) b.locals ≡ true → list_all (is_type C) (option_to_list b.result) ≡ true → list_all (λ (q : ParamTree). is_type C q.ty) b.params ≡ true → list_all (is_local C) (written_body (resolved p) b bs).locals ≡ true
    of_body b bs h own result params =
        let class_and = and_parts (is_class C b.class) (base_typed C b.base && block_typed C b.block) h in
        let base_and = and_parts (base_typed C b.base) (block_typed C b.block) class_and.1 in
        let ss = statements_typed C (resolved p) (fields_ok 4 0 p.classes) b (members_ok 0 p.classes (omega arith)) class_and.0 base_and.0 base_and.1 in
        let fit : Fitting C (elaboration_context (resolved p) b 0) = record { bodies = all_params; result = result_known b.result result } in
        let made = stmts_made C (elaboration_context (resolved p) b 0) fit (statements (resolved p) b) ss [] refl in
        let temporaries = temporaries_local C 0 (temporary_types (resolved p) b) made in
        list_all-append (is_local C) (b.locals ++ copies b) (temporaries_from 0 (temporary_types (resolved p) b))
        ∙ rw (list_all-append (is_local C) b.locals (copies b), own, copies_local C b.block (first_param b) b.params params, temporaries) refl

    at_body : (n : ℕ) (b : BodyTree) (bs : List BodyTree) → slice_get (resolved p).bodies n ≡ Some b → list_all (is_local C) (written_body (resolved p) b bs).locals ≡ true
    at_body n b bs e =
        let types = and_parts (list_all (known p faultless) (option_to_list b.result)) (list_all (λ (q : ParamTree). known p faultless q.ty) b.params) (all_at (are_known p faultless) (resolved p).bodies n b (all_known p faultless) e) in
        of_body b bs (all_at body_typed (resolved p).bodies n b bodies_typed e) (all_at (λ (x : BodyTree). list_all (is_local C) x.locals) (resolved p).bodies n b (have_declared_types p faultless) e) types.0 types.1

    wrapper_known : (t : ℕ) → is_class C t ≡ true → (r : Option Ty) → list_all (is_type C) (option_to_list r) ≡ true → are_types C (wrapper_types t r) ≡ true
    wrapper_known t c None h = and_from _ _ c refl
    wrapper_known t c (Some r) h = and_from _ _ c h

    made_locals : (o : Origin) (y : core.BodyTree) → IsMade (resolved p) o y → list_all (is_local C) y.locals ≡ true
    made_locals o y (WrittenConstructor {n = n} {b = b} is em en eb) = at_body n b (b ∷ []) eb
    made_locals o y (ImplicitConstructor {t = t} {c = c} {m = m} is ec em none) =
        let b = implicit_constructor t c.name m.place in
        of_body b (b ∷ []) (and_from _ _ (declared_class C t (stays_declared (resolved p) t c ec)) refl) refl refl refl
    made_locals o y (WrittenMethod {t = t} {m = m} {b = b} is eb own) = let r = method_is (resolved p) (slice_get (table (resolved p) t) m) b eb in at_body r.0 b (declarations (resolved p) t m) r.1
    made_locals o y (Wrapper {t = t} {m = m} {b = b} is eb own em) =
        let r = method_is (resolved p) (slice_get (table (resolved p) t) m) b eb in
        let c = method_declared (resolved p) t m b eb in
        let types = and_parts (list_all (known p faultless) (option_to_list b.result)) (list_all (λ (q : ParamTree). known p faultless q.ty) b.params) (all_at (are_known p faultless) (resolved p).bodies r.0 b (all_known p faultless) r.1) in
        temporaries_local C 0 (wrapper_types t b.result) (wrapper_known t (declared_class C t (stays_declared (resolved p) t c.0 c.1)) b.result types.0)

pub have_locals : (p : ProgramTree) → program_faults p ≡ [] → HaveLocals (core_of p)
have_locals p faultless n y at = let from = origin_of (resolved p) n y at in made_locals p faultless from.origin y from.made
