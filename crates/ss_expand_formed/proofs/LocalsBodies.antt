-- The code of each body of an elaborated program has its shape, in the numbers that the body has.
use Rattle.std.proofs.Common.{◌≡◌, ℕ, zero, suc, ◌+◌, ◌-◌, ◌≤◌, ◌<◌, List, [], ◌∷◌, ◌++◌, length, map, Bool, true, false, Option, Some, None, refl, sym, ◌∙◌, ap, subst, arith, ⊎_elim}
use Rattle.std.specs.Prelude.{◌&&◌, ◌==◌, nat_le, nat_lt, slice_get, unwrap_or, if◌then◌else◌, option_to_list}
use Rattle.std.specs.List.{list_all}
use Rattle.std.proofs.lemmas.Bool.{and_parts, and_from, cases_Bool, cases_lt, eq-eqb, le-leb, lt-ltb, leb-true, ltb-true}
use Rattle.std.proofs.lemmas.List.{length-map, length-append}
use Rattle.std.proofs.lemmas.Option.{slice_get_past}
use Rattle.ss_core.specs.declared.names.Place.{Place}
use Rattle.ss_core.specs.declared.names.Ty.{Ty}
use Rattle.ss_core.specs.declared.names.Ty.TheVariants as ty
use Rattle.ss_core.specs.Tree as core
use Rattle.ss_core.specs.Tree.{LocalExpr, AssignStmt, CallStmt, Base, FieldTree}
use Rattle.ss_core.specs.View.{code_of}
use Rattle.ss_core.specs.Chain.{DeclaredField}
use Rattle.ss_ast.specs.Programs.{ProgramTree, ClassTree}
use Rattle.ss_tables.specs.Members.{MethodTree, ConstructorTree, is_static}
use Rattle.ss_typed.specs.Tree.{ExprTree, LocalOf, SimpleTree, AssignOf, StepOf, InitTree, DeclareFirst, SimpleFirst, DeclaratorTree, BlockTree, BlockOf, StmtTree, InBlock, DeclareOf, SimpleOf, IfOf, IfElseOf, WhileOf, ForOf, ExposeOf, StmtTrees, NoMore, Before, ParamTree, BaseTree, MembersTree, BodyTree, TypedTree}
use Rattle.ss_typed.specs.Tree as typed
use Rattle.ss_resolver_rules.specs.Statements.{declared_in_block, local}
use Rattle.ss_resolver_rules.specs.Names.{Env, class_env}
use Rattle.ss_resolver_rules.specs.Programs.{param, param_env, method_env, method_body, constructor_body, resolved}
use Rattle.ss_expand_rules.specs.Program.{field_at, table, Origin, above_of, number_in_table}
use Rattle.ss_typed.specs.Lookups.{members_of}
use Rattle.ss_expand_rules.specs.Numbers.{number}
use Rattle.ss_expand_rules.specs.Contracts.{first_param, declarations}
use Rattle.ss_paths.specs.Opening.{is_first}
use Rattle.ss_expand_rules.specs.Constructors.{before_all, initialize, initializers_from, initializers_in, initializers, after_initial, base_alone, with_base, constructor_stmts, implicit_constructor}
use Rattle.ss_typed.specs.Shapes.{closing_brace, in_block, has_base, local_of}
use Rattle.ss_typed.specs.Assigned.{listed, put_locals, first_locals, step_locals, assigned, assigned_along}
use Rattle.ss_paths.specs.Sets.{among}
use Rattle.ss_paths.proofs.Among.{among_left, among_right, among_itself}
use Rattle.ss_expand_rules.specs.Bodies.{block_assigns, assigned_from, assigned_params, meant_from, first_copy, meant, results, numbers, copies, temporaries_from, copying_from, with_return, statements, elaboration_context, code_with, temporary_types, temporary_count, code, written_body, own_params, wrapper_types, wrapper_result, returned, wrapper_code, first_of_wrapper, wrapper_body, param_of, copy_of}
use Rattle.ss_store_rules.specs.Locals.{targets_only, this_types, argument_types, types_of, local_types, argument_count, result_number}
use Rattle.ss_store_rules.specs.Typed.{body_at}
use Rattle.ss_expand_rules.specs.Lifting.{Opened}
use Rattle.ss_expand_rules.specs.Statements.{opened}
use Rattle.ss_expand_formed.specs.Laws.{core_of}
use Rattle.ss_expand_formed.proofs.Facts.{all_at}
use Rattle.ss_expand_formed.proofs.Bodies.{IsMade, WrittenConstructor, ImplicitConstructor, WrittenMethod, Wrapper, origin_of}
use Rattle.ss_expand_formed.proofs.Resolved.{bodies_pass, method_is}
use Rattle.ss_expand_formed.proofs.Shape.{Code, is_from, from_more, Shape, Nothing, Join, Step, Temporary, Leave, Expose}
use Rattle.ss_expand_formed.proofs.Targets.{target_passes, simple_passes, declared_pass, begin_passes, advance_passes, stmt_passes, block_passes, all_pass}
use Rattle.ss_expand_formed.proofs.Shaped.{is_own, means_own, stmts_go}
use Rattle.ss_expand_formed.proofs.Counted.{stmts_same}
use Rattle.ss_expand_formed.proofs.Choosing.{on_either, all_more}
use Rattle.ss_expand_formed.proofs.Resolving.{params_numbered, block_in}

-- ---- what passes where a local is assigned

local_passes : (f h : ℕ → Bool) (e : ExprTree) → ((x : ℕ) → f x ≡ true → among (listed (local_of e)) x ≡ true → h x ≡ true) → target_passes f e ≡ true → target_passes h e ≡ true
local_passes f h (LocalOf p x t) more i = more x i (among_itself x [])
local_passes f h e more i = refl

simple_more : (f h : ℕ → Bool) (s : SimpleTree) → ((x : ℕ) → f x ≡ true → among (put_locals s) x ≡ true → h x ≡ true) → simple_passes f s ≡ true → simple_passes h s ≡ true
simple_more f h (AssignOf target o e) more i = local_passes f h target more i
simple_more f h (StepOf target o) more i = local_passes f h target more i
simple_more f h s more i = refl

module _ (f g h k : ℕ → Bool) (declared : (x : ℕ) → g x ≡ true → k x ≡ true) where
  declared_more : (ds : List DeclaratorTree) → declared_pass g ds ≡ true → declared_pass k ds ≡ true
  declared_more ds i = all_more (λ (d : DeclaratorTree). g d.local) (λ (d : DeclaratorTree). k d.local) (λ d j. declared d.local j) ds i

  begin_more : (b : Option InitTree) → ((x : ℕ) → f x ≡ true → among (first_locals b) x ≡ true → h x ≡ true) → begin_passes f g b ≡ true → begin_passes h k b ≡ true
  begin_more None more i = refl
  begin_more (Some (DeclareFirst ds)) more i = declared_more ds i
  begin_more (Some (SimpleFirst s)) more i = simple_more f h s more i

  step_more : (s : Option SimpleTree) → ((x : ℕ) → f x ≡ true → among (step_locals s) x ≡ true → h x ≡ true) → advance_passes f s ≡ true → advance_passes h s ≡ true
  step_more None more i = refl
  step_more (Some s) more i = simple_more f h s more i

  mutual
    stmt_more : (s : StmtTree) → ((x : ℕ) → f x ≡ true → among (assigned s) x ≡ true → h x ≡ true) → stmt_passes f g s ≡ true → stmt_passes h k s ≡ true
    stmt_more (InBlock b) more i = block_more b more i
    stmt_more (DeclareOf ds) more i = declared_more ds i
    stmt_more (SimpleOf s) more i = simple_more f h s more i
    stmt_more (IfOf p e a) more i = stmt_more a more i
    stmt_more (IfElseOf p e a b) more i =
        let both = and_parts (stmt_passes f g a) (stmt_passes f g b) i in
        and_from _ _ (stmt_more a (λ x y z. more x y (among_left (assigned a) (assigned b) x z)) both.0) (stmt_more b (λ x y z. more x y (among_right (assigned a) (assigned b) x z)) both.1)
    stmt_more (WhileOf p e is a) more i = stmt_more a more i
    stmt_more (ForOf p b e s is a) more i =
        let both = and_parts (begin_passes f g b) (advance_passes f s && stmt_passes f g a) i in
        let rest = and_parts (advance_passes f s) (stmt_passes f g a) both.1 in
        let first = first_locals b in
        let others = assigned a ++ step_locals s in
        and_from _ _ (begin_more b (λ x y z. more x y (among_left first others x z)) both.0)
        (and_from _ _ (step_more s (λ x y z. more x y (among_right first others x (among_right (assigned a) (step_locals s) x z))) rest.0)
        (stmt_more a (λ x y z. more x y (among_right first others x (among_left (assigned a) (step_locals s) x z))) rest.1))
    stmt_more (ExposeOf p e t b) more i = block_more b more i
    stmt_more s more i = refl

    pub block_more : (b : BlockTree) → ((x : ℕ) → f x ≡ true → block_assigns x b ≡ true → h x ≡ true) → block_passes f g b ≡ true → block_passes h k b ≡ true
    block_more (BlockOf p ss end) more i = all_of_more ss more i

    all_of_more : (ss : StmtTrees) → ((x : ℕ) → f x ≡ true → among (assigned_along ss) x ≡ true → h x ≡ true) → all_pass f g ss ≡ true → all_pass h k ss ≡ true
    all_of_more NoMore more i = refl
    all_of_more (Before s ss) more i =
        let both = and_parts (stmt_passes f g s) (all_pass f g ss) i in
        and_from _ _ (stmt_more s (λ x y z. more x y (among_left (assigned s) (assigned_along ss) x z)) both.0) (all_of_more ss (λ x y z. more x y (among_right (assigned s) (assigned_along ss) x z)) both.1)

-- ---- what a parameter is meant by

module _ (block : BlockTree) where
  -- one that is assigned is meant by its copy
  meant_at : (copy x : ℕ) (qs : List ParamTree) (i : ℕ) → block_assigns (x + i) block ≡ true → i < length qs →
      (c : ℕ) × (slice_get (meant_from block copy x qs) i ≡ Some c) × (copy ≤ c) × (c < copy + length (assigned_from block x qs))
  meant_at copy x [] i h l = absurd (omega arith)
  meant_at copy x (q ∷ qs) zero h l =
      let e : x + 0 ≡ x = omega arith in
      let yes : block_assigns x block ≡ true = subst (λ y. block_assigns y block ≡ true) e h in
      rw yes (copy, refl, omega arith, omega arith)
  meant_at copy x (q ∷ qs) (suc i) h l =
      let e : x + suc i ≡ x + 1 + i = omega arith in
      let rest : block_assigns (x + 1 + i) block ≡ true = subst (λ y. block_assigns y block ≡ true) e h in
      ⊎_elim
      (λ yes. let r = meant_at (copy + 1) (x + 1) qs i rest (omega arith) in let low = r.2 in let high = r.3 in rw yes (r.0, r.1, omega arith, omega arith))
      (λ no. let r = meant_at copy (x + 1) qs i rest (omega arith) in let low = r.2 in let high = r.3 in rw no (r.0, r.1, omega arith, omega arith))
      (cases_Bool (block_assigns x block))

  meant_length : (copy x : ℕ) (qs : List ParamTree) → length (meant_from block copy x qs) ≡ length qs
  meant_length copy x [] = refl
  meant_length copy x (q ∷ qs) =
      ⊎_elim
      (λ yes. rw yes (ap suc (meant_length (copy + 1) (x + 1) qs)))
      (λ no. rw no (ap suc (meant_length copy (x + 1) qs)))
      (cases_Bool (block_assigns x block))

  -- the copies are made of steps
  copying_goes : (t low first : ℕ) (copy x : ℕ) (qs : List ParamTree) → low ≤ copy → copy + length (assigned_from block x qs) ≤ first → Shape t low first [] 0 (copying_from block copy x qs) 0
  copying_goes t low first copy x [] l m = Nothing
  copying_goes t low first copy x (q ∷ qs) l m =
      ⊎_elim
      (λ yes.
      let n : copy + suc (length (assigned_from block (x + 1) qs)) ≤ first = rw yes at m in
      rw yes (Join (Step (AssignStmt q.place copy (LocalExpr q.place x)) refl (and_from _ _ (le-leb low copy l) (lt-ltb copy first (omega arith)))) (copying_goes t low first (copy + 1) (x + 1) qs (omega arith) (omega arith))))
      (λ no.
      let n : copy + length (assigned_from block (x + 1) qs) ≤ first = rw no at m in
      rw no (copying_goes t low first copy (x + 1) qs l n))
      (cases_Bool (block_assigns x block))

after_this : (static : Bool) (ms : List ℕ) (i : ℕ) → slice_get ((if static then [] else 0 ∷ []) ++ ms) ((if static then 0 else 1) + i) ≡ slice_get ms i
after_this true ms i = let e : 0 + i ≡ i = omega arith in ap (slice_get ms) e
after_this false ms i = let e : 1 + i ≡ suc i = omega arith in ap (slice_get (0 ∷ ms)) e

-- ---- written bodies

-- the locals that its block assigns are its parameters and its own, and those that it declares its own
abbrev pub is_placed : BodyTree → Bool
is_placed b = block_passes (is_from (first_param b) (first_copy b)) (is_from (first_param b + length b.params) (first_copy b)) b.block

module _ (b : BodyTree) where
  abbrev arguments : ℕ
  arguments = first_param b + length b.params

  abbrev pub first : ℕ
  first = first_copy b + length (assigned_params b)

  meant_own : (n : ℕ) (x : ℕ) → is_from (first_param b) (first_copy b) x ≡ true → block_assigns x b.block ≡ true → is_from arguments first (number (numbers b n) x) ≡ true
  meant_own n x within is =
      let both = and_parts (nat_le (first_param b) x) (nat_lt x (first_copy b)) within in
      let low = leb-true (first_param b) x both.0 in
      let high = ltb-true x (first_copy b) both.1 in
      let i = x - first_param b in
      let e : first_param b + i ≡ x = omega arith in
      let ms = meant_from b.block (first_copy b) (first_param b) b.params in
      let looked : slice_get (meant b) x ≡ slice_get ms i = ap (slice_get (meant b)) (sym e) ∙ after_this b.flags.is_static ms i in
      ⊎_elim
      (λ less.
      let r = meant_at b.block (first_copy b) (first_param b) b.params i (subst (λ y. block_assigns y b.block ≡ true) (sym e) is) less in
      let from = r.2 in
      let to = r.3 in
      let n : number (numbers b n) x ≡ r.0 = ap (λ o. unwrap_or o x) (looked ∙ r.1) in
      subst (λ y. is_from arguments first y ≡ true) (sym n) (and_from _ _ (le-leb arguments r.0 (omega arith)) (lt-ltb r.0 first (omega arith))))
      (λ past.
      let size = meant_length b.block (first_copy b) (first_param b) b.params in
      let n : number (numbers b n) x ≡ x = ap (λ o. unwrap_or o x) (looked ∙ slice_get_past ms i (omega arith)) in
      subst (λ y. is_from arguments first y ≡ true) (sym n) (and_from _ _ (le-leb arguments x (omega arith)) (lt-ltb x first (omega arith))))
      (cases_lt i (length b.params))

-- ---- the statements of a body

all_pass-append : (f g : ℕ → Bool) (xs ys : StmtTrees) → all_pass f g xs ≡ true → all_pass f g ys ≡ true → all_pass f g (before_all xs ys) ≡ true
all_pass-append f g NoMore ys h i = i
all_pass-append f g (Before x xs) ys h i = let both = and_parts (stmt_passes f g x) (all_pass f g xs) h in and_from _ _ both.0 (all_pass-append f g xs ys both.1 i)

module _ (f g : ℕ → Bool) (p : TypedTree) where
  initialize_passes : (t n : ℕ) (m : typed.FieldTree) (e : Option ExprTree) (d : Option DeclaredField) (more : StmtTrees) → all_pass f g more ≡ true → all_pass f g (initialize t n m e d more) ≡ true
  initialize_passes t n m None d more h = h
  initialize_passes t n m (Some e) None more h = h
  initialize_passes t n m (Some e) (Some d) more h = h

  initializers_pass : (t n : ℕ) (ms : List typed.FieldTree) → all_pass f g (initializers_from p t n ms) ≡ true
  initializers_pass t n [] = refl
  initializers_pass t n (m ∷ ms) = initialize_passes t n m m.initial (field_at p n) (initializers_from p t (n + 1) ms) (initializers_pass t (n + 1) ms)

  initial_pass : (t : ℕ) (m : Option MembersTree) → all_pass f g (initializers_in p t m) ≡ true
  initial_pass t None = refl
  initial_pass t (Some m) = initializers_pass t _ m.fields

  after_initial_passes : (t : ℕ) (s : StmtTree) (ss : StmtTrees) → stmt_passes f g s ≡ true → all_pass f g ss ≡ true → all_pass f g (after_initial p t s ss) ≡ true
  after_initial_passes t s NoMore h i = and_from _ _ h refl
  after_initial_passes t s (Before x xs) h i =
      let both = and_parts (stmt_passes f g x) (all_pass f g xs) i in
      on_either (λ (z : StmtTrees). all_pass f g z ≡ true) (is_first p t x) (Before x (after_initial p t s xs)) (Before s (Before x xs))
      (and_from _ _ both.0 (after_initial_passes t s xs h both.1))
      (and_from _ _ h i)

  with_base_passes : (b : BodyTree) (base : Option BaseTree) (ss : StmtTrees) → all_pass f g ss ≡ true → all_pass f g (with_base p b base ss) ≡ true
  with_base_passes b (Some base) ss h = h
  with_base_passes b None ss h =
      on_either (λ (z : StmtTrees). all_pass f g z ≡ true) (has_base ss) ss (if b.flags.delayed then Before (base_alone b) ss else after_initial p b.class (base_alone b) ss) h
      (on_either (λ (z : StmtTrees). all_pass f g z ≡ true) b.flags.delayed (Before (base_alone b) ss) (after_initial p b.class (base_alone b) ss) h (after_initial_passes b.class (base_alone b) ss refl h))

  with_return_passes : (b : BodyTree) (r : Option Ty) (ss : StmtTrees) → all_pass f g ss ≡ true → all_pass f g (with_return b r ss) ≡ true
  with_return_passes b None ss h = all_pass-append f g ss (Before (typed.ReturnOf (closing_brace b.block) None) NoMore) h refl
  with_return_passes b (Some t) ss h = h

  in_block_passes : (b : BlockTree) → block_passes f g b ≡ true → all_pass f g (in_block b) ≡ true
  in_block_passes (BlockOf q ss end) h = h

  statements_pass : (b : BodyTree) → block_passes f g b.block ≡ true → all_pass f g (statements p b) ≡ true
  statements_pass b h =
      let inside = in_block_passes b.block h in
      with_return_passes b b.result (if b.flags.ctor then constructor_stmts p b else in_block b.block)
      (on_either (λ (z : StmtTrees). all_pass f g z ≡ true) b.flags.ctor (constructor_stmts p b) (in_block b.block)
      (all_pass-append f g (initializers p b.class) (with_base p b b.base (in_block b.block)) (initial_pass b.class (members_of p b.class)) (with_base_passes b b.base (in_block b.block) inside))
      inside)

-- the code of a body, which makes as many temporaries as the body has
pub code_goes : (p : TypedTree) (b : BodyTree) → is_placed b ≡ true → Shape b.class (first_param b + length b.params) (first b) [] 0 (code p b) (temporary_count p b)
code_goes p b placed =
    let n = temporary_count p b in
    let s = elaboration_context p b n in
    let low = first_param b + length b.params in
    let own = block_more (is_from (first_param b) (first_copy b)) (is_from low (first_copy b)) (means_own low s) (is_own low s) (from_more low (first_copy b) (first b) (omega arith)) b.block (meant_own b n) placed in
    let stmts = stmts_go low s (statements p b) (statements_pass (means_own low s) (is_own low s) p b own) [] in
    let same : (code_with p b n).made ≡ temporary_types p b =
    stmts_same p b (meant b) (first b) (first b + n) (first b + 0) (first b + n + results b.result) (first b + 0 + results b.result) [] (statements p b) [] in
    Join (copying_goes b.block b.class low (first b) (first_copy b) (first_param b) b.params (omega arith) (omega arith))
    (subst (λ ts. Shape b.class low (first b) [] 0 (code_with p b n).code (length ts)) same stmts)

-- ---- numbers

temporaries_length : (i : ℕ) (ts : List Ty) → length (temporaries_from i ts) ≡ length ts
temporaries_length i [] = refl
temporaries_length i (t ∷ ts) = ap suc (temporaries_length (i + 1) ts)

this_length : (static : Bool) (t : Ty) → length (if static then [] else t ∷ []) ≡ (if static then 0 else 1)
this_length true t = refl
this_length false t = refl

arguments_length : (ts : List Ty) (us : List core.LocalTree) → length (ts ++ map (λ (l : core.LocalTree). l.ty) us) ≡ length ts + length us
arguments_length ts us = length-append ts (map (λ (l : core.LocalTree). l.ty) us) ∙ ap (λ n. length ts + n) (length-map us (λ (l : core.LocalTree). l.ty))

-- the number of a body's first temporary, after its arguments, its own locals and its copies
own_length : (p : TypedTree) (b : BodyTree) (bs : List BodyTree) → length (written_body p b bs).locals ≡ length b.locals + length (assigned_params b) + temporary_count p b
own_length p b bs =
    length-append (b.locals ++ copies b) (temporaries_from 0 (temporary_types p b))
    ∙ ap (λ n. n + length (temporaries_from 0 (temporary_types p b))) (length-append b.locals (copies b) ∙ ap (λ n. length b.locals + n) (length-map (assigned_params b) copy_of))
    ∙ ap (λ n. length b.locals + length (assigned_params b) + n) (temporaries_length 0 (temporary_types p b))

count_arguments : (p : TypedTree) (b : BodyTree) (bs : List BodyTree) → argument_count (written_body p b bs) ≡ first_param b + length b.params
count_arguments p b bs =
    arguments_length (this_types (written_body p b bs)) (map param_of b.params)
    ∙ ap (λ n. n + length (map param_of b.params)) (this_length b.flags.is_static (ty.Ref (record { 0 = b.class }) true))
    ∙ ap (λ n. first_param b + n) (length-map b.params param_of)

-- The result stands after the temporaries, where the code means it.
pub count_locals : (p : TypedTree) (b : BodyTree) (bs : List BodyTree) → result_number (written_body p b bs) ≡ first b + temporary_count p b
count_locals p b bs =
    let own = own_length p b bs in
    let arguments = count_arguments p b bs in
    omega arith

options_length : (r : Option Ty) → length (option_to_list r) ≡ results r
options_length None = refl
options_length (Some t) = refl

-- After all locals stand the bound names.
pub count_all : (p : TypedTree) (b : BodyTree) (bs : List BodyTree) → length (local_types (written_body p b bs)) ≡ first b + temporary_count p b + results b.result
count_all p b bs =
    let y = written_body p b bs in
    let sum = length-append (argument_types y ++ types_of y.locals) (option_to_list y.result) in
    let own = arguments_length (argument_types y) y.locals in
    let last = options_length b.result in
    let front = count_locals p b bs in
    omega arith

-- the code of a body has its shape in the numbers that the body has
pub record HasShape (y : core.BodyTree) : Type 0 where
  pub first : ℕ
  pub count : ℕ
  pub code : Code
  pub is_code : code_of code ≡ y.code
  pub order : argument_count y ≤ first
  pub within : first + count ≤ result_number y
  pub shape : Shape y.class (argument_count y) first [] 0 code count

written_shape : (p : TypedTree) (b : BodyTree) (bs : List BodyTree) → is_placed b ≡ true → HasShape (written_body p b bs)
written_shape p b bs placed =
    let arguments = count_arguments p b bs in
    let locals = count_locals p b bs in
    record {
      first = first b;
      count = temporary_count p b;
      code = code p b;
      is_code = refl;
      order = omega arith;
      within = omega arith;
      shape = subst (λ n. Shape b.class n (first b) [] 0 (code p b) (temporary_count p b)) (sym arguments) (code_goes p b placed);
    }

-- ---- wrappers

-- what a call of the method makes
abbrev wrapper_count : Option Ty → ℕ
wrapper_count None = 1
wrapper_count (Some t) = 2

wrapper_call : (t low at n : ℕ) (os : List Opened) (p : Place) (args : List core.ExprTree) (r : Option Ty) → Shape t low at os 1 (CallStmt p (wrapper_result r (at + 1)) (Base n) args ∷ []) (wrapper_count r)
wrapper_call t low at n os p args None = Step (CallStmt p None (Base n) args) refl refl
wrapper_call t low at n os p args (Some u) = Temporary (CallStmt p (Some (at + 1)) (Base n) args) refl (eq-eqb (at + 1) (at + 1) refl) refl

wrapper_length : (t : ℕ) (r : Option Ty) → length (wrapper_types t r) ≡ wrapper_count r
wrapper_length t None = refl
wrapper_length t (Some u) = refl

wrapper_shape : (p : TypedTree) (q : Place) (t m : ℕ) (b : BodyTree) (bs : List BodyTree) → HasShape (wrapper_body p q t m b bs)
wrapper_shape p q t m b bs =
    let y = wrapper_body p q t m b bs in
    let x = first_of_wrapper b in
    let n = number_in_table p (above_of p t) m in
    let args = own_params q 1 b.params in
    let o = opened q x t in
    let here : x ≡ x + 0 = omega arith in
    let e : argument_count y ≡ x = arguments_length (this_types y) (map param_of b.params) ∙ ap (λ k. 1 + k) (length-map b.params param_of) in
    let size : length y.locals ≡ wrapper_count b.result = temporaries_length 0 (wrapper_types t b.result) ∙ wrapper_length t b.result in
    let call = wrapper_call t x x n (o ∷ []) q args b.result in
    let first_step : targets_only (λ z. x + 0 == z) (AssignStmt q x (LocalExpr q 0)) ≡ true = eq-eqb (x + 0) x (sym here) in
    let opening = Expose (AssignStmt q x (LocalExpr q 0)) o true refl first_step here call in
    record {
      first = x;
      count = wrapper_count b.result;
      code = wrapper_code q t n x args (wrapper_result b.result (x + 1));
      is_code = refl;
      order = omega arith;
      within = omega arith;
      shape = subst (λ (k : ℕ). Shape t k x [] 0 (wrapper_code q t n x args (wrapper_result b.result (x + 1))) (wrapper_count b.result)) (sym e) (Join opening (Leave q (returned q (wrapper_result b.result (x + 1))) [] refl));
    }

-- ---- all bodies

method_placed : (cs : List ClassTree) (k : ℕ) (m : MethodTree) → is_placed (method_body cs k m) ≡ true
method_placed cs k m =
    let low : ℕ = if is_static m then 0 else 1 in
    let e0 : Env = record (class_env cs k) { next = if is_static m then 0 else 1 } in
    let r = params_numbered low e0 m.params refl (omega arith) in
    let b = method_body cs k m in
    let e = method_env cs k m in
    let next = r.next in
    let params = length-map m.params (param e) in
    let locals = length-map (declared_in_block m.body) (local e) in
    block_in low (first_param b + length b.params) (first_copy b) (omega arith) e r.names (omega arith) m.body (omega arith)

constructor_placed : (cs : List ClassTree) (k : ℕ) (c : ConstructorTree) → is_placed (constructor_body cs k c) ≡ true
constructor_placed cs k c =
    let e0 : Env = record (class_env cs k) { next = 1 } in
    let r = params_numbered 1 e0 c.params refl (omega arith) in
    let b = constructor_body cs k c in
    let e = param_env cs k false c.params in
    let next = r.next in
    let params = length-map c.params (param e) in
    let locals = length-map (declared_in_block c.body) (local e) in
    block_in 1 (first_param b + length b.params) (first_copy b) (omega arith) e r.names (omega arith) c.body (omega arith)

all_placed : (p : ProgramTree) → list_all is_placed (resolved p).bodies ≡ true
all_placed p = bodies_pass is_placed p.classes (λ k d l. constructor_placed p.classes k d) (λ k m l. method_placed p.classes k m) 0 p.classes (omega arith)

made_shape : (p : ProgramTree) (o : Origin) (y : core.BodyTree) → IsMade (resolved p) o y → HasShape y
made_shape p o y (WrittenConstructor {n = n} {b = b} is em en eb) = written_shape (resolved p) b (b ∷ []) (all_at is_placed (resolved p).bodies n b (all_placed p) eb)
made_shape p o y (ImplicitConstructor {t = t} {c = c} {m = m} is ec em none) = let b = implicit_constructor t c.name m.place in written_shape (resolved p) b (b ∷ []) refl
made_shape p o y (WrittenMethod {t = t} {m = m} {b = b} is eb own) =
    let at = method_is (resolved p) (slice_get (table (resolved p) t) m) b eb in
    written_shape (resolved p) b (declarations (resolved p) t m) (all_at is_placed (resolved p).bodies at.0 b (all_placed p) at.1)
made_shape p o y (Wrapper {t = t} {m = m} {b = b} {ms = ms} is eb own em) = wrapper_shape (resolved p) ms.place t m b (declarations (resolved p) t m)

-- each body of the elaboration
pub shape_of : (p : ProgramTree) (n : ℕ) (y : core.BodyTree) → body_at (core_of p) n ≡ Some y → HasShape y
shape_of p n y at = let from = origin_of (resolved p) n y at in made_shape p from.origin y from.made
