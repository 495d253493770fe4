-- What holds of each statement of elaborated code.
use Rattle.std.proofs.Common.{◌≡◌, ℕ, ◌+◌, List, [], ◌∷◌, ◌++◌, length, map, Bool, true, false, Option, Some, None, refl, ◌∙◌}
use Rattle.std.specs.Prelude.{reverse, if◌then◌else◌}
use Rattle.std.specs.List.{list_all}
use Rattle.std.proofs.lemmas.Bool.{and_parts, and_from}
use Rattle.std.proofs.lemmas.List.Folds.{list_all-append}
use Rattle.ss_core.specs.declared.names.Place.{Place}
use Rattle.ss_core.specs.declared.names.Ty.{Ty}
use Rattle.ss_core.specs.Tree as core
use Rattle.ss_core.specs.Tree.{ExposedTree, BoolExpr, IfStmt, LoopStmt, UnpackStmt, PackStmt, AssertStmt, AssumeStmt, ReturnStmt, CodeTree, NoCode}
use Rattle.ss_core.specs.View.{code_of}
use Rattle.ss_typed.specs.Tree.{ExprTree, Arguments, SimpleTree, InitTree, DeclareFirst, SimpleFirst, BlockTree, BlockOf, StmtTree, InBlock, DeclareOf, SimpleOf, IfOf, IfElseOf, WhileOf, ForOf, ReturnOf, AssertOf, AssumeOf, ExposeOf, EmptyOf, StmtTrees, NoMore, Before}
use Rattle.ss_typed.specs.Types.{type_of}
use Rattle.ss_expand_rules.specs.Numbers.{Numbers, plain, all_plain}
use Rattle.ss_typed.specs.Shapes.{place_of}
use Rattle.ss_expand_rules.specs.Lifting.{Opened, ElaborationContext, Lifted, Valued, next, temporary_type, any_object, in_temporary, right_side, value}
use Rattle.ss_expand_rules.specs.Code.{Coded, nothing, then_code}
use Rattle.ss_expand_rules.specs.Ends.{can_end, block_can_end}
use Rattle.ss_expand_rules.specs.Simple.{simple}
use Rattle.ss_expand_rules.specs.Statements.{exposed, loop_while, begin, advance, pack_of, pack_this, packs, leave_with, result_type, kept_result, leave_value, leave, exposed_class, close, opened, expose_lifted, stmt, block, stmts}
use Rattle.ss_expand_formed.proofs.Choosing.{all_reverse}
use Rattle.ss_expand_formed.proofs.Shape.{Code, each-append}
use Rattle.ss_expand_formed.proofs.Choices.{where_chosen}
use Rattle.ss_expand_formed.proofs.Lifts.{Keeps, Runs, FitLift, FitValue, right_fits, value_fits, temporary_fits, local_fits}
use Rattle.ss_expand_formed.proofs.Simple.{PrintsOnly, InDeclared, KeepsSimple, declare_runs}

-- ---- what holds of each simple statement and of each expression

abbrev pub AllOf : (ExprTree → Type 0) → List ExprTree → Type 0
AllOf F [] = Unit {0}
AllOf F (e ∷ es) = F e × AllOf F es

abbrev pub AtFirst : (SimpleTree → Type 0) → (ExprTree → Type 0) → Option InitTree → Type 0
AtFirst G F None = Unit {0}
AtFirst G F (Some (DeclareFirst ds)) = InDeclared F ds
AtFirst G F (Some (SimpleFirst x)) = G x

abbrev pub AtStep : (SimpleTree → Type 0) → Option SimpleTree → Type 0
AtStep G None = Unit {0}
AtStep G (Some x) = G x

abbrev mutual
  pub At : (SimpleTree → Type 0) → (ExprTree → Type 0) → StmtTree → Type 0
  At G F (InBlock b) = InAll G F b
  At G F (DeclareOf ds) = InDeclared F ds
  At G F (SimpleOf x) = G x
  At G F (IfOf p e a) = F e × At G F a
  At G F (IfElseOf p e a b) = F e × At G F a × At G F b
  At G F (WhileOf p e is a) = F e × AllOf F is × At G F a
  At G F (ForOf p i e x is a) = AtFirst G F i × PrintsOnly F e × AtStep G x × AllOf F is × At G F a
  At G F (ReturnOf p e) = PrintsOnly F e
  At G F (AssertOf p e) = F e
  At G F (AssumeOf p e) = F e
  At G F (ExposeOf p e t b) = F e × InAll G F b
  At G F (EmptyOf p) = Unit {0}

  pub InAll : (SimpleTree → Type 0) → (ExprTree → Type 0) → BlockTree → Type 0
  InAll G F (BlockOf p ss end) = Along G F ss

  pub Along : (SimpleTree → Type 0) → (ExprTree → Type 0) → StmtTrees → Type 0
  Along G F NoMore = Unit {0}
  Along G F (Before s ss) = At G F s × Along G F ss

-- what is asked of the tests, beside what expressions ask
pub record KeepsStatements (ns : Numbers) (P : core.ExprTree → Bool) (test : core.StmtTree → Bool) : Type 0 where
  pub true_passes : (p : Place) → P (BoolExpr p true) ≡ true
  pub loop_passes : (p : Place) (is : List core.ExprTree) (prelude : CodeTree) (e : core.ExprTree) (turn : CodeTree) (xs : List ExposedTree) → list_all P is ≡ true → P e ≡ true → test (LoopStmt p is prelude e turn xs) ≡ true
  pub unpack_passes : (p : Place) (n t : ℕ) → test (UnpackStmt p (ns.first_temporary + n) t) ≡ true
  pub pack_passes : (p : Place) (n t : ℕ) → test (PackStmt p (ns.first_temporary + n) t) ≡ true
  pub this_passes : (p : Place) (t : ℕ) → test (PackStmt p 0 t) ≡ true
  pub assert_passes : (p : Place) (e : core.ExprTree) → P e ≡ true → test (AssertStmt p e) ≡ true
  pub assume_passes : (p : Place) (e : core.ExprTree) → P e ≡ true → test (AssumeStmt p e) ≡ true
  pub return_passes : (p : Place) (e : core.ExprTree) → P e ≡ true → test (ReturnStmt p (Some e)) ≡ true
  pub end_passes : (p : Place) → test (ReturnStmt p None) ≡ true

module _ (F : ExprTree → Type 0) (A : Arguments → Type 0) (P : core.ExprTree → Bool) (test : core.StmtTree → Bool) (G : SimpleTree → Type 0) where
  abbrev Passing : Code → Type 0
  Passing code = Runs F A P test code

  -- the packs of these exposes pass
  abbrev pub are_packed : List Opened → Bool
  are_packed os = list_all (λ (o : Opened). test (pack_of o)) os

  packs_run : (os : List Opened) → are_packed os ≡ true → Passing (map pack_of os)
  packs_run [] h = refl
  packs_run (o ∷ os) h = let both = and_parts (test (pack_of o)) (are_packed os) h in and_from _ _ both.0 (packs_run os both.1)

  -- in any exposes within this context
  module _ (z : ElaborationContext) (k : Keeps z.numbers F A P test) (w : KeepsSimple z.numbers F P test) (c : KeepsStatements z.numbers P test) where
    abbrev at : List Opened → ElaborationContext
    at os = record z { exposes = os }

    module _ (simple_run : (os : List Opened) (x : SimpleTree) (made : List Ty) → G x → Passing (simple (at os) x made).code) where
      all_plain_pass : (es : List ExprTree) → AllOf F es → list_all P (all_plain z.numbers es) ≡ true
      all_plain_pass [] h = refl
      all_plain_pass (e ∷ es) h = and_from _ _ (k.plain_passes e h.0) (all_plain_pass es h.1)

      -- ---- `if` and loops

      branch_runs : (p : Place) (v : Valued) (xs ys : Code) → FitValue F A P test v → Passing xs → Passing ys → Passing (v.code ++ IfStmt p v.value (code_of xs) (code_of ys) ∷ [])
      branch_runs p v xs ys h a b = each-append test v.code (IfStmt p v.value (code_of xs) (code_of ys) ∷ []) h.0 (and_from _ _ (and_from _ _ (and_from _ _ (k.if_passes p v.value (code_of xs) (code_of ys) h.1) a) b) refl)

      loop_runs : (os : List Opened) (p : Place) (is : List ExprTree) (e : Option ExprTree) (turn : List Ty → Coded) (made : List Ty) → AllOf F is → PrintsOnly F e → ((m : List Ty) → Passing (turn m).code) → Passing (loop_while (at os) p is e turn made).code
      loop_runs os p is None turn made h g a =
          let es = all_plain z.numbers is in
          and_from _ _ (and_from _ _ (and_from _ _ (c.loop_passes p es NoCode (BoolExpr p true) (code_of (turn made).code) (map exposed os) (all_plain_pass is h) (c.true_passes p)) refl) (a made)) refl
      loop_runs os p is (Some e) turn made h g a =
          let es = all_plain z.numbers is in
          let v = value (at os) e made in
          let fit = value_fits F A P test (at os) k e made g in
          and_from _ _ (and_from _ _ (and_from _ _ (c.loop_passes p es (code_of v.code) v.value (code_of (turn v.made).code) (map exposed os) (all_plain_pass is h) fit.1) fit.0) (a v.made)) refl

      begin_runs : (os : List Opened) (i : Option InitTree) (made : List Ty) → AtFirst G F i → Passing (begin (at os) i made).code
      begin_runs os None made h = refl
      begin_runs os (Some (DeclareFirst ds)) made h = declare_runs F A P test (at os) k w ds made h
      begin_runs os (Some (SimpleFirst x)) made h = simple_run os x made h

      advance_runs : (os : List Opened) (x : Option SimpleTree) (made : List Ty) → AtStep G x → Passing (advance (at os) x made).code
      advance_runs os None made h = refl
      advance_runs os (Some x) made h = simple_run os x made h

      then_runs : (made : List Ty) (d : Coded) (b : Bool) (f : List Ty → Coded) → Passing d.code → ((m : List Ty) → Passing (f m).code) → Passing (then_code d (if b then f else nothing)).code
      then_runs made d b f h g =
          each-append test d.code ((if b then f else nothing) d.made).code h (where_chosen (λ (x : List Ty → Coded). Passing (x d.made).code) b f nothing (λ yes. g d.made) (λ no. refl))

      -- ---- returns

      leaving : (os : List Opened) (p : Place) → are_packed os ≡ true → Passing (packs (at os) p)
      leaving os p h =
          each-append test (map pack_of (reverse os)) (pack_this (at os) p) (packs_run (reverse os) (all_reverse (λ (o : Opened). test (pack_of o)) os h))
          (where_chosen Passing z.body.flags.ctor (PackStmt p 0 z.body.class ∷ []) [] (λ yes. and_from _ _ (c.this_passes p z.body.class) refl) (λ no. refl))

      leave_with_runs : (os : List Opened) (p : Place) (v : Valued) → are_packed os ≡ true → FitValue F A P test v → Passing (leave_with (at os) p v).code
      leave_with_runs os p v h g =
          each-append test (v.code ++ packs (at os) p) (ReturnStmt p (Some v.value) ∷ []) (each-append test v.code (packs (at os) p) g.0 (leaving os p h)) (and_from _ _ (c.return_passes p v.value g.1) refl)

      leave_value_runs : (os : List Opened) (p : Place) (e : ExprTree) (around : List Opened) (made : List Ty) → are_packed os ≡ true → F e → Passing (leave_value (at os) p e around made).code
      leave_value_runs os p e [] made h g = leave_with_runs os p (value (at os) e made) h (value_fits F A P test (at os) k e made g)
      leave_value_runs os p e (o ∷ around) made h g =
          let l = right_side (at os) e made in
          leave_with_runs os p (kept_result (at os) e l) h (local_fits F A P test (at os) k (place_of e) (length l.made) (result_type z.body.result) l (right_fits F A P test (at os) k e made g))

      leave_runs : (os : List Opened) (p : Place) (e : Option ExprTree) (made : List Ty) → are_packed os ≡ true → PrintsOnly F e → Passing (leave (at os) p e made).code
      leave_runs os p None made h g = each-append test (packs (at os) p) (ReturnStmt p None ∷ []) (leaving os p h) (and_from _ _ (c.end_passes p) refl)
      leave_runs os p (Some e) made h g = leave_value_runs os p e os made h g

      -- ---- exposes

      close_runs : (o : Opened) (ends : Bool) (inside : Coded) → test (pack_of o) ≡ true → Passing inside.code → Passing (close o ends inside).code
      close_runs o false inside h g = g
      close_runs o true inside h g = each-append test inside.code (pack_of o ∷ []) g (and_from _ _ h refl)

      packed_within : (os : List Opened) (o : Opened) → are_packed os ≡ true → test (pack_of o) ≡ true → are_packed (os ++ o ∷ []) ≡ true
      packed_within os o h g = list_all-append (λ (x : Opened). test (pack_of x)) os (o ∷ []) ∙ and_from _ _ h (and_from _ _ g refl)

      expose_runs : (os : List Opened) (p : Place) (e : ExprTree) (t : ℕ) (ends : Bool) (inner : ElaborationContext → List Ty → Coded) (l : Lifted) → FitLift F A P test l → ((o : Opened) (m : List Ty) → test (pack_of o) ≡ true → Passing (inner (at (os ++ o ∷ [])) m).code) →
          Passing (expose_lifted (at os) p e t ends inner l).code
      expose_runs os p e t ends inner l h a =
          let o = opened p (next z.numbers l.made) t in
          let v = in_temporary z.numbers (place_of e) (temporary_type any_object (type_of e)) l in
          let fit = temporary_fits F A P test (at os) k (place_of e) (temporary_type any_object (type_of e)) l h in
          let packed = c.pack_passes p (length l.made) t in
          let inside = inner (at (os ++ o ∷ [])) v.made in
          each-append test (v.code ++ UnpackStmt p (next z.numbers l.made) t ∷ []) (close o ends inside).code
          (each-append test v.code (UnpackStmt p (next z.numbers l.made) t ∷ []) fit.0 (and_from _ _ (c.unpack_passes p (length l.made) t) refl))
          (close_runs o ends inside packed (a o v.made packed))

      -- ---- statements

      mutual
        pub stmt_runs : (os : List Opened) (x : StmtTree) (made : List Ty) → are_packed os ≡ true → At G F x → Passing (stmt (at os) x made).code
        stmt_runs os (InBlock b) made h g = block_runs os b made h g
        stmt_runs os (DeclareOf ds) made h g = declare_runs F A P test (at os) k w ds made g
        stmt_runs os (SimpleOf x) made h g = simple_run os x made g
        stmt_runs os (IfOf p e a) made h g =
            let v = value (at os) e made in
            branch_runs p v (stmt (at os) a v.made).code [] (value_fits F A P test (at os) k e made g.0) (stmt_runs os a v.made h g.1) refl
        stmt_runs os (IfElseOf p e a b) made h g =
            let v = value (at os) e made in
            let one = stmt (at os) a v.made in
            branch_runs p v one.code (stmt (at os) b one.made).code (value_fits F A P test (at os) k e made g.0) (stmt_runs os a v.made h g.1) (stmt_runs os b one.made h g.2)
        stmt_runs os (WhileOf p e is a) made h g = loop_runs os p is (Some e) (stmt (at os) a) made g.1 g.0 (λ m. stmt_runs os a m h g.2)
        stmt_runs os (ForOf p i e x is a) made h g =
            let first = begin (at os) i made in
            let turn = λ (m : List Ty). then_code (stmt (at os) a m) (if can_end a then advance (at os) x else nothing) in
            each-append test first.code (loop_while (at os) p is e turn first.made).code (begin_runs os i made g.0)
            (loop_runs os p is e turn first.made g.3 g.1 (λ m. then_runs m (stmt (at os) a m) (can_end a) (advance (at os) x) (stmt_runs os a m h g.4) (λ n. advance_runs os x n g.2)))
        stmt_runs os (ReturnOf p e) made h g = leave_runs os p e made h g
        stmt_runs os (AssertOf p e) made h g = and_from _ _ (c.assert_passes p (plain z.numbers e) (k.plain_passes e g)) refl
        stmt_runs os (AssumeOf p e) made h g = and_from _ _ (c.assume_passes p (plain z.numbers e) (k.plain_passes e g)) refl
        stmt_runs os (ExposeOf p e t b) made h g =
            expose_runs os p e (exposed_class e t) (block_can_end b) (λ y m. block y b m) (right_side (at os) e made) (right_fits F A P test (at os) k e made g.0)
            (λ o m packed. block_runs (os ++ o ∷ []) b m (packed_within os o h packed) g.1)
        stmt_runs os (EmptyOf p) made h g = refl

        pub block_runs : (os : List Opened) (b : BlockTree) (made : List Ty) → are_packed os ≡ true → InAll G F b → Passing (block (at os) b made).code
        block_runs os (BlockOf p ss end) made h g = stmts_run os ss made h g

        pub stmts_run : (os : List Opened) (ss : StmtTrees) (made : List Ty) → are_packed os ≡ true → Along G F ss → Passing (stmts (at os) ss made).code
        stmts_run os NoMore made h g = refl
        stmts_run os (Before x xs) made h g = then_runs made (stmt (at os) x made) (can_end x) (stmts (at os) xs) (stmt_runs os x made h g.0) (λ m. stmts_run os xs m h g.1)
