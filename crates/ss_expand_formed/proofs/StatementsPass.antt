-- Elaborated statements pass, where the resolved ones fit.
use Rattle.std.proofs.Common.{◌≡◌, ℕ, List, [], ◌∷◌, ◌++◌, map, Bool, true, false, Option, Some, None, refl, sym, ◌∙◌, ap, subst}
use Rattle.std.specs.Prelude.{reverse, if◌then◌else◌}
use Rattle.std.specs.List.{list_all}
use Rattle.std.proofs.lemmas.Bool.{and_parts, and_from, false≢true}
use Rattle.std.proofs.lemmas.List.Folds.{list_all-append}
use Rattle.ss_core.specs.declared.names.Place.{Place}
use Rattle.ss_core.specs.declared.names.Ty.{Ty}
use Rattle.ss_core.specs.declared.names.Ty.TheVariants as ty
use Rattle.ss_core.specs.Tree as core
use Rattle.ss_core.specs.Tree.{ExposedTree, BoolExpr, IfStmt, LoopStmt, UnpackStmt, PackStmt, ReturnStmt, NoCode}
use Rattle.ss_core.specs.View.{code_of}
use Rattle.ss_core.specs.Types.{nullable}
use Rattle.ss_typed.specs.Tree.{ExprTree, SimpleTree, InitTree, DeclareFirst, SimpleFirst, BlockTree, BlockOf, StmtTree, InBlock, DeclareOf, SimpleOf, IfOf, IfElseOf, WhileOf, ForOf, ReturnOf, AssertOf, AssumeOf, ExposeOf, EmptyOf, StmtTrees, NoMore, Before}
use Rattle.ss_typed.specs.Types.{type_of}
use Rattle.ss_owners_rules.specs.Words.{Allowed, NoWord, OfEntry}
use Rattle.ss_expand_rules.specs.Numbers.{plain, all_plain}
use Rattle.ss_typed.specs.Shapes.{place_of}
use Rattle.ss_expand_rules.specs.Lifting.{Opened, ElaborationContext, Valued, next, temporary_type, any_object, in_temporary, right_side, value}
use Rattle.ss_expand_rules.specs.Code.{Coded, nothing, then_code}
use Rattle.ss_expand_rules.specs.Ends.{can_end, block_can_end}
use Rattle.ss_expand_rules.specs.Statements.{exposed, loop_while, begin, advance, pack_of, pack_this, packs, leave_with, result_type, kept_result, leave_value, leave, exposed_class, close, opened, expose_lifted, stmt, block, stmts}
use Rattle.ss_store_rules.specs.Changes.{below}
use Rattle.ss_store_rules.specs.Types.{has_fitting, fits_type, is_bool, has_class, in_code, in_assert, is_condition}
use Rattle.ss_store_rules.specs.Typed.{has_type_in, is_returned, is_exposable}
use Rattle.ss_expand_formed.proofs.Choosing.{all_reverse}
use Rattle.ss_expand_formed.proofs.Counted.{closed_made}
use Rattle.ss_expand_formed.proofs.Shape.{Code, each-append}
use Rattle.ss_expand_formed.proofs.Growing.{Begins, begins_append}
use Rattle.ss_expand_formed.proofs.Growth.{loop_begins, advance_begins, then_grows, stmt_begins, block_begins, stmts_begin}
use Rattle.ss_expand_formed.proofs.Fit.{Context}
use Rattle.ss_expand_formed.proofs.Plain.{bare, bare_fitting}
use Rattle.ss_expand_formed.proofs.ExpressionsWords.{words, condition_in}
use Rattle.ss_expand_formed.proofs.Fits.{FitValue, FitTest, FitClaim, FitClaims, WhereGiven, FitFirst, FitStep, FitReturn, FitExposed, FitStmt, FitBlock, FitAll}
use Rattle.ss_expand_formed.proofs.Wider.{Wider, fit_wider}
use Rattle.ss_expand_formed.proofs.Values.{Frame, elaboration_context, Agrees, passes, Passing, HasMade, some_bool, some_class, some_fitting, fitting_itself, temporary_takes, code_is, made_before}
use Rattle.ss_expand_formed.proofs.Lifting.{condition_is, kept_in, made_last, right_passes, value_passes}
use Rattle.ss_expand_formed.proofs.StatementsSimple.{coding, declare_passes, simple_passes}

temporary_below : (test : ℕ → Bool) (t : Option Ty) → has_class test t ≡ true → has_class test (Some (temporary_type any_object t)) ≡ true
temporary_below test None h = absurd (false≢true h)
temporary_below test (Some ty.Int) h = absurd (false≢true h)
temporary_below test (Some ty.Bool) h = absurd (false≢true h)
temporary_below test (Some ty.Null) h = absurd (false≢true h)
temporary_below test (Some (ty.Ref t n)) h = h

module _ (z : Frame) (agrees : Agrees z) (source : Context) (wider : Wider source z.context) where
  abbrev C : List core.ClassTree
  C = z.program.classes

  abbrev K : Bool
  K = z.written.flags.ctor

  abbrev at : List Opened → ElaborationContext
  at os = elaboration_context z os

  abbrev Test : ExprTree → Type 0
  Test e = FitTest z.typed C source K z.first e

  abbrev If : (ExprTree → Type 0) → Option ExprTree → Type 0
  If F e = WhereGiven z.typed C source K z.first F e

  abbrev Claims : Allowed → List ExprTree → Type 0
  Claims w es = FitClaims z.typed C source K z.first w es

  -- what is open is of the class at which it is
  abbrev pub are_exposable : List Opened → Bool
  are_exposable os = list_all (λ (o : Opened). is_exposable C z.body o.local o.class) os

  -- ---- conditions

  claim_passes : (w : Allowed) (e : ExprTree) → FitClaim z.typed C source K z.first w e → is_condition C z.body (words w) (plain z.numbers e) ≡ true
  claim_passes w e f = condition_in z.typed C z.body z.context z.numbers agrees.apart w agrees.chain agrees.reads e (fit_wider z.typed C source z.context wider 0 e f.0) f.1 f.2 f.3

  claims_pass : (es : List ExprTree) → Claims OfEntry es → list_all (is_condition C z.body in_assert) (all_plain z.numbers es) ≡ true
  claims_pass [] f = refl
  claims_pass (e ∷ es) f = and_from _ _ (claim_passes OfEntry e f.0) (claims_pass es f.1)

  -- the test of an `if` or a loop
  test_passes : (os : List Opened) (e : ExprTree) (made : List Ty) → Test e → HasMade z (value (at os) e made).made → Passing z (value (at os) e made).code × (is_condition C z.body in_code (value (at os) e made).value ≡ true)
  test_passes os e made f m =
      let v = value_passes z agrees K os e made (coding z agrees source wider os e f.0) (some_bool (type_of e) f.1) m in
      (v.0, condition_is z agrees K (value (at os) e made).value (type_of e) v.1 f.1)

  exposes_pass : (os : List Opened) → are_exposable os ≡ true → list_all (λ (x : ExposedTree). is_exposable C z.body x.local x.class) (map exposed os) ≡ true
  exposes_pass [] h = refl
  exposes_pass (o ∷ os) h = let both = and_parts (is_exposable C z.body o.local o.class) (are_exposable os) h in and_from _ _ both.0 (exposes_pass os both.1)

  -- ---- loops

  loop_passes : (os : List Opened) → are_exposable os ≡ true → (p : Place) (is : List ExprTree) (e : Option ExprTree) (turn : List Ty → Coded) (made : List Ty) → Claims OfEntry is → If Test e → ((m : List Ty) → Begins m (turn m).made) → ((m : List Ty) → HasMade z (turn m).made → Passing z (turn m).code) →
      HasMade z (loop_while (at os) p is e turn made).made → Passing z (loop_while (at os) p is e turn made).code
  loop_passes os fine p is None turn made f g grows h m =
      and_from _ _ (and_from _ _ (and_from _ _ (and_from _ _ (and_from _ _ (claims_pass is f) refl) (exposes_pass os fine)) refl) (h made m)) refl
  loop_passes os fine p is (Some e) turn made f g grows h m =
      let v = value (at os) e made in
      let r = test_passes os e made g (made_before z agrees v.made (turn v.made).made (grows v.made) m) in
      and_from _ _ (and_from _ _ (and_from _ _ (and_from _ _ (and_from _ _ (claims_pass is f) r.1) (exposes_pass os fine)) r.0) (h v.made m)) refl

  branch_passes : (p : Place) (v : Valued) (xs ys : Code) → Passing z v.code → is_condition C z.body in_code v.value ≡ true → Passing z xs → Passing z ys → Passing z (v.code ++ IfStmt p v.value (code_of xs) (code_of ys) ∷ [])
  branch_passes p v xs ys h c a b = each-append (passes z) v.code (IfStmt p v.value (code_of xs) (code_of ys) ∷ []) h (and_from _ _ (and_from _ _ (and_from _ _ (and_from _ _ c refl) a) b) refl)

  begin_passes : (os : List Opened) (i : Option InitTree) (made : List Ty) → FitFirst z.typed C source K z.first i → HasMade z (begin (at os) i made).made → Passing z (begin (at os) i made).code
  begin_passes os None made f m = refl
  begin_passes os (Some (DeclareFirst ds)) made f m = declare_passes z agrees source wider os ds made f m
  begin_passes os (Some (SimpleFirst x)) made f m = simple_passes z agrees source wider os x made f m

  advance_passes : (os : List Opened) (x : Option SimpleTree) (made : List Ty) → FitStep z.typed C source K z.first x → HasMade z (advance (at os) x made).made → Passing z (advance (at os) x made).code
  advance_passes os None made f m = refl
  advance_passes os (Some x) made f m = simple_passes z agrees source wider os x made f m

  then_passes : (d : Coded) (b : Bool) (f : List Ty → Coded) → ((n : List Ty) → Begins n (f n).made) → (HasMade z d.made → Passing z d.code) → ((n : List Ty) → HasMade z (f n).made → Passing z (f n).code) → HasMade z (then_code d (if b then f else nothing)).made → Passing z (then_code d (if b then f else nothing)).code
  then_passes d true f grows h g m = each-append (passes z) d.code (f d.made).code (h (made_before z agrees d.made (f d.made).made (grows d.made) m)) (g d.made m)
  then_passes d false f grows h g m = each-append (passes z) d.code [] (h m) refl

  -- ---- returns

  packs_pass : (os : List Opened) → are_exposable os ≡ true → Passing z (map pack_of os)
  packs_pass [] h = refl
  packs_pass (o ∷ os) h = let both = and_parts (is_exposable C z.body o.local o.class) (are_exposable os) h in and_from _ _ both.0 (packs_pass os both.1)

  leaving : (os : List Opened) (p : Place) → are_exposable os ≡ true → Passing z (packs (at os) p)
  leaving os p h =
      each-append (passes z) (map pack_of (reverse os)) (pack_this (at os) p) (packs_pass (reverse os) (all_reverse (λ (o : Opened). is_exposable C z.body o.local o.class) os h)) (by K refl)
    where
      by : (b : Bool) → z.written.flags.ctor ≡ b → Passing z (if b then PackStmt p 0 z.written.class ∷ [] else [])
      by true i = and_from _ _ (agrees.this i) refl
      by false i = refl

  leave_with_passes : (os : List Opened) (p : Place) (v : Valued) (t : Ty) → are_exposable os ≡ true → Passing z v.code → z.body.result ≡ Some t → has_type_in C z.body v.value t ≡ true → Passing z (leave_with (at os) p v).code
  leave_with_passes os p v t fine h r fit =
      let returned : is_returned C z.body z.body.result (Some v.value) ≡ true = ap (λ o. is_returned C z.body o (Some v.value)) r ∙ fit in
      each-append (passes z) (v.code ++ packs (at os) p) (ReturnStmt p (Some v.value) ∷ []) (each-append (passes z) v.code (packs (at os) p) h (leaving os p fine)) (and_from _ _ (and_from _ _ returned refl) refl)

  leave_value_passes : (os : List Opened) (p : Place) (e : ExprTree) (t : Ty) (around : List Opened) (made : List Ty) → are_exposable os ≡ true → z.context.result ≡ Some t → FitValue z.typed C source K z.first t e → HasMade z (leave_value (at os) p e around made).made → Passing z (leave_value (at os) p e around made).code
  leave_value_passes os p e t [] made fine r f m =
      let v = value_passes z agrees K os e made (coding z agrees source wider os e f.0) (some_fitting C (type_of e) t f.1) m in
      let a = (value (at os) e made).value in
      leave_with_passes os p (value (at os) e made) t fine v.0 (agrees.result ∙ r) (ap (λ o. has_fitting C o t) (code_is z agrees a (bare (type_of e)) v.1) ∙ bare_fitting C (type_of e) t ∙ f.1)
  leave_value_passes os p e t (o ∷ around) made fine r f m =
      let l = right_side (at os) e made in
      let u = result_type z.written.result in
      let is : u ≡ t = ap result_type (agrees.returned ∙ r) in
      let h = right_passes z agrees K os e made (coding z agrees source wider os e f.0) (made_before z agrees l.made (l.made ++ u ∷ []) (begins_append l.made (u ∷ [])) m) in
      let k = kept_in z agrees K (place_of e) u l (type_of e) h (ap (has_fitting C (type_of e)) is ∙ f.1) m in
      let v = kept_result (at os) e l in
      let fit : has_type_in C z.body v.value t ≡ true = ap (λ o. has_fitting C o t) (code_is z agrees v.value (Some (nullable u)) k.1) ∙ ap (λ x. fits_type C (nullable x) t) is ∙ fitting_itself C (type_of e) t f.1 in
      leave_with_passes os p v t fine k.0 (agrees.result ∙ r) fit

  leave_passes : (os : List Opened) (p : Place) (e : Option ExprTree) (r : Option Ty) (made : List Ty) → are_exposable os ≡ true → z.context.result ≡ r → FitReturn z.typed C source K z.first r e → HasMade z (leave (at os) p e made).made → Passing z (leave (at os) p e made).code
  leave_passes os p None None made fine r f m =
      let returned : is_returned C z.body z.body.result None ≡ true = ap (λ o. is_returned C z.body o None) (agrees.result ∙ r) in
      each-append (passes z) (packs (at os) p) (ReturnStmt p None ∷ []) (leaving os p fine) (and_from _ _ (and_from _ _ returned refl) refl)
  leave_passes os p None (Some t) made fine r f m = absurd f
  leave_passes os p (Some e) None made fine r f m = absurd f
  leave_passes os p (Some e) (Some t) made fine r f m = leave_value_passes os p e t os made fine r f m

  -- ---- exposes

  close_passes : (o : Opened) (ends : Bool) (inside : Coded) → is_exposable C z.body o.local o.class ≡ true → Passing z inside.code → Passing z (close o ends inside).code
  close_passes o false inside h g = g
  close_passes o true inside h g = each-append (passes z) inside.code (pack_of o ∷ []) g (and_from _ _ h refl)

  one_more : (os : List Opened) (o : Opened) → are_exposable os ≡ true → is_exposable C z.body o.local o.class ≡ true → are_exposable (os ++ o ∷ []) ≡ true
  one_more os o h g = list_all-append (λ (x : Opened). is_exposable C z.body x.local x.class) os (o ∷ []) ∙ and_from _ _ h (and_from _ _ g refl)

  expose_passes : (os : List Opened) (p : Place) (e : ExprTree) (t : ℕ) (ends : Bool) (inner : ElaborationContext → List Ty → Coded) (made : List Ty) → FitExposed z.typed C source K z.first e t → ((o : Opened) (n : List Ty) → Begins n (inner (at (os ++ o ∷ [])) n).made) →
      ((o : Opened) (n : List Ty) → is_exposable C z.body o.local o.class ≡ true → HasMade z (inner (at (os ++ o ∷ [])) n).made → Passing z (inner (at (os ++ o ∷ [])) n).code) → HasMade z (expose_lifted (at os) p e t ends inner (right_side (at os) e made)).made →
      Passing z (expose_lifted (at os) p e t ends inner (right_side (at os) e made)).code
  expose_passes os p e t ends inner made f grows h m =
      let l = right_side (at os) e made in
      let kind = temporary_type any_object (type_of e) in
      let o = opened p (next z.numbers l.made) t in
      let v = in_temporary z.numbers (place_of e) kind l in
      let inside = inner (at (os ++ o ∷ [])) v.made in
      let within = subst (HasMade z) (closed_made o ends inside) m in
      let before = made_before z agrees v.made inside.made (grows o v.made) within in
      let lifts = right_passes z agrees K os e made (coding z agrees source wider os e f.0) (made_before z agrees l.made v.made (begins_append l.made (kind ∷ [])) before) in
      let test = λ (c : ℕ). below C c t in
      let k = kept_in z agrees K (place_of e) kind l (type_of e) lifts (temporary_takes C any_object (type_of e) (some_class test (type_of e) f.2) (λ n. refl)) before in
      let there = made_last z agrees K l.made kind before in
      let exposable : is_exposable C z.body (next z.numbers l.made) t ≡ true = and_from _ _ f.1 (ap (has_class test) there.0 ∙ temporary_below test (type_of e) f.2) in
      each-append (passes z) (v.code ++ UnpackStmt p (next z.numbers l.made) t ∷ []) (close o ends inside).code
      (each-append (passes z) v.code (UnpackStmt p (next z.numbers l.made) t ∷ []) k.0 (and_from _ _ exposable refl))
      (close_passes o ends inside exposable (h o v.made exposable within))

  -- ---- statements

  mutual
    pub stmt_passes : (os : List Opened) (x : StmtTree) (made : List Ty) → are_exposable os ≡ true → FitStmt z.typed C source K z.first x → HasMade z (stmt (at os) x made).made → Passing z (stmt (at os) x made).code
    stmt_passes os (InBlock b) made fine f m = block_passes os b made fine f m
    stmt_passes os (DeclareOf ds) made fine f m = declare_passes z agrees source wider os ds made f m
    stmt_passes os (SimpleOf x) made fine f m = simple_passes z agrees source wider os x made f m
    stmt_passes os (IfOf p e a) made fine f m =
        let v = value (at os) e made in
        let r = test_passes os e made f.0 (made_before z agrees v.made (stmt (at os) a v.made).made (stmt_begins (at os) a v.made) m) in
        branch_passes p v (stmt (at os) a v.made).code [] r.0 r.1 (stmt_passes os a v.made fine f.1 m) refl
    stmt_passes os (IfElseOf p e a b) made fine f m =
        let v = value (at os) e made in
        let one = stmt (at os) a v.made in
        let two = stmt (at os) b one.made in
        let before = made_before z agrees one.made two.made (stmt_begins (at os) b one.made) m in
        let r = test_passes os e made f.0 (made_before z agrees v.made one.made (stmt_begins (at os) a v.made) before) in
        branch_passes p v one.code two.code r.0 r.1 (stmt_passes os a v.made fine f.1 before) (stmt_passes os b one.made fine f.2 m)
    stmt_passes os (WhileOf p e is a) made fine f m = loop_passes os fine p is (Some e) (stmt (at os) a) made f.1 f.0 (stmt_begins (at os) a) (λ n i. stmt_passes os a n fine f.2 i) m
    stmt_passes os (ForOf p i e x is a) made fine f m =
        let first = begin (at os) i made in
        let turn = λ (n : List Ty). then_code (stmt (at os) a n) (if can_end a then advance (at os) x else nothing) in
        let grows = λ (n : List Ty). then_grows n (stmt (at os) a n) (can_end a) (advance (at os) x) (stmt_begins (at os) a n) (advance_begins (at os) x) in
        let rest = loop_while (at os) p is e turn first.made in
        each-append (passes z) first.code rest.code (begin_passes os i made f.0 (made_before z agrees first.made rest.made (loop_begins (at os) p is e turn grows first.made) m))
        (loop_passes os fine p is e turn first.made f.3 f.1 grows (λ n j. then_passes (stmt (at os) a n) (can_end a) (advance (at os) x) (advance_begins (at os) x) (λ k. stmt_passes os a n fine f.4 k) (λ l k. advance_passes os x l f.2 k) j) m)
    stmt_passes os (ReturnOf p e) made fine f m = leave_passes os p e source.result made fine (sym wider.result) f m
    stmt_passes os (AssertOf p e) made fine f m = and_from _ _ (and_from _ _ (claim_passes OfEntry e f) refl) refl
    stmt_passes os (AssumeOf p e) made fine f m = and_from _ _ (and_from _ _ (claim_passes NoWord e f) refl) refl
    stmt_passes os (ExposeOf p e t b) made fine f m =
        expose_passes os p e (exposed_class e t) (block_can_end b) (λ y n. block y b n) made f.0 (λ o n. block_begins (at (os ++ o ∷ [])) b n) (λ o n exposable i. block_passes (os ++ o ∷ []) b n (one_more os o fine exposable) f.1 i) m
    stmt_passes os (EmptyOf p) made fine f m = refl

    pub block_passes : (os : List Opened) (b : BlockTree) (made : List Ty) → are_exposable os ≡ true → FitBlock z.typed C source K z.first b → HasMade z (block (at os) b made).made → Passing z (block (at os) b made).code
    block_passes os (BlockOf p ss end) made fine f m = stmts_pass os ss made fine f m

    pub stmts_pass : (os : List Opened) (ss : StmtTrees) (made : List Ty) → are_exposable os ≡ true → FitAll z.typed C source K z.first ss → HasMade z (stmts (at os) ss made).made → Passing z (stmts (at os) ss made).code
    stmts_pass os NoMore made fine f m = refl
    stmts_pass os (Before x xs) made fine f m = then_passes (stmt (at os) x made) (can_end x) (stmts (at os) xs) (stmts_begin (at os) xs) (λ k. stmt_passes os x made fine f.0 k) (λ n k. stmts_pass os xs n fine f.1 k) m
