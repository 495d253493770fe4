-- Elaborated statements keep nulls out, and after them the elaboration knows what the phase of null knows.
use Rattle.std.proofs.Common.{◌≡◌, ℕ, List, [], ◌∷◌, ◌++◌, length, map, Bool, true, false, Option, Some, None, refl, sym, ◌∙◌, ap, subst, arith}
use Rattle.std.specs.Prelude.{not, ◌&&◌, ◌||◌, if◌then◌else◌, is_some, option_and_then, reverse}
use Rattle.std.proofs.lemmas.Bool.{and_parts, and_from, or_right, eq-eqb, false≢true}
use Rattle.ss_core.specs.declared.names.Place.{Place}
use Rattle.ss_core.specs.declared.names.Ty.{Ty}
use Rattle.ss_core.specs.Tree as core
use Rattle.ss_core.specs.Tree.{BoolExpr, LocalExpr, LoopStmt, UnpackStmt, PackStmt, AssertStmt, AssumeStmt, ReturnStmt, NoCode}
use Rattle.ss_core.specs.View.{code_of}
use Rattle.ss_typed.specs.Tree.{ExprTree, BoolOf, SimpleTree, InitTree, DeclareFirst, SimpleFirst, BlockTree, BlockOf, StmtTree, InBlock, DeclareOf, SimpleOf, IfOf, IfElseOf, WhileOf, ForOf, ReturnOf, AssertOf, AssumeOf, ExposeOf, EmptyOf, StmtTrees, Before}
use Rattle.ss_typed.specs.Tree as typed
use Rattle.ss_typed.specs.Types.{type_of}
use Rattle.ss_typed.specs.Assigned.{assigned, step_locals}
use Rattle.ss_paths.specs.Sets.{among}
use Rattle.ss_paths.specs.Paths as phase
use Rattle.ss_paths.specs.Paths.{faults_at, faults_in, faults_along, first_faults, step_faults}
use Rattle.ss_nonnull_rules.specs.NonNull as source
use Rattle.ss_nonnull_rules.specs.Facts.{forgotten}
use Rattle.ss_nonnull_rules.specs.Faults.{inside, wanted_if, returned_faults, null_check}
use Rattle.ss_expand_rules.specs.Numbers.{number, all_plain}
use Rattle.ss_typed.specs.Shapes.{is_true, place_of}
use Rattle.ss_expand_rules.specs.Code.{Coded, nothing, then_code}
use Rattle.ss_expand_rules.specs.Lifting.{Opened, Lifted, Valued, next, temporary_type, any_object, right_side, value}
use Rattle.ss_expand_rules.specs.Ends.{can_end, block_can_end}
use Rattle.ss_expand_rules.specs.Statements.{exposed, loop_while, begin, advance, pack_of, pack_this, packs, leave_with, result_type, kept_result, leave_value, leave, exposed_class, close, opened, expose_lifted, stmt, block, stmts}
use Rattle.ss_store_rules.specs.Good.{is_non_null}
use Rattle.ss_store_rules.specs.Locals.{each_inside}
use Rattle.ss_store_rules.specs.Paths.{is_literal_true, at_end, holds_along}
use Rattle.ss_store_rules.specs.NonNull.{Known, known_tested, known_head, is_non_null_type, may_stand_at, side_facts}
use Rattle.ss_expand_formed.proofs.Facts.{none_left}
use Rattle.ss_expand_formed.proofs.Choosing.{on_either}
use Rattle.ss_expand_formed.proofs.Shape.{Code}
use Rattle.ss_expand_formed.proofs.Along.{holds_none, holds-append}
use Rattle.ss_expand_formed.proofs.Counted.{closed_made}
use Rattle.ss_expand_formed.proofs.Kept.{spares}
use Rattle.ss_expand_formed.specs.Fitting.{Frame, elaboration_context, implied, fits, may_fit, begin_fits, advance_fits, returned_fits, stmt_fits, block_fits, all_fitting, Agrees, Builds, Covers, HasMade}
use Rattle.ss_expand_formed.proofs.Growing.{Begins, begins_itself, begins_append, last_at}
use Rattle.ss_expand_formed.proofs.Growth.{Codes, loop_begins, advance_begins, then_grows, stmt_begins, block_begins, stmts_begin}
use Rattle.ss_expand_formed.proofs.NullsPlain.{not_none, implied_true}
use Rattle.ss_expand_formed.proofs.Putting.{source_never, put_covers, put_sides, temporary_nullable, flow, check, Runs, runs_nothing, runs_join, runs_one, putting, put_facts, put_runs}
use Rattle.ss_expand_formed.proofs.Lifted.{never_in, core_never, Lifts, Values, made_before, temporary}
use Rattle.ss_expand_formed.proofs.Operations.{wanted_never}
use Rattle.ss_expand_formed.proofs.Expressions.{right_known, value_known}
use Rattle.ss_expand_formed.proofs.Assignments.{Done, done_nothing}
use Rattle.ss_expand_formed.proofs.NullsSimple.{declare_known, simple_known}
use Rattle.ss_expand_formed.proofs.NullsEnds.{none_after, no_end}
use Rattle.ss_expand_formed.proofs.Paths.{along, CoversWhere, Goes, goes_done, runs_goes, goes_then, tested_covers, branch_goes, loop_goes}
use Rattle.ss_expand_formed.proofs.Quiet.{step_quiet, stmt_quiet, head_covers}
use Rattle.ss_expand_formed.proofs.Spared.{Spares, loop_spares, then_spares, advance_spares, stmt_spares}

none_some : {A : Type 0} (a : Option A) (x : A) → a ≡ None → a ≡ Some x → ⊥
none_some a x h g = cc

some_then : {A : Type 0} (a : Option A) → option_and_then (λ (x : A). Some x) a ≡ a
some_then None = refl
some_then (Some x) = refl

module _ (z : Frame) (agrees : Agrees z) (builds : Builds z) where
  abbrev asked : phase.Check source.Known
  asked = null_check z.context

  abbrev Statement : (List Ty → Coded) → List Ty → source.Known → Option source.Known → Type 0
  Statement f made k after = (l : Known) → Covers z k l → HasMade z (f made).made → Goes z agrees l after (f made).code

  nothing_goes : (l : Known) (k : source.Known) → Covers z k l → Goes z agrees l (Some k) []
  nothing_goes l k c = record { held = refl; covers = c }

  step_goes : (l : Known) (k : source.Known) (x : core.StmtTree) → Covers z k l → Runs z l (x ∷ []) l → Goes z agrees l (Some k) (x ∷ [])
  step_goes l k x c r = goes_done z agrees l k (x ∷ []) (record { now = l; runs = r; covers = c })

  -- ---- tests

  literal_true : (os : List Opened) (e : ExprTree) (made : List Ty) → is_true e ≡ true → is_literal_true (value (elaboration_context z os) e made).value ≡ true
  literal_true os (BoolOf p b) made h = h
  literal_true os e made h = absurd (false≢true h)

  -- ---- returns

  packs_run : (l : Known) (os : List Opened) → Runs z l (map pack_of os) l
  packs_run l [] = runs_nothing z l
  packs_run l (o ∷ os) = runs_join z l l l (pack_of o ∷ []) (map pack_of os) (runs_one z l l (pack_of o) refl refl) (packs_run l os)

  this_runs : (l : Known) (p : Place) (os : List Opened) → Runs z l (pack_this (elaboration_context z os) p) l
  this_runs l p os = on_either (λ (xs : Code). Runs z l xs l) z.written.flags.ctor (PackStmt p 0 z.written.class ∷ []) [] (runs_one z l l (PackStmt p 0 z.written.class) refl refl) (runs_nothing z l)

  all_packs_run : (l : Known) (p : Place) (os : List Opened) → Runs z l (packs (elaboration_context z os) p) l
  all_packs_run l p os = runs_join z l l l (map pack_of (reverse os)) (pack_this (elaboration_context z os) p) (packs_run l (reverse os)) (this_runs l p os)

  may_leave : (l : Known) (v : core.ExprTree) (t : Option Ty) → (is_non_null_type t ≡ true → core_never z agrees l v ≡ true) → may_stand_at z.program z.body l v t ≡ true
  may_leave l v None h = refl
  may_leave l v (Some t) h = by (is_non_null t) refl
    where
      by : (b : Bool) → is_non_null t ≡ b → (not b || core_never z agrees l v) ≡ true
      by true i = h i
      by false i = refl

  leave_goes : (k : source.Known) (l : Known) (p : Place) (os : List Opened) (e : ExprTree) (v : Valued) → (h : Values z agrees k l e v) → (is_non_null_type z.body.result ≡ true → never_in z agrees k e ≡ true) → Goes z agrees l None (leave_with (elaboration_context z os) p v).code
  leave_goes k l p os e v h some =
      let front = runs_join z l h.now h.now v.code (packs (elaboration_context z os) p) h.runs (all_packs_run h.now p os) in
      runs_goes z agrees l h.now None (v.code ++ packs (elaboration_context z os) p) (ReturnStmt p (Some v.value) ∷ []) front (record { held = and_from _ _ (may_leave h.now v.value z.body.result (λ i. h.never (some i))) refl; covers = tt })

  -- what is returned is wanted to be of the result's type
  wanted_result : (k : source.Known) (e : ExprTree) (r : Option Ty) → is_some (type_of e) ≡ true → wanted_if z.context (Some k) e r ≡ [] → source.is_non_null_type r ≡ true → never_in z agrees k e ≡ true
  wanted_result k e None s w i = absurd (false≢true i)
  wanted_result k e (Some t) s w i = wanted_never z agrees [] k e t w i s

  kept_known : (k : source.Known) (l : Known) (os : List Opened) (e : ExprTree) (d : Lifted) → Lifts z agrees k l e d → HasMade z (d.made ++ result_type z.written.result ∷ []) → (is_non_null (result_type z.written.result) ≡ true → never_in z agrees k e ≡ true) → Values z agrees k l e (kept_result (elaboration_context z os) e d)
  kept_known k l os e d h made stand =
      let x = next z.numbers d.made in
      let p = place_of e in
      let t = result_type z.written.result in
      let kind = made (length d.made) t (last_at d.made t) in
      let now = putting z p x d.source h.now in
      let fact : now.facts x ≡ source_never z h.now d.source = put_facts z p x d.source h.now x ∙ rw (eq-eqb x x refl) refl in
      record {
        now = now;
        runs = runs_join z l h.now now d.code _ h.runs (put_runs z p x d.source h.now h.enters (λ i. h.never (stand (ap is_non_null_type (sym kind) ∙ i))));
        covers = put_covers z agrees p x d.source k h.now (omega arith) h.covers;
        told = λ u y i. ap (λ o. side_facts o (number z.numbers y)) (put_sides z p x d.source h.now u) ∙ h.told u y i;
        never = λ i. or_right _ _ (fact ∙ h.never i);
      }

  leave_value_goes : (k : source.Known) (l : Known) (p : Place) (all : List Opened) (e : ExprTree) (os : List Opened) (made : List Ty) → Covers z k l → returned_fits z (Some e) ≡ true → returned_faults z.context (Some e) (Some k) ≡ [] → HasMade z (leave_value (elaboration_context z all) p e os made).made →
      Goes z agrees l None (leave_value (elaboration_context z all) p e os made).code
  leave_value_goes k l p all e os made c f i m =
      let one = and_parts (fits z e && is_some (type_of e) && implied (is_non_null_type z.body.result) (source.is_non_null_type z.context.result)) (implied (is_non_null (result_type z.written.result)) (source.is_non_null_type z.context.result)) f in
      let two = and_parts (fits z e && is_some (type_of e)) (implied (is_non_null_type z.body.result) (source.is_non_null_type z.context.result)) one.0 in
      let three = and_parts (fits z e) (is_some (type_of e)) two.0 in
      let clean = none_left (inside z.context (Some k) e) (wanted_if z.context (Some k) e z.context.result) i in
      by os three.0 clean.0 (λ g. wanted_result k e z.context.result three.1 clean.1 (implied_true (is_non_null_type z.body.result) (source.is_non_null_type z.context.result) two.1 g)) (λ g. wanted_result k e z.context.result three.1 clean.1 (implied_true (is_non_null (result_type z.written.result)) (source.is_non_null_type z.context.result) one.1 g)) m
    where
      by : (os : List Opened) → fits z e ≡ true → inside z.context (Some k) e ≡ [] → (is_non_null_type z.body.result ≡ true → never_in z agrees k e ≡ true) → (is_non_null (result_type z.written.result) ≡ true → never_in z agrees k e ≡ true) → HasMade z (leave_value (elaboration_context z all) p e os made).made →
          Goes z agrees l None (leave_value (elaboration_context z all) p e os made).code
      by [] f i body kept m = leave_goes k l p all e (value (elaboration_context z all) e made) (value_known z agrees all e f k l made c i m) body
      by (o ∷ os) f i body kept m =
          let d = right_side (elaboration_context z all) e made in
          let h = right_known z agrees all e f k l made c i (made_before z agrees d.made (d.made ++ result_type z.written.result ∷ []) (begins_append d.made (result_type z.written.result ∷ [])) m) in
          leave_goes k l p all e (kept_result (elaboration_context z all) e d) (kept_known k l all e d h m kept) body

  leaves : (os : List Opened) (p : Place) (e : Option ExprTree) (k : source.Known) (made : List Ty) → returned_fits z e ≡ true → returned_faults z.context e (Some k) ≡ [] → Statement (leave (elaboration_context z os) p e) made k None
  leaves os p None k made f i l c m = runs_goes z agrees l l None (packs (elaboration_context z os) p) (ReturnStmt p None ∷ []) (all_packs_run l p os) (record { held = refl; covers = tt })
  leaves os p (Some e) k made f i l c m = leave_value_goes k l p os e os made c f i m

  -- ---- exposes

  packed : (l : Known) (a : Option source.Known) (xs : Code) (o : Opened) → Goes z agrees l a xs → Goes z agrees l a (xs ++ pack_of o ∷ [])
  packed l a xs o h = subst (λ b. Goes z agrees l b (xs ++ pack_of o ∷ [])) (some_then a) (goes_then z agrees l a (option_and_then (λ (k : source.Known). Some k) a) xs (pack_of o ∷ []) h (λ e. ap (option_and_then (λ (k : source.Known). Some k)) e)
      (λ k m e c. subst (λ b. Goes z agrees m b (pack_of o ∷ [])) (ap (option_and_then (λ (k : source.Known). Some k)) (sym e)) (step_goes m k (pack_of o) c (runs_one z m m (pack_of o) refl refl))))

  closes : (l : Known) (a : Option source.Known) (o : Opened) (ends : Bool) (c : Coded) → Goes z agrees l a c.code → Goes z agrees l a (close o ends c).code
  closes l a o true c h = packed l a c.code o h
  closes l a o false c h = h

  exposes : (os : List Opened) (p : Place) (e : ExprTree) (t : ℕ) (ends : Bool) (b : BlockTree) (k : source.Known) (made : List Ty) (after : Option source.Known) → fits z e ≡ true → inside z.context (Some k) e ≡ [] → ((o : Opened) (ms : List Ty) → Statement (block (elaboration_context z (os ++ o ∷ [])) b) ms k after) →
      Statement (λ made. expose_lifted (elaboration_context z os) p e t ends (λ s m. block s b m) (right_side (elaboration_context z os) e made)) made k after
  exposes os p e t ends b k made after f i inner l c m =
      let d = right_side (elaboration_context z os) e made in
      let kind = temporary_type any_object (type_of e) in
      let n = next z.numbers d.made in
      let o = opened p n t in
      let ms = d.made ++ kind ∷ [] in
      let body = block (elaboration_context z (os ++ o ∷ [])) b ms in
      let has : HasMade z body.made = subst (HasMade z) (closed_made o ends body) m in
      let grown = made_before z agrees ms body.made (block_begins (elaboration_context z (os ++ o ∷ [])) b ms) has in
      let h = right_known z agrees os e f k l made c i (made_before z agrees d.made ms (begins_append d.made (kind ∷ [])) grown) in
      let v = temporary z agrees k l e (place_of e) kind d h grown (temporary_nullable any_object (type_of e)) in
      let u = UnpackStmt p n t in
      let front = runs_join z l v.values.now v.values.now _ (u ∷ []) v.values.runs (runs_one z v.values.now v.values.now u refl refl) in
      runs_goes z agrees l v.values.now after _ (close o ends body).code front (closes v.values.now after o ends body (inner o ms v.values.now v.values.covers has))

  -- ---- loops

  -- what is repeated keeps nulls out
  abbrev Turns : (List Ty → Coded) → source.Known → Type 0
  Turns turn k = (made : List Ty) (l : Known) → Covers z k l → HasMade z (turn made).made → holds_along (flow z) (check z) (code_of (turn made).code) (Some l) ≡ true

  abbrev at_head : StmtTree → Option SimpleTree → source.Known → source.Known
  at_head a step k = record k { facts = forgotten a step k.facts }

  -- the statement of a loop assigns no local that it doesn't assign in the phase
  abbrev Leaves : List Opened → StmtTree → Option SimpleTree → Code → Type 0
  Leaves os a step xs = (x : ℕ) → z.locals x ≡ true → among (assigned a) x ≡ false → among (step_locals step) x ≡ false → Spares (number z.numbers x) xs

  loops : (os : List Opened) (p : Place) (is : List ExprTree) (e : Option ExprTree) (turn : List Ty → Coded) (a : StmtTree) (step : Option SimpleTree) (k : source.Known) (made : List Ty) → may_fit z e ≡ true → inside z.context (Some (at_head a step k)) (phase.test_of p e) ≡ [] →
      Turns turn (source.known_tested (phase.test_of p e) true (at_head a step k)) → Codes turn → Leaves os a step (loop_while (elaboration_context z os) p is e turn made).code → Statement (loop_while (elaboration_context z os) p is e turn) made k (phase.left (along z agrees) (phase.test_of p e) (at_head a step k))
  loops os p is None turn a step k made f i turns grows quiet l c m =
      let s = elaboration_context z os in
      let v : Valued = record { code = []; value = BoolExpr p true; made = made } in
      let x = LoopStmt p (all_plain z.numbers is) NoCode (BoolExpr p true) (code_of (turn made).code) (map exposed os) in
      let head = known_head x l in
      let covers = head_covers z agrees k l a step x c (λ y own no none. (and_parts (each_inside (spares (number z.numbers y)) x) true (quiet y own no none)).0) in
      let h : Values z agrees (at_head a step k) head (BoolOf p true) v = record {
        now = head;
        runs = runs_nothing z head;
        covers = covers;
        told = λ u y j. not_none y j;
        never = λ j. absurd (false≢true j);
      } in
      loop_goes z agrees (at_head a step k) l (BoolOf p true) v p (all_plain z.numbers is) (turn made).code (map exposed os) h refl (λ j. refl) (turns made (known_tested (BoolExpr p true) true head) (tested_covers z agrees (at_head a step k) head (BoolOf p true) v true h refl) m)
  loops os p is (Some e) turn a step k made f i turns grows quiet l c m =
      let s = elaboration_context z os in
      let v = value s e made in
      let x = LoopStmt p (all_plain z.numbers is) (code_of v.code) v.value (code_of (turn v.made).code) (map exposed os) in
      let head = known_head x l in
      let covers = head_covers z agrees k l a step x c (λ y own no none. (and_parts (each_inside (spares (number z.numbers y)) x) true (quiet y own no none)).0) in
      let h = value_known z agrees os e f (at_head a step k) head made covers i (made_before z agrees v.made (turn v.made).made (grows v.made) m) in
      loop_goes z agrees (at_head a step k) l e v p (all_plain z.numbers is) (turn v.made).code (map exposed os) h f (literal_true os e made) (turns v.made (known_tested v.value true h.now) (tested_covers z agrees (at_head a step k) head e v true h f) m)

  -- ---- code after code

  then_goes : (l : Known) (c : Coded) (b : Bool) (f : List Ty → Coded) (a after : Option source.Known) → Goes z agrees l a c.code → (a ≡ None → after ≡ None) → (b ≡ false → a ≡ None) →
      ((q : source.Known) (m : Known) → a ≡ Some q → Covers z q m → HasMade z (f c.made).made → Goes z agrees m after (f c.made).code) → HasMade z (then_code c (if b then f else nothing)).made → Goes z agrees l after (then_code c (if b then f else nothing)).code
  then_goes l c true f a after h none ends rest m = goes_then z agrees l a after c.code _ h none (λ q n e g. rest q n e g m)
  then_goes l c false f a after h none ends rest m = goes_then z agrees l a after c.code [] h none (λ q n e g. absurd (none_some a q (ends refl) e))

  then_holds : (l : Known) (c : Coded) (b : Bool) (f : List Ty → Coded) (a : Option source.Known) → Goes z agrees l a c.code → ((q : source.Known) (m : Known) → a ≡ Some q → Covers z q m → HasMade z (f c.made).made → holds_along (flow z) (check z) (code_of (f c.made).code) (Some m) ≡ true) →
      HasMade z (then_code c (if b then f else nothing)).made → holds_along (flow z) (check z) (code_of (then_code c (if b then f else nothing)).code) (Some l) ≡ true
  then_holds l c false f a h rest m = holds-append (flow z) (check z) c.code [] (Some l) h.held refl
  then_holds l c true f a h rest m = by (at_end (flow z) (code_of c.code) (Some l)) refl a h.covers rest
    where
      by : (o : Option Known) → at_end (flow z) (code_of c.code) (Some l) ≡ o → (a : Option source.Known) → CoversWhere z agrees a o → ((q : source.Known) (n : Known) → a ≡ Some q → Covers z q n → HasMade z (f c.made).made → holds_along (flow z) (check z) (code_of (f c.made).code) (Some n) ≡ true) →
          holds_along (flow z) (check z) (code_of (c.code ++ (f c.made).code)) (Some l) ≡ true
      by None e a g rest = holds-append (flow z) (check z) c.code (f c.made).code (Some l) h.held (ap (holds_along (flow z) (check z) (code_of (f c.made).code)) e ∙ holds_none (flow z) (check z) (code_of (f c.made).code))
      by (Some n) e None g rest = absurd g
      by (Some n) e (Some q) g rest = holds-append (flow z) (check z) c.code (f c.made).code (Some l) h.held (ap (holds_along (flow z) (check z) (code_of (f c.made).code)) e ∙ rest q n refl g m)

  -- ---- `for`

  begins : (os : List Opened) (i : Option InitTree) (k : source.Known) (l : Known) (made : List Ty) → Covers z k l → begin_fits z i ≡ true → first_faults (along z agrees) asked i (Some k) ≡ [] → HasMade z (begin (elaboration_context z os) i made).made → Done z agrees l (phase.begun (along z agrees) i k) (begin (elaboration_context z os) i made).code
  begins os None k l made c f i m = done_nothing z agrees l k c
  begins os (Some (DeclareFirst ds)) k l made c f i m = declare_known z agrees builds os ds k l made c f i m
  begins os (Some (SimpleFirst x)) k l made c f i m = simple_known z agrees builds os x k l made c f i m

  steps_hold : (os : List Opened) (x : Option SimpleTree) (k : source.Known) (l : Known) (made : List Ty) → Covers z k l → advance_fits z x ≡ true → step_faults asked x (Some k) ≡ [] → HasMade z (advance (elaboration_context z os) x made).made → holds_along (flow z) (check z) (code_of (advance (elaboration_context z os) x made).code) (Some l) ≡ true
  steps_hold os None k l made c f i m = refl
  steps_hold os (Some x) k l made c f i m = (simple_known z agrees builds os x k l made c f i m).runs.checked

  -- ---- statements

  abbrev At : StmtTree → Type 0
  At x = (os : List Opened) (k : source.Known) (made : List Ty) → faults_at (along z agrees) asked x (Some k) ≡ [] → Statement (stmt (elaboration_context z os) x) made k (phase.behind (along z agrees) x k)

  if_goes : (os : List Opened) (p : Place) (e : ExprTree) (a : StmtTree) (k : source.Known) (made : List Ty) → fits z e ≡ true → At a → faults_at (along z agrees) asked (IfOf p e a) (Some k) ≡ [] → Statement (stmt (elaboration_context z os) (IfOf p e a)) made k (phase.behind (along z agrees) (IfOf p e a) k)
  if_goes os p e a k made f one i l c m =
      let s = elaboration_context z os in
      let v = value s e made in
      let clean = none_left (inside z.context (Some k) e) (faults_at (along z agrees) asked a (Some (source.known_tested e true k))) i in
      let h = value_known z agrees os e f k l made c clean.0 (made_before z agrees v.made (stmt s a v.made).made (stmt_begins s a v.made) m) in
      branch_goes z agrees k l e v p (phase.behind (along z agrees) a (source.known_tested e true k)) (Some (source.known_tested e false k)) (stmt s a v.made).code [] h
      (one os (source.known_tested e true k) v.made clean.1 (known_tested v.value true h.now) (tested_covers z agrees k l e v true h f) m)
      (nothing_goes (known_tested v.value false h.now) (source.known_tested e false k) (tested_covers z agrees k l e v false h f))

  if_else_goes : (os : List Opened) (p : Place) (e : ExprTree) (a b : StmtTree) (k : source.Known) (made : List Ty) → fits z e ≡ true → At a → At b → faults_at (along z agrees) asked (IfElseOf p e a b) (Some k) ≡ [] →
      Statement (stmt (elaboration_context z os) (IfElseOf p e a b)) made k (phase.behind (along z agrees) (IfElseOf p e a b) k)
  if_else_goes os p e a b k made f one two i l c m =
      let s = elaboration_context z os in
      let v = value s e made in
      let x = stmt s a v.made in
      let y = stmt s b x.made in
      let clean = none_left (inside z.context (Some k) e ++ faults_at (along z agrees) asked a (Some (source.known_tested e true k))) (faults_at (along z agrees) asked b (Some (source.known_tested e false k))) i in
      let parts = none_left (inside z.context (Some k) e) (faults_at (along z agrees) asked a (Some (source.known_tested e true k))) clean.0 in
      let known = made_before z agrees x.made y.made (stmt_begins s b x.made) m in
      let h = value_known z agrees os e f k l made c parts.0 (made_before z agrees v.made x.made (stmt_begins s a v.made) known) in
      branch_goes z agrees k l e v p (phase.behind (along z agrees) a (source.known_tested e true k)) (phase.behind (along z agrees) b (source.known_tested e false k)) x.code y.code h
      (one os (source.known_tested e true k) v.made parts.1 (known_tested v.value true h.now) (tested_covers z agrees k l e v true h f) known)
      (two os (source.known_tested e false k) x.made clean.1 (known_tested v.value false h.now) (tested_covers z agrees k l e v false h f) m)

  while_goes : (os : List Opened) (p : Place) (e : ExprTree) (is : List ExprTree) (a : StmtTree) (k : source.Known) (made : List Ty) → fits z e ≡ true → stmt_fits z a ≡ true → At a → faults_at (along z agrees) asked (WhileOf p e is a) (Some k) ≡ [] →
      Statement (stmt (elaboration_context z os) (WhileOf p e is a)) made k (phase.behind (along z agrees) (WhileOf p e is a) k)
  while_goes os p e is a k made f g one i =
      let s = elaboration_context z os in
      let head = at_head a None k in
      let clean = none_left (inside z.context (Some head) e) (faults_at (along z agrees) asked a (Some (source.known_tested e true head))) i in
      loops os p is (Some e) (stmt s a) a None k made f clean.0 (λ ms n c m. (one os (source.known_tested e true head) ms clean.1 n c m).held) (stmt_begins s a)
      (λ x own no none. stmt_spares (number z.numbers x) s (agrees.own x own) (WhileOf p e is a) made (stmt_quiet z agrees x own a g no))

  for_goes : (os : List Opened) (p : Place) (j : Option InitTree) (e : Option ExprTree) (x : Option SimpleTree) (is : List ExprTree) (a : StmtTree) (k : source.Known) (made : List Ty) → begin_fits z j ≡ true → may_fit z e ≡ true → advance_fits z x ≡ true → stmt_fits z a ≡ true → At a →
      faults_at (along z agrees) asked (ForOf p j e x is a) (Some k) ≡ [] → Statement (stmt (elaboration_context z os) (ForOf p j e x is a)) made k (phase.behind (along z agrees) (ForOf p j e x is a) k)
  for_goes os p j e x is a k made f g h b one i l c m =
      let s = elaboration_context z os in
      let k1 = phase.begun (along z agrees) j k in
      let test = phase.test_of p e in
      let head = at_head a x k1 in
      let kk = source.known_tested test true head in
      let turn = λ (ms : List Ty). then_code (stmt s a ms) (if can_end a then advance s x else nothing) in
      let grows = λ (ms : List Ty). then_grows ms (stmt s a ms) (can_end a) (advance s x) (stmt_begins s a ms) (advance_begins s x) in
      let w = begin s j made in
      let F = along z agrees in
      let all = none_left (first_faults F asked j (Some k) ++ inside z.context (Some head) test ++ faults_at F asked a (Some kk)) (step_faults asked x (phase.behind F a kk)) i in
      let some = none_left (first_faults F asked j (Some k) ++ inside z.context (Some head) test) (faults_at F asked a (Some kk)) all.0 in
      let few = none_left (first_faults F asked j (Some k)) (inside z.context (Some head) test) some.0 in
      let known = made_before z agrees w.made (loop_while s p is e turn w.made).made (loop_begins s p is e turn grows w.made) m in
      let front = begins os j k l made c f few.0 known in
      let turns : Turns turn kk = λ ms n cc mm.
      then_holds n (stmt s a ms) (can_end a) (advance s x) (phase.behind F a kk) (one os kk ms some.1 n cc (inner ms mm))
      (λ q n1 e1 c1 m1. steps_hold os x q n1 (stmt s a ms).made c1 h (ap (step_faults asked x) (sym e1) ∙ all.1) m1) mm in
      let quiet : Leaves os a x (loop_while s p is e turn w.made).code = λ y own no none.
      loop_spares (number z.numbers y) s (agrees.own y own) p is e turn (λ ms. then_spares (number z.numbers y) s (agrees.own y own) (stmt s a ms) (can_end a) (advance s x) (stmt_spares (number z.numbers y) s (agrees.own y own) a ms (stmt_quiet z agrees y own a b no)) (λ ns. advance_spares (number z.numbers y) s (agrees.own y own) x ns (step_quiet z agrees y own x h none))) w.made in
      runs_goes z agrees l front.now (phase.left F test head) w.code _ front.runs (loops os p is e turn a x k1 w.made g few.1 turns grows quiet front.now front.covers m)
    where
      inner : (ms : List Ty) → HasMade z (then_code (stmt (elaboration_context z os) a ms) (if can_end a then advance (elaboration_context z os) x else nothing)).made → HasMade z (stmt (elaboration_context z os) a ms).made
      inner ms mm = made_before z agrees (stmt (elaboration_context z os) a ms).made _ (on_either (λ (f : List Ty → Coded). Begins (stmt (elaboration_context z os) a ms).made (f (stmt (elaboration_context z os) a ms).made).made) (can_end a) (advance (elaboration_context z os) x) nothing (advance_begins (elaboration_context z os) x (stmt (elaboration_context z os) a ms).made) (begins_itself (stmt (elaboration_context z os) a ms).made)) mm

  mutual
    pub stmt_known : (x : StmtTree) → stmt_fits z x ≡ true → At x
    stmt_known (InBlock b) f os k made i l c m = block_known b f os k made i l c m
    stmt_known (DeclareOf ds) f os k made i l c m = goes_done z agrees l (phase.all_declared (along z agrees) ds k) _ (declare_known z agrees builds os ds k l made c f i m)
    stmt_known (SimpleOf x) f os k made i l c m = goes_done z agrees l (source.known_done z.context x k) _ (simple_known z agrees builds os x k l made c f i m)
    stmt_known (IfOf p e a) f os k made i l c m = let both = and_parts (fits z e) (stmt_fits z a) f in if_goes os p e a k made both.0 (stmt_known a both.1) i l c m
    stmt_known (IfElseOf p e a b) f os k made i l c m =
        let one = and_parts (fits z e && stmt_fits z a) (stmt_fits z b) f in
        let two = and_parts (fits z e) (stmt_fits z a) one.0 in
        if_else_goes os p e a b k made two.0 (stmt_known a two.1) (stmt_known b one.1) i l c m
    stmt_known (WhileOf p e is a) f os k made i l c m = let both = and_parts (fits z e) (stmt_fits z a) f in while_goes os p e is a k made both.0 both.1 (stmt_known a both.1) i l c m
    stmt_known (ForOf p j e x is a) f os k made i l c m =
        let one = and_parts (begin_fits z j && may_fit z e && advance_fits z x) (stmt_fits z a) f in
        let two = and_parts (begin_fits z j && may_fit z e) (advance_fits z x) one.0 in
        let three = and_parts (begin_fits z j) (may_fit z e) two.0 in
        for_goes os p j e x is a k made three.0 three.1 two.1 one.1 (stmt_known a one.1) i l c m
    stmt_known (ReturnOf p e) f os k made i l c m = leaves os p e k made f i l c m
    stmt_known (AssertOf p e) f os k made i l c m = step_goes l k _ c (runs_one z l l _ refl refl)
    stmt_known (AssumeOf p e) f os k made i l c m = step_goes l k _ c (runs_one z l l _ refl refl)
    stmt_known (ExposeOf p e t b) f os k made i l c m =
        let both = and_parts (fits z e) (block_fits z b) f in
        let clean = none_left (inside z.context (Some k) e) (faults_in (along z agrees) asked b (Some k)) i in
        exposes os p e (exposed_class e t) (block_can_end b) b k made (phase.after_block (along z agrees) b k) both.0 clean.0 (λ o ms. block_known b both.1 (os ++ o ∷ []) k ms clean.1) l c m
    stmt_known (EmptyOf p) f os k made i l c m = nothing_goes l k c

    block_known : (b : BlockTree) → block_fits z b ≡ true → (os : List Opened) (k : source.Known) (made : List Ty) → faults_in (along z agrees) asked b (Some k) ≡ [] → Statement (block (elaboration_context z os) b) made k (phase.after_block (along z agrees) b k)
    block_known (BlockOf p ss end) f os k made i l c m = stmts_known ss f os k made i l c m

    pub stmts_known : (ss : StmtTrees) → all_fitting z ss ≡ true → (os : List Opened) (k : source.Known) (made : List Ty) → faults_along (along z agrees) asked ss (Some k) ≡ [] → Statement (stmts (elaboration_context z os) ss) made k (phase.at_end (along z agrees) ss (Some k))
    stmts_known typed.NoMore f os k made i l c m = nothing_goes l k c
    stmts_known (Before x xs) f os k made i l c m =
        let both = and_parts (stmt_fits z x) (all_fitting z xs) f in
        let s = elaboration_context z os in
        let F = along z agrees in
        let a = phase.behind F x k in
        let d = stmt s x made in
        let clean = none_left (faults_at F asked x (Some k)) (faults_along F asked xs a) i in
        let grown = on_either (λ (f : List Ty → Coded). Begins d.made (f d.made).made) (can_end x) (stmts s xs) nothing (stmts_begin s xs d.made) (begins_itself d.made) in
        let first = stmt_known x both.0 os k made clean.0 l c (made_before z agrees d.made _ grown m) in
        then_goes l d (can_end x) (stmts s xs) a (phase.at_end F xs a) first (λ e. ap (phase.at_end F xs) e ∙ none_after F xs) (no_end F x k)
        (λ q n e g mm. subst (λ b. Goes z agrees n (phase.at_end F xs b) (stmts s xs d.made).code) (sym e) (stmts_known xs both.1 os q d.made (ap (faults_along F asked xs) (sym e) ∙ clean.1) n g mm)) m

pub stmts_hold : (z : Frame) → Agrees z → Builds z → (ss : StmtTrees) → all_fitting z ss ≡ true → (os : List Opened) (k : source.Known) (made : List Ty) → faults_along (source.known_flow z.context) (null_check z.context) ss (Some k) ≡ [] → (l : Known) → Covers z k l → HasMade z (stmts (elaboration_context z os) ss made).made →
    holds_along (flow z) (check z) (code_of (stmts (elaboration_context z os) ss made).code) (Some l) ≡ true
stmts_hold z agrees builds ss f os k made i l c m = (stmts_known z agrees builds ss f os k made i l c m).held
