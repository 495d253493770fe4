-- The elaboration of a body keeps nulls out.
use Rattle.std.proofs.Common.{◌≡◌, ℕ, suc, ◌+◌, ◌<◌, List, [], ◌∷◌, ◌++◌, length, Bool, true, false, Option, Some, None, refl, sym, ◌∙◌, ap, subst, arith, append_assoc, ⊎_elim}
use Rattle.std.specs.Prelude.{not, slice_get, if◌then◌else◌, option_to_list, option_and_then}
use Rattle.std.proofs.lemmas.Bool.{and_parts, and_from, or_left, cases_Bool, false≢true}
use Rattle.std.proofs.lemmas.List.{length-map, length-append}
use Rattle.ss_core.specs.declared.names.Place.{Place}
use Rattle.ss_core.specs.declared.names.Ty.{Ty}
use Rattle.ss_core.specs.declared.names.Ty.TheVariants as ty
use Rattle.ss_core.specs.Tree as core
use Rattle.ss_core.specs.Tree.{LocalExpr, AssignStmt}
use Rattle.ss_core.specs.View.{code_of}
use Rattle.ss_typed.specs.Tree.{BlockTree, BlockOf, StmtTree, ReturnOf, StmtTrees, Before, ParamTree, BodyTree, TypedTree}
use Rattle.ss_typed.specs.Tree as typed
use Rattle.ss_paths.specs.Sets.{none}
use Rattle.ss_paths.specs.Assigned.{assigned_first}
use Rattle.ss_paths.specs.Paths as phase
use Rattle.ss_nonnull_rules.specs.NonNull as source
use Rattle.ss_nonnull_rules.specs.Faults as faults
use Rattle.ss_nonnull_rules.specs.Program.{null_context_of, only_fields}
use Rattle.ss_expand_rules.specs.Contracts.{first_param}
use Rattle.ss_expand_rules.specs.Constructors.{before_all, constructor_stmts}
use Rattle.ss_typed.specs.Shapes.{closing_brace, in_block}
use Rattle.ss_expand_rules.specs.Lifting.{Pure}
use Rattle.ss_expand_rules.specs.Bodies.{block_assigns, assigned_from, assigned_params, first_copy, meant, results, copies, temporaries_from, copying_from, copying, with_return, statements, code_with, temporary_types, temporary_count, written_body}
use Rattle.ss_store_rules.specs.Locals.{this_types, types_of, local_types}
use Rattle.ss_store_rules.specs.Paths.{holds_along}
use Rattle.ss_store_rules.specs.NonNull.{Known, known_at_entry, is_non_null_type, keeps_nulls_out}
use Rattle.ss_expand_formed.proofs.Facts.{none_left}
use Rattle.ss_expand_formed.proofs.Along.{holds-append}
use Rattle.ss_expand_formed.proofs.Counted.{stmts_same}
use Rattle.ss_expand_formed.specs.Fitting.{Frame, local_type, is_reference_type, stmt_fits, block_fits, all_fitting, Agrees, Builds, Covers, HasMade}
use Rattle.ss_expand_formed.specs.Bodies.{body_frame, method_frame}
use Rattle.ss_expand_formed.proofs.NullsPlain.{not_none}
use Rattle.ss_expand_formed.proofs.Putting.{flow, check, runs_join, putting, put_runs, put_field}
use Rattle.ss_expand_formed.proofs.Assignments.{Done, done_nothing}
use Rattle.ss_expand_formed.proofs.Numbers.{in_middle, types_append, param_types, params_types, copies_types, temporaries_types, after_copies, own_below, own_within, past_all, own_apart}
use Rattle.ss_expand_formed.proofs.NullsStatements.{stmts_known}

-- ---- the statements of a method

module _ (f : phase.Flow source.Known) (c : phase.Check source.Known) (returns_freely : (k : Option source.Known) → c.returned None k ≡ []) where
  pub faults_before_return : (q : Place) (ss : StmtTrees) (k : Option source.Known) → phase.faults_along f c ss k ≡ [] → phase.faults_along f c (before_all ss (Before (ReturnOf q None) typed.NoMore)) k ≡ []
  faults_before_return q typed.NoMore k h = ap (λ xs. xs ++ []) (returns_freely k)
  faults_before_return q (Before s ss) k h =
      let both = none_left (phase.faults_at f c s k) (phase.faults_along f c ss (option_and_then (phase.behind f s) k)) h in
      ap (λ xs. xs ++ phase.faults_along f c (before_all ss (Before (ReturnOf q None) typed.NoMore)) (option_and_then (phase.behind f s) k)) both.0 ∙ faults_before_return q ss (option_and_then (phase.behind f s) k) both.1

  faults_with_return : (b : BodyTree) (r : Option Ty) (ss : StmtTrees) (k : Option source.Known) → phase.faults_along f c ss k ≡ [] → phase.faults_along f c (with_return b r ss) k ≡ []
  faults_with_return b None ss k h = faults_before_return (closing_brace b.block) ss k h
  faults_with_return b (Some t) ss k h = h

  pub faults_of_block : (b : BlockTree) (k : Option source.Known) → phase.faults_in f c b k ≡ [] → phase.faults_along f c (in_block b) k ≡ []
  faults_of_block (BlockOf q ss end) k h = h

fitting_before_return : (z : Frame) (q : Place) (ss : StmtTrees) → all_fitting z ss ≡ true → all_fitting z (before_all ss (Before (ReturnOf q None) typed.NoMore)) ≡ true
fitting_before_return z q typed.NoMore h = refl
fitting_before_return z q (Before s ss) h = let both = and_parts (stmt_fits z s) (all_fitting z ss) h in and_from _ _ both.0 (fitting_before_return z q ss both.1)

fitting_with_return : (z : Frame) (b : BodyTree) (r : Option Ty) (ss : StmtTrees) → all_fitting z ss ≡ true → all_fitting z (with_return b r ss) ≡ true
fitting_with_return z b None ss h = fitting_before_return z (closing_brace b.block) ss h
fitting_with_return z b (Some t) ss h = h

fitting_of_block : (z : Frame) (b : BlockTree) → block_fits z b ≡ true → all_fitting z (in_block b) ≡ true
fitting_of_block z (BlockOf q ss end) h = h

-- ---- the types of its locals

module _ (p : TypedTree) (b : BodyTree) (bs : List BodyTree) where
  abbrev y : core.BodyTree
  y = written_body p b bs

  abbrev A : List Ty
  A = this_types y

  abbrev P : List Ty
  P = param_types b.params

  abbrev L : List Ty
  L = types_of b.locals

  abbrev C : List Ty
  C = param_types (assigned_params b)

  abbrev T : List Ty
  T = temporary_types p b

  abbrev R : List Ty
  R = option_to_list b.result

  all_types : local_types y ≡ ((A ++ P) ++ ((L ++ C) ++ T)) ++ R
  all_types =
      ap (λ ts. (A ++ ts ++ types_of (b.locals ++ copies b ++ temporaries_from 0 T)) ++ R) (params_types b.params)
      ∙ ap (λ ts. ((A ++ P) ++ ts) ++ R) (types_append (b.locals ++ copies b) (temporaries_from 0 T) ∙ ap (λ ts. ts ++ types_of (temporaries_from 0 T)) (types_append b.locals (copies b) ∙ ap (λ ts. L ++ ts) (copies_types (assigned_params b))) ∙ ap (λ ts. (L ++ C) ++ ts) (temporaries_types 0 T))

  this_size : first_param b ≡ length A
  this_size = by b.flags.is_static
    where
      by : (static : Bool) → (if static then 0 else 1) ≡ length (if static then [] else ty.Ref (record { 0 = b.class }) true ∷ [])
      by true = refl
      by false = refl

  param_size : length P ≡ length b.params
  param_size = length-map b.params (λ (q : ParamTree). q.ty)

  local_size : length L ≡ length b.locals
  local_size = length-map b.locals (λ (l : core.LocalTree). l.ty)

  copy_size : length C ≡ length (assigned_params b)
  copy_size = length-map (assigned_params b) (λ (q : ParamTree). q.ty)

  param_at : (i : ℕ) (t : Ty) → slice_get P i ≡ Some t → slice_get (local_types y) (first_param b + i) ≡ Some t
  param_at i t h =
      let e : ((A ++ P) ++ ((L ++ C) ++ T)) ++ R ≡ A ++ (P ++ (((L ++ C) ++ T) ++ R)) = simp append_assoc in
      ap (λ ts. slice_get ts (first_param b + i)) (all_types ∙ e) ∙ in_middle A P (((L ++ C) ++ T) ++ R) (first_param b) i t this_size h

  copy_at : (i : ℕ) (t : Ty) → slice_get C i ≡ Some t → slice_get (local_types y) (first_copy b + i) ≡ Some t
  copy_at i t h =
      let e : ((A ++ P) ++ ((L ++ C) ++ T)) ++ R ≡ (A ++ (P ++ L)) ++ (C ++ (T ++ R)) = simp append_assoc in
      let one = length-append A (P ++ L) in
      let two = length-append P L in
      let n : first_copy b ≡ length (A ++ (P ++ L)) = omega (arith, this_size, param_size, local_size) in
      ap (λ ts. slice_get ts (first_copy b + i)) (all_types ∙ e) ∙ in_middle (A ++ (P ++ L)) C (T ++ R) (first_copy b) i t n h

  temporary_at : (i : ℕ) (t : Ty) → slice_get T i ≡ Some t → slice_get (local_types y) (after_copies b 0 + i) ≡ Some t
  temporary_at i t h =
      let e : ((A ++ P) ++ ((L ++ C) ++ T)) ++ R ≡ (A ++ (P ++ (L ++ C))) ++ (T ++ R) = simp append_assoc in
      let one = length-append A (P ++ (L ++ C)) in
      let two = length-append P (L ++ C) in
      let three = length-append L C in
      let n : after_copies b 0 ≡ length (A ++ (P ++ (L ++ C))) = omega (arith, this_size, param_size, local_size, copy_size) in
      ap (λ ts. slice_get ts (after_copies b 0 + i)) (all_types ∙ e) ∙ in_middle (A ++ (P ++ (L ++ C))) T R (after_copies b 0) i t n h

module _ (c : core.CoreTree) (p : TypedTree) (b : BodyTree) (bs : List BodyTree) (fields : ℕ → Bool) (free : Bool) (builds : Builds (body_frame c p b bs fields free)) (after_this : b.flags.ctor ≡ true → 0 < after_copies b 0) where
  abbrev z : Frame
  z = body_frame c p b bs fields free

  abbrev n : ℕ
  n = temporary_count p b

  pub agrees : Agrees z
  agrees = record {
    constructs = refl;
    now = refl;
    known = λ x h. (and_parts _ (is_reference_type (slice_get (local_types (written_body p b bs)) x)) h).0;
    within = own_within b n;
    own = own_below b n;
    apart = own_apart b n;
    past = past_all b n;
    after_this = after_this;
  }

  -- ---- copies of parameters

  -- what is known of fields alone
  unknown_covers : (k : source.Known) (l m : Known) → ((x : ℕ) → k.facts x ≡ true → ⊥) → Covers z k l → ((f : ℕ) → l.fields f ≡ true → m.fields f ≡ true) → Covers z k m
  unknown_covers k l m empty h more = record { facts = λ x i. absurd (empty x i); mine = h.mine; fields = λ f o i. more f (h.fields f o i); free = λ i f. more f (h.free i f) }

  copying_done : (k : source.Known) → ((x : ℕ) → k.facts x ≡ true → ⊥) → (copy x : ℕ) (qs : List ParamTree) → ((i : ℕ) (t : Ty) → slice_get (param_types qs) i ≡ Some t → local_type z (x + i) ≡ Some t) →
      ((i : ℕ) (t : Ty) → slice_get (param_types (assigned_from b.block x qs)) i ≡ Some t → local_type z (copy + i) ≡ Some t) → (l : Known) → Covers z k l → Done z agrees l k (copying_from b.block copy x qs)
  copying_done k empty copy x [] param copied l h = done_nothing z agrees l k h
  copying_done k empty copy x (q ∷ qs) param copied l h =
      ⊎_elim
      (λ yes.
      let there : (i : ℕ) (t : Ty) → slice_get (q.ty ∷ param_types (assigned_from b.block (x + 1) qs)) i ≡ Some t → local_type z (copy + i) ≡ Some t = rw yes at copied in
      let d = Pure (LocalExpr q.place x) in
      let here : local_type z x ≡ Some q.ty = subst (λ k. local_type z k ≡ Some q.ty) (let e : x + 0 ≡ x = omega arith in e) (param 0 q.ty refl) in
      let new : local_type z copy ≡ Some q.ty = subst (λ k. local_type z k ≡ Some q.ty) (let e : copy + 0 ≡ copy = omega arith in e) (there 0 q.ty refl) in
      let now = putting z q.place copy d l in
      let first = put_runs z q.place copy d l refl (λ h. or_left _ _ (ap is_non_null_type (here ∙ sym new) ∙ h)) in
      let rest = copying_done k empty (copy + 1) (x + 1) qs (shifted x (param_types qs) q.ty param) (shifted copy (param_types (assigned_from b.block (x + 1) qs)) q.ty there) now (unknown_covers k l now empty h (put_field z q.place copy d l)) in
      rw yes (record { now = rest.now; runs = runs_join z l now rest.now (AssignStmt q.place copy (LocalExpr q.place x) ∷ []) _ first rest.runs; covers = rest.covers }))
      (λ other.
      let there : (i : ℕ) (t : Ty) → slice_get (param_types (assigned_from b.block (x + 1) qs)) i ≡ Some t → local_type z (copy + i) ≡ Some t = rw other at copied in
      rw other (copying_done k empty copy (x + 1) qs (shifted x (param_types qs) q.ty param) there l h))
      (cases_Bool (block_assigns x b.block))
    where
      shifted : (at : ℕ) (ts : List Ty) (u : Ty) → ((i : ℕ) (t : Ty) → slice_get (u ∷ ts) i ≡ Some t → local_type z (at + i) ≡ Some t) → (i : ℕ) (t : Ty) → slice_get ts i ≡ Some t → local_type z (at + 1 + i) ≡ Some t
      shifted at ts u h i t e = subst (λ k. local_type z k ≡ Some t) (let e : at + suc i ≡ at + 1 + i = omega arith in e) (h (suc i) t e)

  -- ---- the whole body

  -- It keeps nulls out where the code of its statements does, after which are the copies of what is known at the entry.
  pub body_from : (k : source.Known) → ((x : ℕ) → k.facts x ≡ true → ⊥) → Covers z k (known_at_entry (written_body p b bs)) → ((l : Known) → Covers z k l → HasMade z (code_with p b n).made → holds_along (flow z) (check z) (code_of (code_with p b n).code) (Some l) ≡ true) → keeps_nulls_out c (written_body p b bs) ≡ true
  body_from k empty covers rest =
      let entry = known_at_entry (written_body p b bs) in
      let front = copying_done k empty (first_copy b) (first_param b) b.params (param_at p b bs) (copy_at p b bs) entry covers in
      let first = after_copies b n in
      let same : (code_with p b n).made ≡ temporary_types p b = stmts_same p b (meant b) first (first + n) (first + 0) (first + n + results b.result) (first + 0 + results b.result) [] (statements p b) [] in
      let made : HasMade z (code_with p b n).made = λ i t h. temporary_at p b bs i t (ap (λ ts. slice_get ts i) (sym same) ∙ h) in
      holds-append (flow z) (check z) (copying b) (code_with p b n).code (Some entry) front.runs.checked (ap (holds_along (flow z) (check z) (code_of (code_with p b n).code)) front.runs.at ∙ rest front.now front.covers made)

  -- It keeps nulls out where the phase finds no fault in its statements, as they are elaborated, from what it knows at the entry.
  pub body_keeps : (k : source.Known) → ((x : ℕ) → k.facts x ≡ true → ⊥) → Covers z k (known_at_entry (written_body p b bs)) → all_fitting z (statements p b) ≡ true →
      phase.faults_along (source.known_flow (null_context_of p b)) (faults.null_check (null_context_of p b)) (statements p b) (Some k) ≡ [] → keeps_nulls_out c (written_body p b bs) ≡ true
  body_keeps k empty covers fitting pure = body_from k empty covers (λ l known made. (stmts_known z agrees builds (statements p b) fitting [] k [] pure l known made).held)

-- ---- methods

pub method_keeps : (c : core.CoreTree) (p : TypedTree) (b : BodyTree) (bs : List BodyTree) → b.flags.ctor ≡ false → block_fits (method_frame c p b bs) b.block ≡ true →
    phase.faults_in (source.known_flow (null_context_of p b)) (faults.null_check (null_context_of p b)) b.block (only_fields (assigned_first p b)) ≡ [] → keeps_nulls_out c (written_body p b bs) ≡ true
method_keeps c p b bs method fit clean =
    let z = method_frame c p b bs in
    let F = source.known_flow (null_context_of p b) in
    let K = faults.null_check (null_context_of p b) in
    let k : source.Known = record { facts = none; fields = assigned_first p b } in
    let is : with_return b b.result (in_block b.block) ≡ statements p b = ap (λ d. with_return b b.result (if d then constructor_stmts p b else in_block b.block)) (sym method) in
    let fitting = subst (λ ss. all_fitting z ss ≡ true) is (fitting_with_return z b b.result (in_block b.block) (fitting_of_block z b.block fit)) in
    let pure = subst (λ ss. phase.faults_along F K ss (Some k) ≡ []) is (faults_with_return F K (λ k. refl) b b.result (in_block b.block) (Some k) (faults_of_block F K (λ k. refl) b.block (Some k) clean)) in
    let builds : Builds z = record { delayed = refl; above = λ f h. absurd (false≢true h); inherited = λ f h. absurd (false≢true h) } in
    let covers : Covers z k (known_at_entry (written_body p b bs)) = record { facts = λ x h. not_none x h; mine = λ x h. not_none x h; fields = λ f o h. ap not method; free = λ h f. ap not method } in
    body_keeps c p b bs (λ f. false) true builds (λ h. absurd (false≢true (sym method ∙ h))) k (λ x h. not_none x h) covers fitting pure
