-- Declarations, calls alone, printing and `base(..)` keep nulls out, and after them the elaboration knows what the phase of null knows.
use Rattle.std.proofs.Common.{◌≡◌, ℕ, List, [], ◌∷◌, ◌++◌, Bool, true, false, Option, Some, None, refl, sym, ◌∙◌, ap}
use Rattle.std.specs.Prelude.{not, ◌-◌, ◌==◌, ◌&&◌, ◌||◌, if◌then◌else◌, is_some, pos}
use Rattle.std.proofs.lemmas.Bool.{and_parts, and_from, or_left, or_right, eqb-true, false≢true}
use Rattle.ss_core.specs.declared.names.Place.{Place}
use Rattle.ss_core.specs.declared.names.Ty.{Ty}
use Rattle.ss_core.specs.declared.names.Ty.TheVariants as ty
use Rattle.ss_core.specs.declared.expr.Operator.{Operator}
use Rattle.ss_core.specs.declared.expr.Operator.TheVariants as op
use Rattle.ss_core.specs.Tree as core
use Rattle.ss_core.specs.Tree.{NewStmt, NewArrayStmt, CallStmt, BaseConstructor, ReadyStmt, PrintStmt, PrintTextStmt}
use Rattle.ss_core.specs.Chain as chain
use Rattle.ss_faults.specs.declared.Fault.{Fault}
use Rattle.ss_ast.specs.declared.stmt.AssignOperator.TheVariants as operator
use Rattle.ss_ast.specs.declared.stmt.StepOperator.{StepOperator}
use Rattle.ss_ast.specs.declared.stmt.StepOperator.TheVariants as step
use Rattle.ss_typed.specs.Tree.{ExprTree, IntOf, BoolOf, NullOf, Arguments, DeclaratorTree, SimpleTree, AssignOf, StepOf, AloneOf, PrintOf, PrintTextOf, BaseCallOf}
use Rattle.ss_typed.specs.Types.{type_of}
use Rattle.ss_paths.specs.Sets.{put}
use Rattle.ss_paths.specs.Fields as fields
use Rattle.ss_paths.specs.Fields.{is_among}
use Rattle.ss_paths.specs.Assigned.{has_field}
use Rattle.ss_paths.specs.Paths as source_paths
use Rattle.ss_nonnull_rules.specs.NonNull as source
use Rattle.ss_nonnull_rules.specs.Facts.{is_null}
use Rattle.ss_nonnull_rules.specs.Faults.{inside, inside_if, wanted, wanted_if, handed_to_base, constructor_parameters, null_fault, starts, done_faults, null_check}
use Rattle.ss_expand_rules.specs.Numbers.{number}
use Rattle.ss_typed.specs.Shapes.{place_of}
use Rattle.ss_expand_rules.specs.Program.{above_of, Constructor, number_of}
use Rattle.ss_typed.specs.Lookups.{constructor_of, param_types_in}
use Rattle.ss_expand_rules.specs.Lifting.{Opened, Source, Pure, Created, CreatedArray, Called, Listed, right_side, value, arguments_of}
use Rattle.ss_expand_rules.specs.Simple.{update, assignment, step_operator, default_of, declared_as, declare, drop_result, print, has_delayed_constructor, ready_after, base_with, base_of, simple}
use Rattle.ss_store_rules.specs.Typed.{callee_of}
use Rattle.ss_store_rules.specs.NonNull.{Known, is_non_null_type, may_enter}
use Rattle.ss_expand_formed.proofs.Facts.{none_left}
use Rattle.ss_expand_formed.proofs.Kept.{base_same, after_fields}
use Rattle.ss_expand_formed.specs.Fitting.{Frame, implied, local_type, fits, all_fit, enters_with, is_reference_type, target_fits, is_number, assigned_fits, may_fit, base_fits, simple_fits, begins_fitting, declarator_fits, declared_fit, Agrees, Builds, Covers, HasMade}
use Rattle.ss_expand_formed.proofs.Growth.{declare_begins}
use Rattle.ss_expand_formed.proofs.Putting.{source_enters, runs_join, runs_one}
use Rattle.ss_expand_formed.proofs.Lifted.{made_before}
use Rattle.ss_expand_formed.proofs.Operations.{wants_of, wants_of_entered, may_enter_with}
use Rattle.ss_expand_formed.proofs.Expressions.{right_known, value_known, arguments_known}
use Rattle.ss_expand_formed.proofs.Assignments.{Done, done_join, done_nothing, into_known}
use Rattle.ss_expand_formed.proofs.Lefts.{not_true, s, assigned, standing, kind_known, numbered, assign_known, update_known}

no_start : (b : Bool) (f : Fault) → (if b then f ∷ [] else []) ≡ [] → b ≡ false
no_start true f h = absurd (let x : ⊥ = cc in x)
no_start false f h = refl

module _ (z : Frame) (agrees : Agrees z) (builds : Builds z) (os : List Opened) where
  -- ---- declarations

  -- what a local begins with where nothing is written
  default_written : Place → Ty → ExprTree
  default_written p ty.Int = IntOf p (pos 0)
  default_written p ty.Bool = BoolOf p false
  default_written p t = NullOf p

  empty_known : (k : source.Known) (l : Known) (p : Place) (x : ℕ) (t : Ty) (made : List Ty) → Covers z k l → HasMade z made → (number z.numbers x == x) ≡ true → z.locals x ≡ true → implied (is_non_null_type (local_type z x)) (fields.is_non_null t) ≡ true → fields.is_non_null t ≡ false →
      Done z agrees l (record k { facts = put x false k.facts }) (core.AssignStmt p x (default_of p t) ∷ [])
  empty_known k l p x ty.Int made c m n own h none =
      into_known z agrees k l (IntOf p (pos 0)) (right_side (s z agrees os) (IntOf p (pos 0)) made) p x x (eqb-true _ _ n) own (right_known z agrees os (IntOf p (pos 0)) refl k l made c refl m) (λ i. absurd (false≢true i)) (numbered z agrees os (local_type z x) ty.Int _ h none)
  empty_known k l p x ty.Bool made c m n own h none =
      into_known z agrees k l (BoolOf p false) (right_side (s z agrees os) (BoolOf p false) made) p x x (eqb-true _ _ n) own (right_known z agrees os (BoolOf p false) refl k l made c refl m) (λ i. absurd (false≢true i)) (numbered z agrees os (local_type z x) ty.Bool _ h none)
  empty_known k l p x ty.Null made c m n own h none =
      into_known z agrees k l (NullOf p) (right_side (s z agrees os) (NullOf p) made) p x x (eqb-true _ _ n) own (right_known z agrees os (NullOf p) refl k l made c refl m) (λ i. absurd (false≢true i)) (numbered z agrees os (local_type z x) ty.Null _ h none)
  empty_known k l p x (ty.Ref t non_null) made c m n own h none =
      into_known z agrees k l (NullOf p) (right_side (s z agrees os) (NullOf p) made) p x x (eqb-true _ _ n) own (right_known z agrees os (NullOf p) refl k l made c refl m) (λ i. absurd (false≢true i)) (numbered z agrees os (local_type z x) (ty.Ref t non_null) _ h none)

  begun_known : (k : source.Known) (l : Known) (d : DeclaratorTree) (e : Option ExprTree) (made : List Ty) → Covers z k l → z.locals d.local ≡ true → (number z.numbers d.local == d.local) ≡ true → implied (is_non_null_type (local_type z d.local)) (fields.is_non_null d.ty) ≡ true →
      begins_fitting z d.local e ≡ true → starts z.context (Some k) d.place d.ty e ≡ [] → HasMade z (declared_as (s z agrees os) d e made).made → Done z agrees l (record k { facts = put d.local (source.starts_non_null z.context k e) k.facts }) (declared_as (s z agrees os) d e made).code
  begun_known k l d None made c own n h f i m = empty_known k l d.place d.local d.ty made c m n own h (no_start (fields.is_non_null d.ty) (null_fault d.place) i)
  begun_known k l d (Some e) made c own n h f i m =
      let one = and_parts (fits z e && is_some (type_of e)) (z.mine d.local || not (is_reference_type (type_of e))) f in
      let two = and_parts (fits z e) (is_some (type_of e)) one.0 in
      let clean = none_left (inside z.context (Some k) e) (wanted z.context (Some k) e d.ty) i in
      into_known z agrees k l e (right_side (s z agrees os) e made) d.place d.local d.local (eqb-true _ _ n) own (right_known z agrees os e two.0 k l made c clean.0 m) (kind_known z agrees os k l c e (z.mine d.local) two.0 one.1)
      (standing z agrees os k e (local_type z d.local) d.ty h two.1 clean.1)

  declared_known : (k : source.Known) (l : Known) (d : DeclaratorTree) (made : List Ty) → Covers z k l → declarator_fits z d ≡ true → starts z.context (Some k) d.place d.ty d.initial ≡ [] → HasMade z (declared_as (s z agrees os) d d.initial made).made →
      Done z agrees l (source.known_declared z.context d k) (declared_as (s z agrees os) d d.initial made).code
  declared_known k l d made c f i m =
      let one = and_parts (z.locals d.local && number z.numbers d.local == d.local && implied (is_non_null_type (local_type z d.local)) (fields.is_non_null d.ty)) (begins_fitting z d.local d.initial) f in
      let two = and_parts (z.locals d.local && number z.numbers d.local == d.local) (implied (is_non_null_type (local_type z d.local)) (fields.is_non_null d.ty)) one.0 in
      let three = and_parts (z.locals d.local) (number z.numbers d.local == d.local) two.0 in
      begun_known k l d d.initial made c three.0 three.1 two.1 one.1 i m

  pub declare_known : (ds : List DeclaratorTree) (k : source.Known) (l : Known) (made : List Ty) → Covers z k l → declared_fit z ds ≡ true → source_paths.declared_faults (source.known_flow z.context) (null_check z.context) ds (Some k) ≡ [] → HasMade z (declare (s z agrees os) ds made).made →
      Done z agrees l (source_paths.all_declared (source.known_flow z.context) ds k) (declare (s z agrees os) ds made).code
  declare_known [] k l made c f i m = done_nothing z agrees l k c
  declare_known (d ∷ ds) k l made c f i m =
      let both = and_parts (declarator_fits z d) (declared_fit z ds) f in
      let next = source.known_declared z.context d k in
      let clean = none_left (starts z.context (Some k) d.place d.ty d.initial) (source_paths.declared_faults (source.known_flow z.context) (null_check z.context) ds (Some next)) i in
      let one = declared_as (s z agrees os) d d.initial made in
      let front = declared_known k l d made c both.0 clean.0 (made_before z agrees one.made (declare (s z agrees os) ds one.made).made (declare_begins (s z agrees os) ds one.made) m) in
      done_join z agrees l next (source_paths.all_declared (source.known_flow z.context) ds next) one.code _ front (declare_known ds next front.now one.made front.covers both.1 clean.1 m)

  -- ---- calls alone and printing

  dropped_known : (k : source.Known) (l : Known) (d : Source) → Covers z k l → source_enters z l d ≡ true → Done z agrees l k (drop_result d)
  dropped_known k l (Pure e) c h = done_nothing z agrees l k c
  dropped_known k l (Created p t es) c h = record { now = l; runs = runs_one z l l (NewStmt p None t es) refl h; covers = c }
  dropped_known k l (CreatedArray p t e) c h = record { now = l; runs = runs_one z l l (NewArrayStmt p None t e) refl refl; covers = c }
  dropped_known k l (Called p callee es) c h = record {
    now = _;
    runs = runs_one z l _ (CallStmt p None callee es) refl (and_from _ _ h refl);
    covers = record {
      facts = λ y i. ap (λ f. f (number z.numbers y)) (base_same z.program z.body callee l) ∙ c.facts y i;
      mine = c.mine;
      fields = λ f o i. after_fields z.program z.body f (CallStmt p None callee es) l (c.fields f o i);
      free = λ i f. after_fields z.program z.body f (CallStmt p None callee es) l (c.free i f);
    };
  }

  alone_known : (k : source.Known) (l : Known) (e : ExprTree) (made : List Ty) → Covers z k l → fits z e ≡ true → inside z.context (Some k) e ≡ [] → HasMade z (right_side (s z agrees os) e made).made → Done z agrees l k ((right_side (s z agrees os) e made).code ++ drop_result (right_side (s z agrees os) e made).source)
  alone_known k l e made c f i m =
      let d = right_side (s z agrees os) e made in
      let h = right_known z agrees os e f k l made c i m in
      let rest = dropped_known k h.now d.source h.covers h.enters in
      record { now = rest.now; runs = runs_join z l h.now rest.now d.code _ h.runs rest.runs; covers = rest.covers }

  print_known : (k : source.Known) (l : Known) (p : Place) (e : Option ExprTree) (line : Bool) (made : List Ty) → Covers z k l → may_fit z e ≡ true → inside_if z.context (Some k) e ≡ [] → HasMade z (print (s z agrees os) p e line made).made → Done z agrees l k (print (s z agrees os) p e line made).code
  print_known k l p None line made c f i m = record { now = l; runs = runs_one z l l (PrintStmt p None line) refl refl; covers = c }
  print_known k l p (Some e) line made c f i m =
      let v = value_known z agrees os e f k l made c i m in
      let d = value (s z agrees os) e made in
      let x = PrintStmt p (Some d.value) line in
      record { now = v.now; runs = runs_join z l v.now v.now d.code (x ∷ []) v.runs (runs_one z v.now v.now x refl refl); covers = v.covers }

  -- ---- `base(..)`

  abbrev based : source.Known → source.Known
  based k = record k { fields = record k.fields { above = true } }

  ready_known : (k : source.Known) (l : Known) (p : Place) (t : ℕ) → Covers z k l → Done z agrees l k (ready_after (s z agrees os) p t)
  ready_known k l p t c = by z.written.flags.delayed (has_delayed_constructor z.typed t)
    where
      by : (d r : Bool) → Done z agrees l k (if d then [] else if r then ReadyStmt p ∷ [] else [])
      by true r = done_nothing z agrees l k c
      by false false = done_nothing z agrees l k c
      by false true = record { now = _; runs = runs_one z l _ (ReadyStmt p) refl refl; covers = record { facts = c.facts; mine = c.mine; fields = λ f o i. refl; free = λ i f. refl } }

  -- a field that counts as assigned after `base(..)`
  based_has : {P : Type 0} (k : source.Known) (f : ℕ) → (has_field z.context.numbers k.fields f ≡ true → P) → (is_among z.context.numbers f ≡ false → P) → has_field z.context.numbers (based k).fields f ≡ true → P
  based_has {P = P} k f old new h = by (is_among z.context.numbers f) refl h
    where
      by : (b : Bool) → is_among z.context.numbers f ≡ b → (if b then k.fields.own (f - z.context.numbers.first) else true) ≡ true → P
      by true i h = old (ap (λ b. if b then k.fields.own (f - z.context.numbers.first) else k.fields.above) i ∙ h)
      by false i h = new i

  top_known : (k : source.Known) (l : Known) → Covers z k l → (above_of z.typed z.written.class == 0) ≡ true → Covers z (based k) l
  top_known k l c top = record { facts = c.facts; mine = c.mine; fields = λ f o i. based_has k f (λ old. c.fields f o old) (λ new. absurd (false≢true (sym (builds.above f o new) ∙ top))) i; free = c.free }

  called_known : (k : source.Known) (l : Known) (p : Place) (n : ℕ) (vs : List core.ExprTree) → Covers z k l → may_enter z.program z.body l vs (callee_of z.program z.body (BaseConstructor n)) ≡ true → Done z agrees l (based k) (CallStmt p None (BaseConstructor n) vs ∷ [])
  called_known k l p n vs c h = record {
    now = _;
    runs = runs_one z l _ (CallStmt p None (BaseConstructor n) vs) refl (and_from _ _ h refl);
    covers = record {
      facts = c.facts;
      mine = c.mine;
      fields = λ f o i. based_has k f (λ old. or_left _ _ (or_left _ _ (c.fields f o old))) (λ new. or_right _ _ (builds.inherited f o new)) i;
      free = λ i f. or_left _ _ (or_left _ _ (c.free i f));
    };
  }

  pub base_known : (k : source.Known) (l : Known) (p : Place) (es : Arguments) (made : List Ty) → Covers z k l → base_fits z es ≡ true → handed_to_base z.context (Some k) es ≡ [] → HasMade z (base_of (s z agrees os) p es (above_of z.typed z.written.class) made).made →
      Done z agrees l (based k) (base_of (s z agrees os) p es (above_of z.typed z.written.class) made).code
  base_known k l p es made c f i m = by (t == 0) refl f m
    where
      t : ℕ
      t = above_of z.typed z.written.class

      n : ℕ
      n = number_of z.typed (Constructor t)

      ts : List Ty
      ts = constructor_parameters z.context.program (chain.above z.context.program.classes z.context.class)

      d : Listed
      d = arguments_of (s z agrees os) (param_types_in (constructor_of z.typed t)) es made

      by : (b : Bool) → (t == 0) ≡ b → (b || enters_with (callee_of z.program z.body (BaseConstructor n)) ts && all_fit z es) ≡ true → HasMade z (if b then record { code = ready_after (s z agrees os) p t; made = made } else base_with (s z agrees os) p t d).made →
          Done z agrees l (based k) (if b then record { code = ready_after (s z agrees os) p t; made = made } else base_with (s z agrees os) p t d).code
      by true e f m = ready_known (based k) l p t (top_known k l c e)
      by false e f m =
          let both = and_parts (enters_with (callee_of z.program z.body (BaseConstructor n)) ts) (all_fit z es) f in
          let o = callee_of z.program z.body (BaseConstructor n) in
          let h = arguments_known z agrees os (wants_of o) ts (param_types_in (constructor_of z.typed t)) es both.1 k l made c i (wants_of_entered o ts both.0) m in
          let one = called_known k h.now p n d.values h.covers (may_enter_with z agrees os o h.now d.values h.stand) in
          let two = ready_known (based k) one.now p t one.covers in
          record { now = two.now; runs = runs_join z l h.now two.now d.code _ h.runs (runs_join z h.now one.now two.now (CallStmt p None (BaseConstructor n) d.values ∷ []) (ready_after (s z agrees os) p t) one.runs two.runs); covers = two.covers }

  -- ---- simple statements

  counts : (k : source.Known) (o : Operator) (l e : ExprTree) (c : Known) (made : List Ty) → Covers z k c → ((a : ExprTree) → source.known_right o a k ≡ k) → (target_fits z l && fits z l && fits z e && is_some (type_of e) && (is_number z l && not (is_null e))) ≡ true →
      (inside z.context (Some k) l ++ inside z.context (Some k) e ++ wanted_if z.context (Some k) e (type_of l)) ≡ [] → HasMade z (update (s z agrees os) o l e made).made → Done z agrees c k (update (s z agrees os) o l e made).code
  counts k o l e c made h n f i m =
      let one = and_parts (target_fits z l && fits z l && fits z e && is_some (type_of e)) (is_number z l && not (is_null e)) f in
      let two = and_parts (target_fits z l && fits z l && fits z e) (is_some (type_of e)) one.0 in
      let three = and_parts (target_fits z l && fits z l) (fits z e) two.0 in
      let four = and_parts (target_fits z l) (fits z l) three.0 in
      let kind = and_parts (is_number z l) (not (is_null e)) one.1 in
      let clean = none_left (inside z.context (Some k) l ++ inside z.context (Some k) e) (wanted_if z.context (Some k) e (type_of l)) i in
      let parts = none_left (inside z.context (Some k) l) (inside z.context (Some k) e) clean.0 in
      update_known z agrees os k c h o (record { right = n }) l e made (record { target = four.0; left = four.1; right = three.1; number = kind.0; other = not_true (is_null e) kind.1; clean_left = parts.0; clean = parts.1 }) m

  sets : (k : source.Known) (l e : ExprTree) (c : Known) (made : List Ty) → Covers z k c → simple_fits z (AssignOf l operator.Set e) ≡ true → done_faults z.context (AssignOf l operator.Set e) (Some k) ≡ [] → HasMade z (assignment (s z agrees os) l operator.Set e made).made →
      Done z agrees c (assigned z agrees os l e k) (assignment (s z agrees os) l operator.Set e made).code
  sets k l e c made h f i m =
      let one = and_parts (target_fits z l && fits z l && fits z e && is_some (type_of e)) (assigned_fits z l operator.Set e) f in
      let two = and_parts (target_fits z l && fits z l && fits z e) (is_some (type_of e)) one.0 in
      let three = and_parts (target_fits z l && fits z l) (fits z e) two.0 in
      let four = and_parts (target_fits z l) (fits z l) three.0 in
      let clean = none_left (inside z.context (Some k) l ++ inside z.context (Some k) e) (wanted_if z.context (Some k) e (type_of l)) i in
      let parts = none_left (inside z.context (Some k) l) (inside z.context (Some k) e) clean.0 in
      assign_known z agrees os k c h l e made (record { target = four.0; left = four.1; right = three.1; some = two.1; kind = one.1; clean_left = parts.0; clean = parts.1; wants = clean.1 }) m

  stepped : (k : source.Known) (o : StepOperator) (a : ExprTree) → source.known_right (step_operator o) a k ≡ k
  stepped k step.Up a = refl
  stepped k step.Down a = refl

  pub simple_known : (x : SimpleTree) (k : source.Known) (l : Known) (made : List Ty) → Covers z k l → simple_fits z x ≡ true → done_faults z.context x (Some k) ≡ [] → HasMade z (simple (s z agrees os) x made).made → Done z agrees l (source.known_done z.context x k) (simple (s z agrees os) x made).code
  simple_known (AssignOf target operator.Set e) k l made c f i m = sets k target e l made c f i m
  simple_known (AssignOf target operator.Add e) k l made c f i m = counts k op.Add target e l made c (λ a. refl) f i m
  simple_known (AssignOf target operator.Subtract e) k l made c f i m = counts k op.Subtract target e l made c (λ a. refl) f i m
  simple_known (AssignOf target operator.Multiply e) k l made c f i m = counts k op.Multiply target e l made c (λ a. refl) f i m
  simple_known (StepOf target o) k l made c f i m =
      let one = and_parts (target_fits z target && fits z target) (is_number z target) f in
      let two = and_parts (target_fits z target) (fits z target) one.0 in
      update_known z agrees os k l c (step_operator o) (record { right = stepped k o }) target (IntOf (place_of target) (pos 1)) made (record { target = two.0; left = two.1; right = refl; number = one.1; other = refl; clean_left = i; clean = refl }) m
  simple_known (AloneOf e) k l made c f i m = alone_known k l e made c f i m
  simple_known (PrintOf p e line) k l made c f i m = print_known k l p e line made c f i m
  simple_known (PrintTextOf p text line) k l made c f i m = record { now = l; runs = runs_one z l l (PrintTextStmt p text line) refl refl; covers = c }
  simple_known (BaseCallOf p es) k l made c f i m = base_known k l p es made c f i m
