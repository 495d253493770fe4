-- Assignments keep nulls out, and after them the elaboration knows what the phase of null knows.
use Rattle.std.proofs.Common.{◌≡◌, ℕ, ◌≤◌, List, [], ◌∷◌, ◌++◌, Bool, true, false, Option, Some, refl, sym, ◌∙◌, ap, arith}
use Rattle.std.specs.Prelude.{not, ◌==◌, ◌&&◌, ◌||◌, if◌then◌else◌, is_some}
use Rattle.std.proofs.lemmas.Bool.{and_parts, and_from, or_right, ne_eqb, false≢true}
use Rattle.ss_core.specs.declared.names.Place.{Place}
use Rattle.ss_core.specs.declared.names.Ty.{Ty}
use Rattle.ss_core.specs.declared.names.Ty.TheVariants as ty
use Rattle.ss_core.specs.declared.expr.Operator.{Operator}
use Rattle.ss_core.specs.Tree.{WriteElementStmt}
use Rattle.ss_ast.specs.declared.stmt.AssignOperator.TheVariants as operator
use Rattle.ss_typed.specs.Tree.{ExprTree, ThisOf, LocalOf, FieldOf, ElementOf, BinaryOf, AssignOf}
use Rattle.ss_typed.specs.Types.{type_of}
use Rattle.ss_paths.specs.Fields as fields
use Rattle.ss_paths.specs.Assigned.{own_assigned, assigned_by}
use Rattle.ss_nonnull_rules.specs.NonNull as source
use Rattle.ss_nonnull_rules.specs.Facts.{is_null}
use Rattle.ss_nonnull_rules.specs.Faults.{inside, wanted, wanted_if}
use Rattle.ss_expand_rules.specs.Numbers.{number, plain}
use Rattle.ss_expand_rules.specs.Calls.{has_call}
use Rattle.ss_typed.specs.Shapes.{is_this, place_of}
use Rattle.ss_expand_rules.specs.Program.{field_at}
use Rattle.ss_expand_rules.specs.Lifting.{Opened, ElaborationContext, Lifted, next, temporary_type, any_object, right_side, value}
use Rattle.ss_expand_rules.specs.Simple.{assign_settled, Settled, settle_lifted, settle_part, settle, assign_after, assign, update}
use Rattle.ss_store_rules.specs.Admissible as admissible
use Rattle.ss_store_rules.specs.Changes.{field_type}
use Rattle.ss_store_rules.specs.Good.{is_non_null}
use Rattle.ss_store_rules.specs.NonNull.{Known, is_non_null_type}
use Rattle.ss_expand_formed.proofs.Facts.{none_left}
use Rattle.ss_expand_formed.proofs.Truths.{of_or}
use Rattle.ss_expand_formed.specs.Fitting.{Frame, elaboration_context, implied, local_type, fits, reads_set, is_reference_type, target_fits, holds_kind, is_number, Agrees, Covers, HasMade}
use Rattle.ss_expand_formed.proofs.Growing.{begins_append, value_begins}
use Rattle.ss_expand_formed.proofs.Growth.{part_begins}
use Rattle.ss_expand_formed.proofs.NullsPlain.{implied_true}
use Rattle.ss_expand_formed.proofs.Putting.{temporary_nullable, runs_nothing, runs_join, runs_one}
use Rattle.ss_expand_formed.proofs.Lifted.{never_in, made_before, temporary}
use Rattle.ss_expand_formed.proofs.Operations.{wanted_never}
use Rattle.ss_expand_formed.proofs.Expressions.{right_known, value_known}
use Rattle.ss_expand_formed.proofs.Assignments.{Done, done_join, done_nothing, value_never, into_known, over_known, write_keeps, write_known}

nullable_not : (t : Ty) → is_non_null t ≡ false → fields.is_non_null t ≡ false
nullable_not ty.Int h = refl
nullable_not ty.Bool h = refl
nullable_not ty.Null h = refl
nullable_not (ty.Ref t non_null) h = h

pub implied_by_false : (a b : Bool) → a ≡ false → implied a b ≡ true
implied_by_false true b h = absurd (false≢true (sym h))
implied_by_false false b h = refl

pub not_true : (b : Bool) → not b ≡ true → b ≡ false
not_true true h = absurd (false≢true h)
not_true false h = refl

module _ (z : Frame) (agrees : Agrees z) (os : List Opened) where
  abbrev pub s : ElaborationContext
  s = elaboration_context z os

  this_plain : (e : ExprTree) → is_this e ≡ true → admissible.is_this (plain z.numbers e) ≡ true
  this_plain (ThisOf p t) h = refl
  this_plain e h = absurd (false≢true h)

  -- ---- parts of left sides

  -- the object or index part of a left side
  record Part (k : source.Known) (l : Known) (e : ExprTree) (t : Settled) : Type 0 where
    done : Done z agrees l k t.code
    fit : fits z t.target ≡ true
    clean : inside z.context (Some k) t.target ≡ []
    this : is_this e ≡ true → admissible.is_this (plain z.numbers t.target) ≡ true
    reads : (f : ℕ) → reads_set z e f ≡ true → reads_set z t.target f ≡ true

  -- a temporary is no local of the body
  not_mine : (x : ℕ) → z.numbers.first_temporary ≤ x → z.mine x ≡ false
  not_mine x h = by (z.mine x) refl
    where
      by : (b : Bool) → z.mine x ≡ b → b ≡ false
      by true i = let l = agrees.within x (agrees.known x i) in absurd (omega arith)
      by false i = refl

  reads_temporary : (p : Place) (x : ℕ) (t : Ty) (f : ℕ) → z.numbers.first_temporary ≤ x → reads_set z (LocalOf p x t) f ≡ true
  reads_temporary p x t f h = by z.body.flags.ctor (λ c. let l = agrees.after_this c in let e = agrees.past x h in ne_eqb (number z.numbers x) 0 (λ i. omega arith))
    where
      by : (c : Bool) → (c ≡ true → (number z.numbers x == 0) ≡ false) → (not c || false && z.fields f || z.free || not (number z.numbers x == 0)) ≡ true
      by true g = rw (g refl) (or_right (false && z.fields f || z.free) true refl)
      by false g = refl

  part_known : (k : source.Known) (l : Known) (e : ExprTree) (made : List Ty) → Covers z k l → fits z e ≡ true → inside z.context (Some k) e ≡ [] → HasMade z (settle_part s e made).made → Part k l e (settle_part s e made)
  part_known k l e made c f i m = by (is_this e) refl m
    where
      d : Lifted
      d = right_side s e made

      by : (b : Bool) → is_this e ≡ b → HasMade z (if b then record { code = []; target = e; made = made } else settle_lifted s e d).made → Part k l e (if b then record { code = []; target = e; made = made } else settle_lifted s e d)
      by true h m = record { done = done_nothing z agrees l k c; fit = f; clean = i; this = this_plain e; reads = λ g r. r }
      by false h m =
          let t = temporary_type any_object (type_of e) in
          let x = next z.numbers d.made in
          let lifts = right_known z agrees os e f k l made c i (made_before z agrees d.made (d.made ++ t ∷ []) (begins_append d.made (t ∷ [])) m) in
          let v = temporary z agrees k l e (place_of e) t d lifts m (temporary_nullable any_object (type_of e)) in
          record {
            done = record { now = v.values.now; runs = v.values.runs; covers = v.values.covers };
            fit = and_from _ _ (implied_by_false (fields.is_non_null t) _ (nullable_not t (temporary_nullable any_object (type_of e)))) (implied_by_false (z.mine x) _ (not_mine x (omega arith)));
            clean = refl;
            this = λ own. absurd (false≢true (sym h ∙ own));
            reads = λ g r. reads_temporary (place_of e) x t g (omega arith);
          }

  -- ---- assignments

  -- what is assigned to a left side in the phase
  abbrev pub assigned : ExprTree → ExprTree → source.Known → source.Known
  assigned l e k = source.known_done z.context (AssignOf l operator.Set e) k

  pub standing : (k : source.Known) (e : ExprTree) (u : Option Ty) (t : Ty) → implied (is_non_null_type u) (fields.is_non_null t) ≡ true → is_some (type_of e) ≡ true → wanted z.context (Some k) e t ≡ [] → is_non_null_type u ≡ true → never_in z agrees k e ≡ true
  standing k e u t h some w i = wanted_never z agrees os k e t w (implied_true (is_non_null_type u) (fields.is_non_null t) h i) some

  pub kind_known : (k : source.Known) (l : Known) → Covers z k l → (e : ExprTree) (m : Bool) → fits z e ≡ true → (m || not (is_reference_type (type_of e))) ≡ true → never_in z agrees k e ≡ true → m ≡ true
  kind_known k l c e m f h n = of_or m (not (is_reference_type (type_of e))) m (λ i. i) (λ i. absurd (false≢true (sym (value_never z agrees k l c e f (not_true _ i)) ∙ n))) h

  -- a field of an object that is settled
  field_known : (k : source.Known) (l : Known) (p : Place) (o q : ExprTree) (f : ℕ) (t : Ty) (e : ExprTree) (made : List Ty) → Covers z k l → (is_this o ≡ true → admissible.is_this (plain z.numbers q) ≡ true) → target_fits z (FieldOf p o f t) ≡ true →
      fits z e ≡ true → is_some (type_of e) ≡ true → inside z.context (Some k) e ≡ [] → wanted z.context (Some k) e t ≡ [] → HasMade z (value s e made).made → Done z agrees l (assigned (FieldOf p o f t) e k) (assign_settled s (FieldOf p q f t) e made).code
  field_known k l p o q f t e made c this h g some i w m =
      let both = and_parts (implied (is_non_null (field_type z.program.classes f)) (fields.is_non_null t)) (is_some (field_at z.typed f)) h in
      let v = value_known z agrees os e g k l made c i m in
      let d = value s e made in
      let rest = write_known z agrees k v.now p o (plain z.numbers q) f t (field_at z.typed f) d.value both.1 this v.covers (λ n. v.never (standing k e (Some (field_type z.program.classes f)) t both.0 some w n)) in
      record { now = rest.now; runs = runs_join z l v.now rest.now d.code _ v.runs rest.runs; covers = rest.covers }

  -- an element, or what is no left side
  element_known : (k : source.Known) (l : Known) (p : Place) (a i e : ExprTree) (made : List Ty) → Covers z k l → fits z e ≡ true → inside z.context (Some k) e ≡ [] → HasMade z (value s e made).made → Done z agrees l k (assign_settled s (ElementOf p a i) e made).code
  element_known k l p a i e made c g h m =
      let v = value_known z agrees os e g k l made c h m in
      let d = value s e made in
      let w = WriteElementStmt p (plain z.numbers a) (plain z.numbers i) d.value in
      record { now = v.now; runs = runs_join z l v.now v.now d.code (w ∷ []) v.runs (runs_one z v.now v.now w refl refl); covers = v.covers }

  nowhere_known : (k : source.Known) (l : Known) (e : ExprTree) (made : List Ty) → Covers z k l → fits z e ≡ true → inside z.context (Some k) e ≡ [] → HasMade z (value s e made).made → Done z agrees l k ((value s e made).code ++ [])
  nowhere_known k l e made c g h m =
      let v = value_known z agrees os e g k l made c h m in
      record { now = v.now; runs = runs_join z l v.now v.now (value s e made).code [] v.runs (runs_nothing z v.now); covers = v.covers }

  -- what is asked of an assignment
  pub record Asked (k : source.Known) (l e : ExprTree) : Type 0 where
    pub target : target_fits z l ≡ true
    pub left : fits z l ≡ true
    pub right : fits z e ≡ true
    pub some : is_some (type_of e) ≡ true
    pub kind : holds_kind z l e ≡ true
    pub clean_left : inside z.context (Some k) l ≡ []
    pub clean : inside z.context (Some k) e ≡ []
    pub wants : wanted_if z.context (Some k) e (type_of l) ≡ []

  settled_known : (k : source.Known) (c : Known) → Covers z k c → (l e : ExprTree) (made : List Ty) → Asked k l e → HasMade z (assign_settled s l e made).made → Done z agrees c (assigned l e k) (assign_settled s l e made).code
  settled_known k c h (LocalOf p x t) e made a m =
      let both = and_parts (z.locals x) (implied (is_non_null_type (local_type z (number z.numbers x))) (fields.is_non_null t)) a.target in
      let lifts = right_known z agrees os e a.right k c made h a.clean m in
      into_known z agrees k c e (right_side s e made) p x (number z.numbers x) refl both.0 lifts (kind_known k c h e (z.mine x) a.right a.kind) (standing k e (local_type z (number z.numbers x)) t both.1 a.some a.wants)
  settled_known k c h (FieldOf p o f t) e made a m = field_known k c p o o f t e made h (this_plain o) a.target a.right a.some a.clean a.wants m
  settled_known k c h (ElementOf p b i) e made a m = element_known k c p b i e made h a.right a.clean m
  settled_known k c h l e made a m = nowhere_known k c e made h a.right a.clean m

  behind_known : (k : source.Known) (c : Known) → Covers z k c → (l e : ExprTree) (made : List Ty) → Asked k l e → HasMade z (assign_after s e (settle s l made)).made → Done z agrees c (assigned l e k) (assign_after s e (settle s l made)).code
  behind_known k c h (FieldOf p o f t) e made a m =
      let d = settle_part s o made in
      let fit = and_parts (implied (fields.is_non_null t) (is_non_null (field_type z.program.classes f))) (reads_set z o f && fits z o) a.left in
      let part = part_known k c o made h (and_parts (reads_set z o f) (fits z o) fit.1).1 a.clean_left (made_before z agrees d.made (value s e d.made).made (value_begins s e d.made) m) in
      done_join z agrees c k (assigned (FieldOf p o f t) e k) d.code _ part.done (field_known k part.done.now p o d.target f t e d.made part.done.covers part.this a.target a.right a.some a.clean a.wants m)
  behind_known k c h (ElementOf p b i) e made a m =
      let x = settle_part s b made in
      let y = settle_part s i x.made in
      let fit = and_parts (fits z b) (fits z i) a.left in
      let clean = none_left (inside z.context (Some k) b) (inside z.context (Some k) i) a.clean_left in
      let known = made_before z agrees y.made (value s e y.made).made (value_begins s e y.made) m in
      let one = part_known k c b made h fit.0 clean.0 (made_before z agrees x.made y.made (part_begins s i x.made) known) in
      let two = part_known k one.done.now i x.made one.done.covers fit.1 clean.1 known in
      done_join z agrees c k k (x.code ++ y.code) _ (record { now = two.done.now; runs = runs_join z c one.done.now two.done.now x.code y.code one.done.runs two.done.runs; covers = two.done.covers }) (element_known k two.done.now p x.target y.target e y.made two.done.covers a.right a.clean m)
  behind_known k c h l e made a m = settled_known k c h l e made a m

  pub assign_known : (k : source.Known) (c : Known) → Covers z k c → (l e : ExprTree) (made : List Ty) → Asked k l e → HasMade z (assign s l e made).made → Done z agrees c (assigned l e k) (assign s l e made).code
  assign_known k c h l e made a m = by (has_call l || has_call e) m
    where
      by : (b : Bool) → HasMade z (if b then assign_after s e (settle s l made) else assign_settled s l e made).made → Done z agrees c (assigned l e k) (if b then assign_after s e (settle s l made) else assign_settled s l e made).code
      by true m = behind_known k c h l e made a m
      by false m = settled_known k c h l e made a m

  -- ---- compound assignments

  -- an operation on numbers
  pub record Counts (k : source.Known) (o : Operator) : Type 0 where
    pub right : (a : ExprTree) → source.known_right o a k ≡ k

  pub record Updated (k : source.Known) (l e : ExprTree) : Type 0 where
    pub target : target_fits z l ≡ true
    pub left : fits z l ≡ true
    pub right : fits z e ≡ true
    pub number : is_number z l ≡ true
    pub other : is_null e ≡ false
    pub clean_left : inside z.context (Some k) l ≡ []
    pub clean : inside z.context (Some k) e ≡ []

  both_fit : (k : source.Known) (o : Operator) (p : Place) (l e : ExprTree) → fits z l ≡ true → fits z e ≡ true → is_null e ≡ false → fits z (BinaryOf p o l e) ≡ true
  both_fit k o p l e f g n = and_from _ _ (and_from _ _ (implied_by_false (is_null e) _ n) f) g

  both_clean : (k : source.Known) (o : Operator) (p : Place) (l e : ExprTree) → Counts k o → inside z.context (Some k) l ≡ [] → inside z.context (Some k) e ≡ [] → inside z.context (Some k) (BinaryOf p o l e) ≡ []
  both_clean k o p l e n f g = ap (λ xs. xs ++ inside z.context (Some (source.known_right o l k)) e) f ∙ ap (λ q. inside z.context (Some q) e) (n.right l) ∙ g

  -- nothing is wanted where a number is written
  pub numbered : (u : Option Ty) (t : Ty) (P : Type 0) → implied (is_non_null_type u) (fields.is_non_null t) ≡ true → fields.is_non_null t ≡ false → is_non_null_type u ≡ true → P
  numbered u t P h n i = absurd (false≢true (sym n ∙ implied_true (is_non_null_type u) (fields.is_non_null t) h i))

  pub update_known : (k : source.Known) (c : Known) → Covers z k c → (o : Operator) → Counts k o → (l e : ExprTree) (made : List Ty) → Updated k l e → HasMade z (update s o l e made).made → Done z agrees c k (update s o l e made).code
  update_known k c h o n (LocalOf p x t) e made a m =
      let both = and_parts (z.locals x) (implied (is_non_null_type (local_type z (number z.numbers x))) (fields.is_non_null t)) a.target in
      let no = and_parts (not (fields.is_non_null t)) (not (z.mine x)) a.number in
      let l = LocalOf p x t in
      let w = BinaryOf p o l e in
      let lifts = right_known z agrees os w (both_fit k o p l e a.left a.right a.other) k c made h (both_clean k o p l e n a.clean_left a.clean) m in
      over_known z agrees k c w (right_side s w made) p x both.0 (not_true (z.mine x) no.1) lifts (numbered (local_type z (number z.numbers x)) t _ both.1 (not_true (fields.is_non_null t) no.0))
  update_known k c h o n (FieldOf p q f t) e made a m =
      let d = settle_part s q made in
      let l = FieldOf p d.target f t in
      let w = BinaryOf p o l e in
      let fit = and_parts (implied (fields.is_non_null t) (is_non_null (field_type z.program.classes f))) (reads_set z q f && fits z q) a.left in
      let rest = and_parts (reads_set z q f) (fits z q) fit.1 in
      let part = part_known k c q made h rest.1 a.clean_left (made_before z agrees d.made (value s w d.made).made (value_begins s w d.made) m) in
      let left : fits z l ≡ true = and_from _ _ fit.0 (and_from _ _ (part.reads f rest.0) part.fit) in
      let v = value_known z agrees os w (both_fit k o p l e left a.right a.other) k part.done.now d.made part.done.covers (both_clean k o p l e n part.clean a.clean) m in
      let wants = and_parts (implied (is_non_null (field_type z.program.classes f)) (fields.is_non_null t)) (is_some (field_at z.typed f)) a.target in
      let wrote = write_keeps z agrees k v.now p (plain z.numbers d.target) f (field_at z.typed f) (value s w d.made).value v.covers (numbered (Some (field_type z.program.classes f)) t _ wants.0 (not_true (fields.is_non_null t) a.number)) in
      record { now = wrote.now; runs = runs_join z c part.done.now wrote.now d.code _ part.done.runs (runs_join z part.done.now v.now wrote.now (value s w d.made).code _ v.runs wrote.runs); covers = wrote.covers }
  update_known k c h o n (ElementOf p b i) e made a m =
      let x = settle_part s b made in
      let y = settle_part s i x.made in
      let l = ElementOf p x.target y.target in
      let w = BinaryOf p o l e in
      let fit = and_parts (fits z b) (fits z i) a.left in
      let clean = none_left (inside z.context (Some k) b) (inside z.context (Some k) i) a.clean_left in
      let known = made_before z agrees y.made (value s w y.made).made (value_begins s w y.made) m in
      let one = part_known k c b made h fit.0 clean.0 (made_before z agrees x.made y.made (part_begins s i x.made) known) in
      let two = part_known k one.done.now i x.made one.done.covers fit.1 clean.1 known in
      let left : fits z l ≡ true = and_from _ _ one.fit two.fit in
      let pure : inside z.context (Some k) l ≡ [] = ap (λ xs. xs ++ inside z.context (Some k) y.target) one.clean ∙ two.clean in
      let wrote = element_known k two.done.now p x.target y.target w y.made two.done.covers (both_fit k o p l e left a.right a.other) (both_clean k o p l e n pure a.clean) m in
      record { now = wrote.now; runs = runs_join z c two.done.now wrote.now (x.code ++ y.code) _ (runs_join z c one.done.now two.done.now x.code y.code one.done.runs two.done.runs) wrote.runs; covers = wrote.covers }
  update_known k c h o n l e made a m = nowhere_known k c (BinaryOf (place_of l) o l e) made h (both_fit k o (place_of l) l e a.left a.right a.other) (both_clean k o (place_of l) l e n a.clean_left a.clean) m
