-- Elaborated simple statements pass, where the resolved ones fit.
use Rattle.std.proofs.Common.{◌≡◌, ℕ, List, [], ◌∷◌, ◌++◌, Bool, true, false, Option, Some, None, refl, sym, ◌∙◌, ap, subst, inl, inr, ◌⊎◌, ⊎_elim}
use Rattle.std.specs.Prelude.{pos, ◌==◌, ◌||◌, if◌then◌else◌, slice_get, is_some}
use Rattle.std.proofs.lemmas.Bool.{and_parts, and_from, eq-eqb, false≢true}
use Rattle.std.proofs.lemmas.Option.{same_Some}
use Rattle.ss_core.specs.declared.names.Mark.{Mark}
use Rattle.ss_core.specs.declared.names.Mark.TheVariants as mark
use Rattle.ss_core.specs.declared.names.Place.{Place}
use Rattle.ss_core.specs.declared.names.Ty.{Ty}
use Rattle.ss_core.specs.declared.names.Ty.TheVariants as ty
use Rattle.ss_core.specs.declared.expr.Operator.{Operator}
use Rattle.ss_core.specs.declared.expr.Operator.TheVariants as op
use Rattle.ss_ast.specs.declared.stmt.AssignOperator.{AssignOperator}
use Rattle.ss_ast.specs.declared.stmt.AssignOperator.TheVariants as operator
use Rattle.ss_ast.specs.declared.stmt.StepOperator.{StepOperator}
use Rattle.ss_ast.specs.declared.stmt.StepOperator.TheVariants as step
use Rattle.ss_core.specs.Tree as core
use Rattle.ss_core.specs.Tree.{AssignStmt, WriteStmt, WriteElementStmt, CallStmt, BaseConstructor, ReadyStmt, PrintStmt}
use Rattle.ss_core.specs.Chain.{is_type, DeclaredField}
use Rattle.ss_core.specs.Types.{nullable}
use Rattle.ss_typed.specs.Tree.{ExprTree, ThisOf, IntOf, LocalOf, FieldOf, ElementOf, BinaryOf, Arguments, DeclaratorTree, SimpleTree, AssignOf, StepOf, AloneOf, PrintOf, PrintTextOf, BaseCallOf}
use Rattle.ss_typed.specs.Types.{class_type, type_of}
use Rattle.ss_typed.specs.Types as typed
use Rattle.ss_owners_rules.specs.Words.{NoWord, misplaced}
use Rattle.ss_expand_rules.specs.Numbers.{number, plain}
use Rattle.ss_expand_rules.specs.Calls.{has_call}
use Rattle.ss_typed.specs.Shapes.{is_this, place_of}
use Rattle.ss_expand_rules.specs.Program.{field_at, above_of, Constructor, number_of}
use Rattle.ss_typed.specs.Lookups.{constructor_of, param_types_in}
use Rattle.ss_expand_rules.specs.Lifting.{Opened, ElaborationContext, Source, Pure, Created, CreatedArray, Called, put, Lifted, next, temporary_type, any_object, right_side, value, arguments_of}
use Rattle.ss_expand_rules.specs.Simple.{into_local, write_of, write, assign_settled, Settled, settle_lifted, settle_part, settle, assign_after, assign, update, assignment, step_operator, default_of, declared_as, declare, drop_result, alone, print, has_delayed_constructor, ready_after, base_with, base_of, simple}
use Rattle.ss_store_rules.specs.Changes.{below, is_array}
use Rattle.ss_store_rules.specs.Types.{has_fitting, fits_type, is_int, is_bool, has_class, operation_type, element_of, code_type}
use Rattle.ss_store_rules.specs.Typed.{same_mark, callee_of, fits_declared, has_type_in, is_write_of, is_element_write, is_printed}
use Rattle.ss_expand_formed.proofs.Facts.{none_left, or_false}
use Rattle.ss_expand_formed.proofs.Choosing.{on_either}
use Rattle.ss_expand_formed.proofs.Shape.{each-append}
use Rattle.ss_expand_formed.proofs.Growing.{begins_append}
use Rattle.ss_expand_formed.proofs.Growth.{settled_begins, part_begins, declare_begins}
use Rattle.ss_expand_formed.proofs.Fit.{Context, IsRead, Fits}
use Rattle.ss_expand_formed.proofs.Plain.{bare, bare_int, bare_bool, bare_class}
use Rattle.ss_expand_formed.proofs.Fits.{can_lift, FitCode, FitArguments, FitAssigned, FitPrinted, FitSimple, FitDeclarator, FitDeclared, WhereGiven}
use Rattle.ss_expand_formed.proofs.Wider.{Wider, fit_wider, fits_wider}
use Rattle.ss_expand_formed.proofs.Values.{Frame, elaboration_context, Agrees, passes, Passing, HasMade, some_int, some_class, fits_same, temporary_takes, element_is, tys, Is, code_is, plain_is, made_before}
use Rattle.ss_expand_formed.proofs.Lifting.{bare_declared, Coding, Gives, Lifts, put_passes, made_last, right_passes, value_passes, arguments_pass, call_is}

-- ---- types

plain_twice : (t : Ty) → nullable (nullable t) ≡ nullable t
plain_twice ty.Int = refl
plain_twice ty.Bool = refl
plain_twice ty.Null = refl
plain_twice (ty.Ref t n) = refl

module _ (C : List core.ClassTree) where
  declared_same : (a : Option Ty) (t u : Ty) → nullable u ≡ nullable t → has_fitting C a t ≡ true → has_fitting C a u ≡ true
  declared_same None t u e h = h
  declared_same (Some a) t u e h = fits_same C a t u e h

  -- what fits a type fits a local of it
  pub fits_bare : (a o : Option Ty) (t : Ty) → bare o ≡ bare (Some t) → has_fitting C a t ≡ true → fits_declared C a o ≡ true
  fits_bare a None t e h = absurd (let z : ⊥ = cc in z)
  fits_bare a (Some u) t e h = declared_same a t u (same_Some _ _ e) h

  fits_plain : (a o : Option Ty) → fits_declared C a o ≡ true → fits_declared C a (bare o) ≡ true
  fits_plain a None h = h
  fits_plain a (Some t) h = declared_same a t (nullable t) (plain_twice t) h

  some_declared : (a o : Option Ty) → fits_declared C a o ≡ true → is_some a ≡ true
  some_declared a None h = absurd (false≢true h)
  some_declared None (Some t) h = h
  some_declared (Some a) (Some t) h = refl

  int_fits : (t : Option Ty) → is_int t ≡ true → fits_declared C (Some ty.Int) t ≡ true
  int_fits None h = h
  int_fits (Some ty.Int) h = refl
  int_fits (Some ty.Bool) h = absurd (false≢true h)
  int_fits (Some ty.Null) h = absurd (false≢true h)
  int_fits (Some (ty.Ref t n)) h = absurd (false≢true h)

temporary_class : (test : ℕ → Bool) (t : Option Ty) → has_class test t ≡ true → has_class test (Some (temporary_type any_object t)) ≡ true
temporary_class test None h = absurd (false≢true h)
temporary_class test (Some ty.Int) h = absurd (false≢true h)
temporary_class test (Some ty.Bool) h = absurd (false≢true h)
temporary_class test (Some ty.Null) h = absurd (false≢true h)
temporary_class test (Some (ty.Ref t n)) h = h

temporary_int : (t : Option Ty) → is_int t ≡ true → is_int (Some (temporary_type any_object t)) ≡ true
temporary_int None h = absurd (false≢true h)
temporary_int (Some ty.Int) h = refl
temporary_int (Some ty.Bool) h = absurd (false≢true h)
temporary_int (Some ty.Null) h = absurd (false≢true h)
temporary_int (Some (ty.Ref t n)) h = absurd (false≢true h)

temporary_element : (test : ℕ → Bool) (t : Option Ty) → has_class test t ≡ true → typed.element_of (Some (temporary_type any_object t)) ≡ typed.element_of t
temporary_element test None h = absurd (false≢true h)
temporary_element test (Some ty.Int) h = absurd (false≢true h)
temporary_element test (Some ty.Bool) h = absurd (false≢true h)
temporary_element test (Some ty.Null) h = absurd (false≢true h)
temporary_element test (Some (ty.Ref t n)) h = refl

same_mark_itself : (m : Mark) → same_mark m m ≡ true
same_mark_itself mark.Plain = refl
same_mark_itself mark.Rep = refl
same_mark_itself mark.Peer = refl

this_calls : (e : ExprTree) → is_this e ≡ true → has_call e ≡ false
this_calls (ThisOf p t) h = refl
this_calls e h = absurd (false≢true h)

-- the parts of a left side are without calls
abbrev pub Parts : ExprTree → Type 0
Parts (FieldOf p o f t) = has_call o ≡ false
Parts (ElementOf p a i) = (has_call a ≡ false) × (has_call i ≡ false)
Parts l = Unit {0}

parts_of : (l : ExprTree) → has_call l ≡ false → Parts l
parts_of (FieldOf p o f t) h = h
parts_of (ElementOf p a i) h = or_false (has_call a) (has_call i) h
parts_of l h = tt

module _ (z : Frame) (agrees : Agrees z) (source : Context) (wider : Wider source z.context) (os : List Opened) where
  abbrev C : List core.ClassTree
  C = z.program.classes

  abbrev s : ElaborationContext
  s = elaboration_context z os

  abbrev K : Bool
  K = z.written.flags.ctor

  abbrev Codes : ExprTree → Type 0
  Codes e = Coding z agrees K e

  pub coding : (e : ExprTree) → FitCode z.typed C source K z.first e → Codes e
  coding e f = (fit_wider z.typed C source z.context wider 0 e f.0, f.1, f.2)

  -- ---- writes

  into_passes : (p : Place) (x : ℕ) (l : Lifted) (t : Option Ty) → Lifts z agrees K l t → fits_declared C t (slice_get (tys z agrees) x) ≡ true → Passing z (into_local p x l).code
  into_passes p x l t h g = each-append (passes z) l.code (put p x l.source ∷ []) h.0 (put_passes z agrees K p x l.source t h.1 g)

  value_fits : (a : core.ExprTree) (t o : Option Ty) → Is z agrees a (bare t) → fits_declared C t o ≡ true → fits_declared C (code_type C z.body a) o ≡ true
  value_fits a t o i h = ap (λ u. fits_declared C u o) (code_is z agrees a (bare t) i) ∙ bare_declared C t o ∙ h

  element_takes : (a : core.ExprTree) (o : Option Ty) → fits_declared C (code_type C z.body a) o ≡ true → is_element_write C z.body a o ≡ true
  element_takes a None h = h
  element_takes a (Some t) h = h

  write_of_passes : (p : Place) (o a : core.ExprTree) (f : ℕ) (t : Ty) (d : Option DeclaredField) → (r : IsRead C (code_type C z.body o) f t) → d ≡ Some r.field → has_type_in C z.body a t ≡ true → Passing z (write_of p o f d a)
  write_of_passes p o a f t None r e h = refl
  write_of_passes p o a f t (Some d) r e h =
      let same = same_Some _ _ e in
      let type : has_type_in C z.body a d.field.ty ≡ true = ap (has_type_in C z.body a) (ap (λ (x : DeclaredField). x.field.ty) same ∙ r.type) ∙ h in
      let has : has_class (λ c. below C c d.class) (code_type C z.body o) ≡ true = ap (λ (x : DeclaredField). has_class (λ c. below C c x.class) (code_type C z.body o)) same ∙ r.has in
      let whole : is_write_of C z.body o d.field.mark d.class a (Some d) ≡ true = and_from _ _ (and_from _ _ (and_from _ _ (same_mark_itself d.field.mark) (eq-eqb d.class d.class refl)) has) type in
      and_from _ _ (and_from _ _ (ap (is_write_of C z.body o d.field.mark d.class a) (r.there ∙ ap Some (sym same)) ∙ whole) refl) refl

  write_passes : (l : ExprTree) (a : core.ExprTree) (t : Option Ty) → Codes l → Parts l → Is z agrees a (bare t) → fits_declared C t (type_of l) ≡ true → Passing z (write s l a)
  write_passes (FieldOf p o f t) a u g n i h =
      let r = g.0.1 in
      let plainly = plain_is z agrees o g.0.0 g.1 n in
      let has : has_class (λ c. below C c r.field.class) (code_type C z.body (plain z.numbers o)) ≡ true = ap (has_class (λ c. below C c r.field.class)) (code_is z agrees (plain z.numbers o) (bare (type_of o)) plainly) ∙ bare_class (λ c. below C c r.field.class) (type_of o) ∙ r.has in
      let read : IsRead C (code_type C z.body (plain z.numbers o)) f t = record { field = r.field; there = r.there; has = has; type = r.type } in
      write_of_passes p (plain z.numbers o) a f t (field_at z.typed f) read (ap (λ fs. slice_get fs f) (sym agrees.fields) ∙ r.there) (value_fits a u (Some t) i h)
  write_passes (ElementOf p b j) a u g n i h =
      let words = none_left (misplaced NoWord b) (misplaced NoWord j) g.1 in
      let one = plain_is z agrees b g.0.0 words.0 n.0 in
      let two = plain_is z agrees j g.0.1 words.1 n.1 in
      let index : is_int (code_type C z.body (plain z.numbers j)) ≡ true = ap is_int (code_is z agrees (plain z.numbers j) (bare (type_of j)) two) ∙ bare_int (type_of j) ∙ g.0.3 in
      let kind : element_of C (code_type C z.body (plain z.numbers b)) ≡ bare (typed.element_of (type_of b)) = ap (element_of C) (code_is z agrees (plain z.numbers b) (bare (type_of b)) one) ∙ element_is C (type_of b) g.0.2 in
      let takes = element_takes a (bare (typed.element_of (type_of b))) (value_fits a u (bare (typed.element_of (type_of b))) i (fits_plain C u (typed.element_of (type_of b)) h)) in
      and_from _ _ (and_from _ _ (and_from _ _ index (ap (is_element_write C z.body a) kind ∙ takes)) refl) refl
  write_passes l a t g n i h = refl

  local_takes : (y : ℕ) (t : Ty) (a : Option Ty) → slice_get z.context.locals y ≡ Some t → has_fitting C a t ≡ true → fits_declared C a (slice_get (tys z agrees) (number z.numbers y)) ≡ true
  local_takes y t a at h = fits_bare C a (slice_get (tys z agrees) (number z.numbers y)) t (agrees.reads.locals y t at) h

  write_value_passes : (l e : ExprTree) (made : List Ty) → Codes l → Parts l → Codes e → fits_declared C (type_of e) (type_of l) ≡ true → HasMade z (value s e made).made → Passing z ((value s e made).code ++ write s l (value s e made).value)
  write_value_passes l e made g n f h m =
      let v = value_passes z agrees K os e made f (some_declared C (type_of e) (type_of l) h) m in
      each-append (passes z) (value s e made).code (write s l (value s e made).value) v.0 (write_passes l (value s e made).value (type_of e) g n v.1 h)

  -- a left side whose parts are settled
  settled_passes : (l e : ExprTree) (made : List Ty) → Codes l → Parts l → Codes e → fits_declared C (type_of e) (type_of l) ≡ true → HasMade z (assign_settled s l e made).made → Passing z (assign_settled s l e made).code
  settled_passes (LocalOf p y t) e made g n f h m = into_passes p (number z.numbers y) (right_side s e made) (type_of e) (right_passes z agrees K os e made f m) (local_takes y t (type_of e) g.0 h)
  settled_passes l e made g n f h m = write_value_passes l e made g n f h m

  -- ---- left sides

  -- what stands for an object or index part
  record Part (e : ExprTree) (x : Settled) : Type 0 where
    passes : Passing z x.code
    codes : Codes x.target
    calls : has_call x.target ≡ false
    type : (type_of x.target ≡ type_of e) ⊎ (type_of x.target ≡ Some (temporary_type any_object (type_of e)))

  part_passes : (e : ExprTree) (made : List Ty) → Codes e → is_some (type_of e) ≡ true → HasMade z (settle_part s e made).made → Part e (settle_part s e made)
  part_passes e made f some m = by (is_this e) refl m
    where
      by : (b : Bool) → is_this e ≡ b → HasMade z (if b then record { code = []; target = e; made = made } else settle_lifted s e (right_side s e made)).made → Part e (if b then record { code = []; target = e; made = made } else settle_lifted s e (right_side s e made))
      by true i m = record { passes = refl; codes = f; calls = this_calls e i; type = inl refl }
      by false i m =
          let l = right_side s e made in
          let t = temporary_type any_object (type_of e) in
          let at = made_last z agrees K l.made t m in
          let h = right_passes z agrees K os e made f (made_before z agrees l.made (l.made ++ t ∷ []) (begins_append l.made (t ∷ [])) m) in
          let fit : fits_declared C (type_of e) (slice_get (tys z agrees) (next z.numbers l.made)) ≡ true = ap (fits_declared C (type_of e)) at.0 ∙ temporary_takes C any_object (type_of e) some (λ n. refl) in
          record { passes = into_passes (place_of e) (next z.numbers l.made) l (type_of e) h fit; codes = (at.2, refl, refl); calls = refl; type = inr refl }

  part_class : (test : ℕ → Bool) (e : ExprTree) (x : Settled) → Part e x → has_class test (type_of e) ≡ true → has_class test (type_of x.target) ≡ true
  part_class test e x p h = ⊎_elim (λ same. ap (has_class test) same ∙ h) (λ kept. ap (has_class test) kept ∙ temporary_class test (type_of e) h) p.type

  part_int : (e : ExprTree) (x : Settled) → Part e x → is_int (type_of e) ≡ true → is_int (type_of x.target) ≡ true
  part_int e x p h = ⊎_elim (λ same. ap is_int same ∙ h) (λ kept. ap is_int kept ∙ temporary_int (type_of e) h) p.type

  part_element : (test : ℕ → Bool) (e : ExprTree) (x : Settled) → Part e x → has_class test (type_of e) ≡ true → typed.element_of (type_of x.target) ≡ typed.element_of (type_of e)
  part_element test e x p h = ⊎_elim (λ same. ap typed.element_of same) (λ kept. ap typed.element_of kept ∙ temporary_element test (type_of e) h) p.type

  -- what stands for a left side
  record Side (l : ExprTree) (x : Settled) : Type 0 where
    passes : Passing z x.code
    codes : Codes x.target
    parts : Parts x.target
    type : type_of x.target ≡ type_of l

  none_both : {X : Type 0} (xs ys : List X) → xs ≡ [] → ys ≡ [] → xs ++ ys ≡ []
  none_both xs ys h g = ap (λ us. us ++ ys) h ∙ g

  settle_passes : (l : ExprTree) (made : List Ty) → Codes l → HasMade z (settle s l made).made → Side l (settle s l made)
  settle_passes (FieldOf p o f t) made g m =
      let r = g.0.1 in
      let test = λ (c : ℕ). below C c r.field.class in
      let x = settle_part s o made in
      let part = part_passes o made (g.0.0, g.1, g.2) (some_class test (type_of o) r.has) m in
      record { passes = part.passes; codes = ((part.codes.0, record { field = r.field; there = r.there; has = part_class test o x part r.has; type = r.type }), part.codes.1, part.codes.2); parts = part.calls; type = refl }
  settle_passes (ElementOf p a i) made g m =
      let words = none_left (misplaced NoWord a) (misplaced NoWord i) g.1 in
      let out = and_parts (can_lift a) (can_lift i) g.2 in
      let x = settle_part s a made in
      let y = settle_part s i x.made in
      let one = part_passes a made (g.0.0, words.0, out.0) (some_class (is_array C) (type_of a) g.0.2) (made_before z agrees x.made y.made (part_begins s i x.made) m) in
      let two = part_passes i x.made (g.0.1, words.1, out.1) (some_int (type_of i) g.0.3) m in
      record {
        passes = each-append (passes z) x.code y.code one.passes two.passes;
        codes = ((one.codes.0, two.codes.0, part_class (is_array C) a x one g.0.2, part_int i y two g.0.3), none_both (misplaced NoWord x.target) (misplaced NoWord y.target) one.codes.1 two.codes.1, and_from _ _ one.codes.2 two.codes.2);
        parts = (one.calls, two.calls);
        type = part_element (is_array C) a x one g.0.2;
      }
  settle_passes l made g m = record { passes = refl; codes = g; parts = tt; type = refl }

  -- ---- assignments

  after_passes : (l e : ExprTree) (x : Settled) → Side l x → Codes e → fits_declared C (type_of e) (type_of l) ≡ true → HasMade z (assign_after s e x).made → Passing z (assign_after s e x).code
  after_passes l e x side f h m = each-append (passes z) x.code (assign_settled s x.target e x.made).code side.passes (settled_passes x.target e x.made side.codes side.parts f (ap (fits_declared C (type_of e)) side.type ∙ h) m)

  assign_passes : (l e : ExprTree) (made : List Ty) → Codes l → Codes e → fits_declared C (type_of e) (type_of l) ≡ true → HasMade z (assign s l e made).made → Passing z (assign s l e made).code
  assign_passes l e made g f h m = by (has_call l || has_call e) refl m
    where
      by : (b : Bool) → (has_call l || has_call e) ≡ b → HasMade z (if b then assign_after s e (settle s l made) else assign_settled s l e made).made → Passing z (if b then assign_after s e (settle s l made) else assign_settled s l e made).code
      by true i m =
          let x = settle s l made in
          after_passes l e x (settle_passes l made g (made_before z agrees x.made (assign_after s e x).made (settled_begins s x.target e x.made) m)) f h m
      by false i m = settled_passes l e made g (parts_of l (or_false (has_call l) (has_call e) i).0) f h m

  -- of numbers
  pub record IsNumeric (o : Operator) : Type 0 where
    pub gives : typed.operation_type o ≡ ty.Int
    pub takes : (t u : Option Ty) → is_int t ≡ true → is_int u ≡ true → operation_type o t u ≡ Some (typed.operation_type o)

  update_passes : (o : Operator) → IsNumeric o → (l e : ExprTree) (made : List Ty) → Codes l → Codes e → is_int (type_of l) ≡ true → is_int (type_of e) ≡ true → HasMade z (update s o l e made).made → Passing z (update s o l e made).code
  update_passes o numeric l e made g f h i m =
      let x = settle s l made in
      let whole = BinaryOf (place_of x.target) o x.target e in
      let side = settle_passes l made g (made_before z agrees x.made (assign_after s whole x).made (settled_begins s x.target whole x.made) m) in
      let fit : Codes whole = ((side.codes.0, f.0, numeric.takes (type_of x.target) (type_of e) (ap is_int side.type ∙ h) i), none_both (misplaced NoWord x.target) (misplaced NoWord e) side.codes.1 f.1, and_from _ _ side.codes.2 f.2) in
      after_passes l whole x side fit (ap (λ t. fits_declared C (Some t) (type_of l)) numeric.gives ∙ int_fits C (type_of l) h) m

  added : IsNumeric op.Add
  added = record { gives = refl; takes = λ t u h g. rw (h, g) refl }

  subtracted : IsNumeric op.Subtract
  subtracted = record { gives = refl; takes = λ t u h g. rw (h, g) refl }

  multiplied : IsNumeric op.Multiply
  multiplied = record { gives = refl; takes = λ t u h g. rw (h, g) refl }

  assignment_passes : (l : ExprTree) (o : AssignOperator) (e : ExprTree) (made : List Ty) → Codes l → Codes e → FitAssigned z.typed C source K z.first l o e → HasMade z (assignment s l o e made).made → Passing z (assignment s l o e made).code
  assignment_passes l operator.Set e made g f h m = assign_passes l e made g f h m
  assignment_passes l operator.Add e made g f h m = update_passes op.Add added l e made g f h.0 h.1 m
  assignment_passes l operator.Subtract e made g f h m = update_passes op.Subtract subtracted l e made g f h.0 h.1 m
  assignment_passes l operator.Multiply e made g f h m = update_passes op.Multiply multiplied l e made g f h.0 h.1 m

  step_numeric : (o : StepOperator) → IsNumeric (step_operator o)
  step_numeric step.Up = added
  step_numeric step.Down = subtracted

  -- ---- declarations

  declared_takes : (d : DeclaratorTree) (a : Option Ty) → FitDeclarator z.typed C source K z.first d → has_fitting C a d.ty ≡ true → fits_declared C a (slice_get (tys z agrees) d.local) ≡ true
  declared_takes d a f h =
      subst (λ n. fits_declared C a (slice_get (tys z agrees) n) ≡ true) (agrees.declared d.local f.0) (local_takes d.local d.ty a (wider.locals d.local d.ty f.1) h)

  default_fits : (p : Place) (t : Ty) → is_type C t ≡ true → has_fitting C (code_type C z.body (default_of p t)) t ≡ true
  default_fits p ty.Int h = refl
  default_fits p ty.Bool h = refl
  default_fits p ty.Null h = absurd (false≢true h)
  default_fits p (ty.Ref t n) h = refl

  declared_passes : (d : DeclaratorTree) (e : Option ExprTree) (made : List Ty) → FitDeclarator z.typed C source K z.first d → d.initial ≡ e → HasMade z (declared_as s d e made).made → Passing z (declared_as s d e made).code
  declared_passes d None made f i m = and_from _ _ (and_from _ _ (declared_takes d (code_type C z.body (default_of d.place d.ty)) f (default_fits d.place d.ty f.2)) refl) refl
  declared_passes d (Some e) made f i m =
      let g = subst (WhereGiven z.typed C source K z.first (λ (x : ExprTree). FitCode z.typed C source K z.first x × (has_fitting C (type_of x) d.ty ≡ true))) i f.3 in
      into_passes d.place d.local (right_side s e made) (type_of e) (right_passes z agrees K os e made (coding e g.0) m) (declared_takes d (type_of e) f g.1)

  pub declare_passes : (ds : List DeclaratorTree) (made : List Ty) → FitDeclared z.typed C source K z.first ds → HasMade z (declare s ds made).made → Passing z (declare s ds made).code
  declare_passes [] made f m = refl
  declare_passes (d ∷ ds) made f m =
      let one = declared_as s d d.initial made in
      each-append (passes z) one.code (declare s ds one.made).code
      (declared_passes d d.initial made f.0 refl (made_before z agrees one.made (declare s ds one.made).made (declare_begins s ds one.made) m)) (declare_passes ds one.made f.1 m)

  -- ---- calls alone and printing

  drop_passes : (d : Source) (t : Option Ty) → Gives z agrees K d t → Passing z (drop_result d)
  drop_passes (Pure e) t h = refl
  drop_passes (Created p c es) t h = and_from _ _ (and_from _ _ h.0 refl) refl
  drop_passes (CreatedArray p c e) t h = and_from _ _ (and_from _ _ h.0 refl) refl
  drop_passes (Called p callee es) t h = and_from _ _ (and_from _ _ h.0 refl) refl

  alone_passes : (l : Lifted) (t : Option Ty) → Lifts z agrees K l t → Passing z (alone l).code
  alone_passes l t h = each-append (passes z) l.code (drop_result l.source) h.0 (drop_passes l.source t h.1)

  printed_some : (t : Option Ty) → (is_int t || is_bool t) ≡ true → is_some t ≡ true
  printed_some None h = h
  printed_some (Some t) h = refl

  print_passes : (p : Place) (e : Option ExprTree) (line : Bool) (made : List Ty) → WhereGiven z.typed C source K z.first (FitPrinted z.typed C source K z.first) e → HasMade z (print s p e line made).made → Passing z (print s p e line made).code
  print_passes p None line made f m = refl
  print_passes p (Some e) line made f m =
      let v = value_passes z agrees K os e made (coding e f.0) (printed_some (type_of e) f.1) m in
      let a = (value s e made).value in
      let c = code_is z agrees a (bare (type_of e)) v.1 in
      let fit : is_printed C z.body (Some a) ≡ true = ap (λ t. is_int t || is_bool t) c ∙ (rw (bare_int (type_of e), bare_bool (type_of e)) f.1) in
      each-append (passes z) (value s e made).code (PrintStmt p (Some a) line ∷ []) v.0 (and_from _ _ (and_from _ _ fit refl) refl)

  -- ---- `base(..)`

  ready_passes : (p : Place) (t : ℕ) → Passing z (ready_after s p t)
  ready_passes p t = on_either (Passing z) z.written.flags.delayed [] (if has_delayed_constructor z.typed t then ReadyStmt p ∷ [] else []) refl (on_either (Passing z) (has_delayed_constructor z.typed t) (ReadyStmt p ∷ []) [] refl refl)

  base_passes : (p : Place) (es : Arguments) (made : List Ty) → K ≡ true → FitArguments z.typed C z.context K z.first es (param_types_in (constructor_of z.typed (above_of z.typed z.written.class))) → HasMade z (base_of s p es (above_of z.typed z.written.class) made).made → Passing z (base_of s p es (above_of z.typed z.written.class) made).code
  base_passes p es made k f m = by (above_of z.typed z.written.class == 0) refl m
    where
      ts : List Ty
      ts = param_types_in (constructor_of z.typed (above_of z.typed z.written.class))

      by : (b : Bool) → (above_of z.typed z.written.class == 0) ≡ b → HasMade z (if b then record { code = ready_after s p (above_of z.typed z.written.class); made = made } else base_with s p (above_of z.typed z.written.class) (arguments_of s (param_types_in (constructor_of z.typed (above_of z.typed z.written.class))) es made)).made →
          Passing z (if b then record { code = ready_after s p (above_of z.typed z.written.class); made = made } else base_with s p (above_of z.typed z.written.class) (arguments_of s (param_types_in (constructor_of z.typed (above_of z.typed z.written.class))) es made)).code
      by true i m = ready_passes p (above_of z.typed z.written.class)
      by false i m =
          let up = above_of z.typed z.written.class in
          let us = param_types_in (constructor_of z.typed up) in
          let l = arguments_of s us es made in
          let h = arguments_pass z agrees K os es us made f m in
          let n = number_of z.typed (Constructor up) in
          let call = call_is z agrees K os (callee_of z.program z.body (BaseConstructor n)) us None l.values (agrees.calls.base_constructor k i) h.1 in
          each-append (passes z) l.code (CallStmt p None (BaseConstructor n) l.values ∷ ready_after s p up) h.0 (and_from _ _ (and_from _ _ call refl) (ready_passes p up))

  -- ---- simple statements

  pub simple_passes : (x : SimpleTree) (made : List Ty) → FitSimple z.typed C source K z.first x → HasMade z (simple s x made).made → Passing z (simple s x made).code
  simple_passes (AssignOf l o e) made f m = assignment_passes l o e made (coding l f.0) (coding e f.1) f.2 m
  simple_passes (StepOf l o) made f m = update_passes (step_operator o) (step_numeric o) l (IntOf (place_of l) (pos 1)) made (coding l f.0) (refl, refl, refl) f.1 refl m
  simple_passes (AloneOf e) made f m = alone_passes (right_side s e made) (type_of e) (right_passes z agrees K os e made (coding e f) m)
  simple_passes (PrintOf p e line) made f m = print_passes p e line made f m
  simple_passes (PrintTextOf p text line) made f m = refl
  simple_passes (BaseCallOf p es) made f m =
      let here = subst (λ c. Fits z.typed C source 0 es (param_types_in (constructor_of z.typed (above_of z.typed c)))) (wider.class ∙ agrees.class) f.1.0 in
      base_passes p es made f.0 (fits_wider z.typed C source z.context wider 0 es (param_types_in (constructor_of z.typed (above_of z.typed z.written.class))) here, f.1.1, f.1.2) m
