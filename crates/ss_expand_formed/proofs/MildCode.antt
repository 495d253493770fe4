-- The code of simple statements and of values only adds to the fields that have their values, and an assignment adds its field.
use Rattle.std.proofs.Common.{◌≡◌, ℕ, List, true, Option, Some, None, refl, ◌∙◌, ap}
use Rattle.std.specs.Prelude.{◌||◌, ◌==◌, is_some}
use Rattle.std.proofs.lemmas.Bool.{or_left, or_right, eq-eqb, false≢true}
use Rattle.ss_core.specs.declared.names.Place.{Place}
use Rattle.ss_core.specs.declared.names.Ty.{Ty}
use Rattle.ss_core.specs.Tree as core
use Rattle.ss_core.specs.Tree.{LocalExpr, WriteStmt, BodyTree, CoreTree}
use Rattle.ss_core.specs.Chain.{DeclaredField}
use Rattle.ss_core.specs.View.{code_of}
use Rattle.ss_ast.specs.declared.stmt.AssignOperator.TheVariants as operator
use Rattle.ss_typed.specs.Tree.{ExprTree, ThisOf, FieldOf, Arguments, DeclaratorTree, SimpleTree, AssignOf, BaseCallOf}
use Rattle.ss_expand_rules.specs.Numbers.{Numbers}
use Rattle.ss_expand_rules.specs.Program.{field_at, above_of}
use Rattle.ss_expand_rules.specs.Calls.{has_call}
use Rattle.ss_expand_rules.specs.Lifting.{ElaborationContext, value, right_side, arguments_of}
use Rattle.ss_expand_rules.specs.Code.{Coded}
use Rattle.ss_expand_rules.specs.Simple.{write_of, assign_settled, settle, assign_after, declare, simple}
use Rattle.ss_store_rules.specs.Locals.{each}
use Rattle.ss_store_rules.specs.Paths.{at_end}
use Rattle.ss_expand_formed.proofs.Along.{at_end-append}
use Rattle.ss_expand_formed.proofs.Shape.{Code}
use Rattle.ss_expand_formed.proofs.Choices.{where_chosen}
use Rattle.ss_expand_formed.proofs.Lifts.{Keeps, FitLift, right_fits, value_fits, arguments_fit}
use Rattle.ss_expand_formed.proofs.Simple.{KeepsSimple, InSimple, declare_runs, base_runs, simple_runs}
use Rattle.ss_expand_formed.proofs.Free.{Anything, AnyGiven, any_passes, KeepsFree, free_keeps, any_simple, any_declared}
use Rattle.ss_expand_formed.proofs.Mild.{Fields, fields_flow, is_mild, Grows, mild_end}

lifts_mild : KeepsFree is_mild
lifts_mild = record {
  assign = λ p x e. refl;
  new = λ p x t es. refl;
  array = λ p x t e. refl;
  call = λ p x e t m es. refl;
  static = λ p x n es. refl;
  base = λ p x n es. refl;
  branch = λ p e a b. refl;
}

pub all_mild : (ns : Numbers) → Keeps ns Anything AnyGiven any_passes is_mild
all_mild ns = free_keeps ns is_mild lifts_mild

simple_mild : (ns : Numbers) → KeepsSimple ns Anything any_passes is_mild
simple_mild ns = record {
  field_fine = λ p f t q n u. tt;
  local_fine = λ q n u. tt;
  element_fine = λ p a i h g. tt;
  binary_fine = λ p o a b h g. tt;
  number_fine = λ p n. tt;
  default_passes = λ p t. refl;
  write_passes = λ p o f m t e h g. refl;
  element_passes = λ p a i e h g j. refl;
  print_passes = λ p e line h. refl;
  line_passes = λ p line. refl;
  text_passes = λ p text line. refl;
}

any_in : (x : SimpleTree) → InSimple Anything AnyGiven x
any_in (BaseCallOf p es) = tt
any_in x = any_simple AnyGiven x refl

abbrev pub IsMild : Code → Type 0
IsMild xs = each is_mild (code_of xs) ≡ true

module _ (z : ElaborationContext) where
  pub simple_is_mild : (x : SimpleTree) (made : List Ty) → IsMild (simple z x made).code
  simple_is_mild x made =
      simple_runs Anything AnyGiven any_passes is_mild z (all_mild z.numbers) (simple_mild z.numbers) AnyGiven
      (λ p es m h. base_runs Anything AnyGiven any_passes is_mild z (all_mild z.numbers) (simple_mild z.numbers) p es (above_of z.program z.body.class) m refl (λ n vs g. refl) tt) x made (any_in x)

  pub value_is_mild : (e : ExprTree) (made : List Ty) → IsMild (value z e made).code
  value_is_mild e made = (value_fits Anything AnyGiven any_passes is_mild z (all_mild z.numbers) e made tt).0

  pub right_is_mild : (e : ExprTree) (made : List Ty) → FitLift Anything AnyGiven any_passes is_mild (right_side z e made)
  right_is_mild e made = right_fits Anything AnyGiven any_passes is_mild z (all_mild z.numbers) e made tt

  pub declared_is_mild : (ds : List DeclaratorTree) (made : List Ty) → IsMild (declare z ds made).code
  declared_is_mild ds made = declare_runs Anything AnyGiven any_passes is_mild z (all_mild z.numbers) (simple_mild z.numbers) ds made (any_declared ds)

  pub given_is_mild : (ts : List Ty) (es : Arguments) (made : List Ty) → IsMild (arguments_of z ts es made).code
  given_is_mild ts es made = (arguments_fit Anything AnyGiven any_passes is_mild z (all_mild z.numbers) ts es made tt).0

  -- ---- an assignment of a field of `this`

  -- the end is reached, with this field too
  pub record AddsField (c : CoreTree) (b : BodyTree) (f : ℕ) (xs : Code) (k : Fields) : Type 0 where
    pub fields : Fields
    pub is : at_end (fields_flow c b) (code_of xs) (Some k) ≡ Some fields
    pub grows : Grows k fields
    pub has : fields f ≡ true

  module _ (c : CoreTree) (b : BodyTree) where
    write_adds : (q r : Place) (f : ℕ) (d : Option DeclaredField) (v : core.ExprTree) (k : Fields) → is_some d ≡ true → AddsField c b f (write_of q (LocalExpr r 0) f d v) k
    write_adds q r f None v k h = absurd (false≢true h)
    write_adds q r f (Some d) v k h = record { fields = λ g. k g || g == f; is = refl; grows = λ g i. or_left (k g) _ i; has = or_right (k f) _ (eq-eqb f f refl) }

    settled_adds : (q r : Place) (t f : ℕ) (u : Ty) (e : ExprTree) (made : List Ty) (k : Fields) → is_some (field_at z.program f) ≡ true → AddsField c b f (assign_settled z (FieldOf q (ThisOf r t) f u) e made).code k
    settled_adds q r t f u e made k h =
        let v = value z e made in
        let one = mild_end c b (code_of v.code) k (value_is_mild e made) in
        let two = write_adds q r f (field_at z.program f) v.value one.fields h in
        record {
          fields = two.fields;
          is = at_end-append (fields_flow c b) v.code (write_of q (LocalExpr r 0) f (field_at z.program f) v.value) (Some k) ∙ ap (at_end (fields_flow c b) (code_of (write_of q (LocalExpr r 0) f (field_at z.program f) v.value))) one.is ∙ two.is;
          grows = λ g i. two.grows g (one.grows g i);
          has = two.has;
        }

    pub assignment_adds : (q r : Place) (t f : ℕ) (u : Ty) (e : ExprTree) (made : List Ty) (k : Fields) → is_some (field_at z.program f) ≡ true → AddsField c b f (simple z (AssignOf (FieldOf q (ThisOf r t) f u) operator.Set e) made).code k
    assignment_adds q r t f u e made k h =
        let l = FieldOf q (ThisOf r t) f u in
        where_chosen (λ (x : Coded). AddsField c b f x.code k) (has_call l || has_call e) (assign_after z e (settle z l made)) (assign_settled z l e made) (λ yes. settled_adds q r t f u e made k h) (λ no. settled_adds q r t f u e made k h)
