-- Assignments, declarations, calls alone and printing.
use Rattle.std.specs.Prelude.{ℕ, pos, ◌==◌, List, [], ◌∷◌, ◌++◌, Bool, false, ◌||◌, if◌then◌else◌, Option, Some, None}
use Rattle.ss_core.specs.declared.names.Place.{Place}
use Rattle.ss_ast.specs.declared.stmt.AssignOperator.{AssignOperator}
use Rattle.ss_ast.specs.declared.stmt.AssignOperator.TheVariants as operator
use Rattle.ss_ast.specs.declared.stmt.StepOperator.{StepOperator}
use Rattle.ss_ast.specs.declared.stmt.StepOperator.TheVariants as step
use Rattle.ss_core.specs.declared.names.Ty.{Ty}
use Rattle.ss_core.specs.declared.names.Ty.TheVariants as ty
use Rattle.ss_core.specs.declared.expr.Operator.{Operator}
use Rattle.ss_core.specs.declared.expr.Operator.TheVariants as op
use Rattle.ss_core.specs.Tree as core
use Rattle.ss_core.specs.Tree.{IntExpr, BoolExpr, NullExpr, AssignStmt, WriteStmt, WriteElementStmt, NewStmt, NewArrayStmt, CallStmt, BaseConstructor, ReadyStmt, PrintStmt, PrintTextStmt}
use Rattle.ss_core.specs.Chain.{DeclaredField}
use Rattle.ss_typed.specs.Constructors.{is_delayed_body}
use Rattle.ss_typed.specs.Tree.{ExprTree, IntOf, LocalOf, FieldOf, ElementOf, BinaryOf, Arguments, TypedTree, DeclaratorTree, SimpleTree, AssignOf, StepOf, AloneOf, PrintOf, PrintTextOf, BaseCallOf}
use Rattle.ss_typed.specs.Types.{type_of}
use Rattle.ss_expand_rules.specs.Program.{above_of, field_at, Constructor, number_of}
use Rattle.ss_typed.specs.Lookups.{constructor_of, param_types_in}
use Rattle.ss_expand_rules.specs.Numbers.{number, plain}
use Rattle.ss_expand_rules.specs.Calls.{has_call}
use Rattle.ss_typed.specs.Shapes.{is_this, place_of}
use Rattle.ss_expand_rules.specs.Lifting.{ElaborationContext, Source, Pure, Created, CreatedArray, Called, put, Lifted, Valued, Listed, next, temporary_type, any_object, right_side, value, arguments_of}
use Rattle.ss_expand_rules.specs.Code.{Coded, nothing, after, then_code, and_then}

-- ---- left sides

-- the value goes into a local
abbrev pub into_local : Place → ℕ → Lifted → Coded
into_local p x l = and_then l.code (put p x l.source) l.made

-- A write of a field carries its mark and the class that declares it.
abbrev pub write_of : Place → core.ExprTree → ℕ → Option DeclaredField → core.ExprTree → List core.StmtTree
write_of p o f None v = []
write_of p o f (Some d) v = WriteStmt p o f d.field.mark d.class v ∷ []

-- the write of a field or an element whose object and index parts stay as they are
abbrev pub write : ElaborationContext → ExprTree → core.ExprTree → List core.StmtTree
write s (FieldOf p o f t) v = write_of p (plain s.numbers o) f (field_at s.program f) v
write s (ElementOf p a i) v = WriteElementStmt p (plain s.numbers a) (plain s.numbers i) v ∷ []
write s target v = []

abbrev pub write_value : ElaborationContext → ExprTree → Valued → Coded
write_value s target v = record { code = v.code ++ write s target v.value; made = v.made }

-- a left side whose parts are settled gets the value of the right side
abbrev pub assign_settled : ElaborationContext → ExprTree → ExprTree → List Ty → Coded
assign_settled s (LocalOf p x t) e made = into_local p (number s.numbers x) (right_side s e made)
assign_settled s target e made = write_value s target (value s e made)

-- a left side, with the statements that settle it
pub record Settled : Type 0 where
  pub code : List core.StmtTree
  pub target : ExprTree
  pub made : List Ty

abbrev pub settled_as : Settled → (ExprTree → ExprTree) → Settled
settled_as e f = record e { target = f e.target }

abbrev pub in_new_local : ExprTree → ℕ → Ty → Lifted → Settled
in_new_local e x t l = record { code = l.code ++ put (place_of e) x l.source ∷ []; target = LocalOf (place_of e) x t; made = l.made ++ t ∷ [] }

abbrev pub settle_lifted : ElaborationContext → ExprTree → Lifted → Settled
settle_lifted s e l = in_new_local e (next s.numbers l.made) (temporary_type any_object (type_of e)) l

-- an object or index part in a temporary; `this` stays
abbrev pub settle_part : ElaborationContext → ExprTree → List Ty → Settled
settle_part s e made = if is_this e then record { code = []; target = e; made = made } else settle_lifted s e (right_side s e made)

abbrev pub settle_both_with : Settled → Settled → (ExprTree → ExprTree → ExprTree) → Settled
settle_both_with a i f = record { code = a.code ++ i.code; target = f a.target i.target; made = i.made }

abbrev pub settle_both : Settled → (List Ty → Settled) → (ExprTree → ExprTree → ExprTree) → Settled
settle_both a i f = settle_both_with a (i a.made) f

-- the object and index parts of a left side in temporaries, from the left
abbrev pub settle : ElaborationContext → ExprTree → List Ty → Settled
settle s (FieldOf p o f t) made = settled_as (settle_part s o made) (λ o. FieldOf p o f t)
settle s (ElementOf p a i) made = settle_both (settle_part s a made) (settle_part s i) (λ a i. ElementOf p a i)
settle s target made = record { code = []; target = target; made = made }

-- ---- assignments

-- after what settles it
abbrev pub assign_after : ElaborationContext → ExprTree → Settled → Coded
assign_after s e target = after target.code (assign_settled s target.target e target.made)

-- Where a call stands on either side, the parts of the left side are evaluated before the right side.
abbrev pub assign : ElaborationContext → ExprTree → ExprTree → List Ty → Coded
assign s target e made = if has_call target || has_call e then assign_after s e (settle s target made) else assign_settled s target e made

-- Compound assignment: `p op= e` is `p = p op e`, with the parts of p evaluated once.
abbrev pub update_settled : ElaborationContext → Operator → ExprTree → Settled → Coded
update_settled s o e target = assign_after s (BinaryOf (place_of target.target) o target.target e) target

abbrev pub update : ElaborationContext → Operator → ExprTree → ExprTree → List Ty → Coded
update s o target e made = update_settled s o e (settle s target made)

abbrev pub assignment : ElaborationContext → ExprTree → AssignOperator → ExprTree → List Ty → Coded
assignment s target operator.Set e made = assign s target e made
assignment s target operator.Add e made = update s op.Add target e made
assignment s target operator.Subtract e made = update s op.Subtract target e made
assignment s target operator.Multiply e made = update s op.Multiply target e made

-- `p++` is `p = p + 1`
abbrev pub step_operator : StepOperator → Operator
step_operator step.Up = op.Add
step_operator step.Down = op.Subtract

abbrev pub one_more : ElaborationContext → ExprTree → StepOperator → List Ty → Coded
one_more s target o made = update s (step_operator o) target (IntOf (place_of target) (pos 1)) made

-- ---- declarations

-- Defaults of locals: 0, false or null.
abbrev pub default_of : Place → Ty → core.ExprTree
default_of p ty.Int = IntExpr p (pos 0)
default_of p ty.Bool = BoolExpr p false
default_of p t = NullExpr p

abbrev pub declared_as : ElaborationContext → DeclaratorTree → Option ExprTree → List Ty → Coded
declared_as s d None made = and_then [] (AssignStmt d.place d.local (default_of d.place d.ty)) made
declared_as s d (Some e) made = into_local d.place d.local (right_side s e made)

abbrev pub declare : ElaborationContext → List DeclaratorTree → List Ty → Coded
declare s [] made = nothing made
declare s (d ∷ ds) made = then_code (declared_as s d d.initial made) (declare s ds)

-- ---- calls alone and printing

-- Dropped results: a call alone keeps nothing.
abbrev pub drop_result : Source → List core.StmtTree
drop_result (Pure e) = []
drop_result (Created p t es) = NewStmt p None t es ∷ []
drop_result (CreatedArray p t e) = NewArrayStmt p None t e ∷ []
drop_result (Called p callee es) = CallStmt p None callee es ∷ []

abbrev pub alone : Lifted → Coded
alone l = record { code = l.code ++ drop_result l.source; made = l.made }

abbrev pub print_value : Place → Bool → Valued → Coded
print_value p line v = and_then v.code (PrintStmt p (Some v.value) line) v.made

abbrev pub print : ElaborationContext → Place → Option ExprTree → Bool → List Ty → Coded
print s p None line made = and_then [] (PrintStmt p None line) made
print s p (Some e) line made = print_value p line (value s e made)

-- ---- `base(..)`

-- the constructor of the class is delayed; a class without one has a delayed one, and so has `object`
abbrev pub has_delayed_constructor : TypedTree → ℕ → Bool
has_delayed_constructor p t = is_delayed_body (constructor_of p t)

-- Ready after a delayed base: in a constructor that isn't delayed, `this` is ready once a delayed base constructor is done.
abbrev pub ready_after : ElaborationContext → Place → ℕ → List core.StmtTree
ready_after s p t = if s.body.flags.delayed then [] else if has_delayed_constructor s.program t then ReadyStmt p ∷ [] else []

abbrev pub base_with : ElaborationContext → Place → ℕ → Listed → Coded
base_with s p t l = record { code = l.code ++ CallStmt p None (BaseConstructor (number_of s.program (Constructor t))) l.values ∷ ready_after s p t; made = l.made }

-- No call of the constructor of `object`.
abbrev pub base_of : ElaborationContext → Place → Arguments → ℕ → List Ty → Coded
base_of s p es t made =
    if t == 0 then record { code = ready_after s p t; made = made }
    else base_with s p t (arguments_of s (param_types_in (constructor_of s.program t)) es made)

abbrev pub base_call : ElaborationContext → Place → Arguments → List Ty → Coded
base_call s p es made = base_of s p es (above_of s.program s.body.class) made

-- ---- simple statements

abbrev pub simple : ElaborationContext → SimpleTree → List Ty → Coded
simple s (AssignOf target o e) made = assignment s target o e made
simple s (StepOf target o) made = one_more s target o made
simple s (AloneOf e) made = alone (right_side s e made)
simple s (PrintOf p e line) made = print s p e line made
simple s (PrintTextOf p text line) made = and_then [] (PrintTextStmt p text line) made
simple s (BaseCallOf p es) made = base_call s p es made
