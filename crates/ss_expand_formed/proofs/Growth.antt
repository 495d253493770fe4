-- Elaborated statements add temporaries after those that are made so far.
use Rattle.std.proofs.Common.{ℕ, List, [], ◌∷◌, ◌++◌, Bool, Option, Some, None, sym, subst}
use Rattle.std.specs.Prelude.{◌==◌, ◌||◌, if◌then◌else◌, pos}
use Rattle.ss_core.specs.declared.names.Place.{Place}
use Rattle.ss_core.specs.declared.names.Ty.{Ty}
use Rattle.ss_core.specs.declared.expr.Operator.{Operator}
use Rattle.ss_core.specs.declared.expr.Operator.TheVariants as op
use Rattle.ss_ast.specs.declared.stmt.AssignOperator.{AssignOperator}
use Rattle.ss_ast.specs.declared.stmt.AssignOperator.TheVariants as operator
use Rattle.ss_typed.specs.Tree.{ExprTree, IntOf, LocalOf, FieldOf, ElementOf, BinaryOf, Arguments, DeclaratorTree, SimpleTree, AssignOf, StepOf, AloneOf, PrintOf, PrintTextOf, BaseCallOf, InitTree, DeclareFirst, SimpleFirst, BlockTree, BlockOf, StmtTree, InBlock, DeclareOf, SimpleOf, IfOf, IfElseOf, WhileOf, ForOf, ReturnOf, AssertOf, AssumeOf, ExposeOf, EmptyOf, StmtTrees, Before}
use Rattle.ss_typed.specs.Tree as typed
use Rattle.ss_typed.specs.Types.{type_of}
use Rattle.ss_expand_rules.specs.Numbers.{plain_arguments}
use Rattle.ss_expand_rules.specs.Calls.{has_call, have_call}
use Rattle.ss_typed.specs.Shapes.{is_this, place_of}
use Rattle.ss_expand_rules.specs.Program.{above_of}
use Rattle.ss_typed.specs.Lookups.{constructor_of, param_types_in}
use Rattle.ss_expand_rules.specs.Code.{Coded, nothing, then_code}
use Rattle.ss_expand_rules.specs.Lifting.{Opened, ElaborationContext, Lifted, Listed, next, temporary_type, any_object, in_temporaries, right_side, value, arguments_of}
use Rattle.ss_expand_rules.specs.Simple.{assign_settled, Settled, settle_lifted, settle_part, settle, assign_after, assign, update, assignment, step_operator, declared_as, declare, print, ready_after, base_with, base_of, simple}
use Rattle.ss_expand_rules.specs.Ends.{can_end, block_can_end}
use Rattle.ss_expand_rules.specs.Statements.{loop_while, begin, advance, result_type, leave_value, leave, exposed_class, within, opened, expose_lifted, stmt, block, stmts}
use Rattle.ss_expand_formed.proofs.Choosing.{on_either}
use Rattle.ss_expand_formed.proofs.Counted.{closed_made}
use Rattle.ss_expand_formed.proofs.Growing.{Begins, begins_itself, begins_append, then_begins, in_temporaries_begin, right_begins, value_begins}

abbrev pub Codes : (List Ty → Coded) → Type 0
Codes f = (made : List Ty) → Begins made (f made).made

pub arguments_begin : (s : ElaborationContext) (ts : List Ty) (es : Arguments) (made : List Ty) → Begins made (arguments_of s ts es made).made
arguments_begin s ts es made =
    on_either (λ (l : Listed). Begins made l.made) (have_call es) (in_temporaries s ts es made) (record { code = []; values = plain_arguments s.numbers es; made = made }) (in_temporaries_begin s ts es made) (begins_itself made)

pub settled_begins : (s : ElaborationContext) (target e : ExprTree) → Codes (assign_settled s target e)
settled_begins s (LocalOf p x t) e made = right_begins s e made
settled_begins s target e made = value_begins s e made

pub part_begins : (s : ElaborationContext) (e : ExprTree) (made : List Ty) → Begins made (settle_part s e made).made
part_begins s e made =
    let l = right_side s e made in
    let t = temporary_type any_object (type_of e) in
    on_either (λ (x : Settled). Begins made x.made) (is_this e) (record { code = []; target = e; made = made }) (settle_lifted s e l) (begins_itself made)
    (then_begins made l.made (l.made ++ t ∷ []) (right_begins s e made) (begins_append l.made (t ∷ [])))

pub settle_begins : (s : ElaborationContext) (target : ExprTree) (made : List Ty) → Begins made (settle s target made).made
settle_begins s (FieldOf p o f t) made = part_begins s o made
settle_begins s (ElementOf p a i) made = then_begins made (settle_part s a made).made _ (part_begins s a made) (part_begins s i (settle_part s a made).made)
settle_begins s target made = begins_itself made

pub after_begins : (s : ElaborationContext) (e : ExprTree) (made : List Ty) (t : Settled) → Begins made t.made → Begins made (assign_after s e t).made
after_begins s e made t h = then_begins made t.made _ h (settled_begins s t.target e t.made)

assign_begins : (s : ElaborationContext) (target e : ExprTree) → Codes (assign s target e)
assign_begins s target e made =
    on_either (λ (c : Coded). Begins made c.made) (has_call target || has_call e) (assign_after s e (settle s target made)) (assign_settled s target e made)
    (after_begins s e made (settle s target made) (settle_begins s target made)) (settled_begins s target e made)

update_begins : (s : ElaborationContext) (o : Operator) (target e : ExprTree) → Codes (update s o target e)
update_begins s o target e made =
    let t = settle s target made in
    after_begins s (BinaryOf (place_of t.target) o t.target e) made t (settle_begins s target made)

assignment_begins : (s : ElaborationContext) (target : ExprTree) (o : AssignOperator) (e : ExprTree) → Codes (assignment s target o e)
assignment_begins s target operator.Set e made = assign_begins s target e made
assignment_begins s target operator.Add e made = update_begins s op.Add target e made
assignment_begins s target operator.Subtract e made = update_begins s op.Subtract target e made
assignment_begins s target operator.Multiply e made = update_begins s op.Multiply target e made

pub declared_begins : (s : ElaborationContext) (d : DeclaratorTree) (e : Option ExprTree) → Codes (declared_as s d e)
declared_begins s d None made = begins_itself made
declared_begins s d (Some e) made = right_begins s e made

pub declare_begins : (s : ElaborationContext) (ds : List DeclaratorTree) → Codes (declare s ds)
declare_begins s [] made = begins_itself made
declare_begins s (d ∷ ds) made = then_begins made (declared_as s d d.initial made).made _ (declared_begins s d d.initial made) (declare_begins s ds (declared_as s d d.initial made).made)

base_begins : (s : ElaborationContext) (p : Place) (es : Arguments) (t : ℕ) → Codes (base_of s p es t)
base_begins s p es t made =
    let ts = param_types_in (constructor_of s.program t) in
    on_either (λ (c : Coded). Begins made c.made) (t == 0) (record { code = ready_after s p t; made = made }) (base_with s p t (arguments_of s ts es made)) (begins_itself made) (arguments_begin s ts es made)

print_begins : (s : ElaborationContext) (p : Place) (e : Option ExprTree) (line : Bool) → Codes (print s p e line)
print_begins s p None line made = begins_itself made
print_begins s p (Some e) line made = value_begins s e made

pub simple_begins : (s : ElaborationContext) (x : SimpleTree) → Codes (simple s x)
simple_begins s (AssignOf target o e) made = assignment_begins s target o e made
simple_begins s (StepOf target o) made = update_begins s (step_operator o) target (IntOf (place_of target) (pos 1)) made
simple_begins s (AloneOf e) made = right_begins s e made
simple_begins s (PrintOf p e line) made = print_begins s p e line made
simple_begins s (PrintTextOf p text line) made = begins_itself made
simple_begins s (BaseCallOf p es) made = base_begins s p es (above_of s.program s.body.class) made

pub loop_begins : (s : ElaborationContext) (p : Place) (is : List ExprTree) (e : Option ExprTree) (turn : List Ty → Coded) → Codes turn → Codes (loop_while s p is e turn)
loop_begins s p is None turn h made = h made
loop_begins s p is (Some e) turn h made = then_begins made (value s e made).made _ (value_begins s e made) (h (value s e made).made)

pub begin_begins : (s : ElaborationContext) (i : Option InitTree) → Codes (begin s i)
begin_begins s None made = begins_itself made
begin_begins s (Some (DeclareFirst ds)) made = declare_begins s ds made
begin_begins s (Some (SimpleFirst x)) made = simple_begins s x made

pub advance_begins : (s : ElaborationContext) (x : Option SimpleTree) → Codes (advance s x)
advance_begins s None made = begins_itself made
advance_begins s (Some x) made = simple_begins s x made

leave_value_begins : (s : ElaborationContext) (p : Place) (e : ExprTree) (os : List Opened) → Codes (leave_value s p e os)
leave_value_begins s p e [] made = value_begins s e made
leave_value_begins s p e (o ∷ os) made =
    let l = right_side s e made in
    then_begins made l.made (l.made ++ result_type s.body.result ∷ []) (right_begins s e made) (begins_append l.made (result_type s.body.result ∷ []))

leave_begins : (s : ElaborationContext) (p : Place) (e : Option ExprTree) → Codes (leave s p e)
leave_begins s p None made = begins_itself made
leave_begins s p (Some e) made = leave_value_begins s p e s.exposes made

expose_begins : (s : ElaborationContext) (p : Place) (e : ExprTree) (t : ℕ) (ends : Bool) (inner : ElaborationContext → List Ty → Coded) (made : List Ty) (l : Lifted) → Begins made l.made → ((o : Opened) → Codes (inner (within s o))) → Begins made (expose_lifted s p e t ends inner l).made
expose_begins s p e t ends inner made l h g =
    let kind = temporary_type any_object (type_of e) in
    let o = opened p (next s.numbers l.made) t in
    let c = inner (within s o) (l.made ++ kind ∷ []) in
    subst (λ m. Begins made m) (sym (closed_made o ends c)) (then_begins made l.made c.made h (then_begins l.made (l.made ++ kind ∷ []) c.made (begins_append l.made (kind ∷ [])) (g o (l.made ++ kind ∷ []))))

pub then_grows : (made : List Ty) (c : Coded) (b : Bool) (f : List Ty → Coded) → Begins made c.made → Codes f → Begins made (then_code c (if b then f else nothing)).made
then_grows made c b f h g = then_begins made c.made _ h (on_either (λ (f : List Ty → Coded). Begins c.made (f c.made).made) b f nothing (g c.made) (begins_itself c.made))

mutual
  pub stmt_begins : (s : ElaborationContext) (x : StmtTree) → Codes (stmt s x)
  stmt_begins s (InBlock b) made = block_begins s b made
  stmt_begins s (DeclareOf ds) made = declare_begins s ds made
  stmt_begins s (SimpleOf x) made = simple_begins s x made
  stmt_begins s (IfOf p e a) made = then_begins made (value s e made).made _ (value_begins s e made) (stmt_begins s a (value s e made).made)
  stmt_begins s (IfElseOf p e a b) made =
      let v = value s e made in
      then_begins made v.made _ (value_begins s e made) (then_begins v.made (stmt s a v.made).made _ (stmt_begins s a v.made) (stmt_begins s b (stmt s a v.made).made))
  stmt_begins s (WhileOf p e is a) made = loop_begins s p is (Some e) (stmt s a) (stmt_begins s a) made
  stmt_begins s (ForOf p i e x is a) made =
      let turn = λ (m : List Ty). then_code (stmt s a m) (if can_end a then advance s x else nothing) in
      then_begins made (begin s i made).made _ (begin_begins s i made) (loop_begins s p is e turn (λ m. then_grows m (stmt s a m) (can_end a) (advance s x) (stmt_begins s a m) (advance_begins s x)) (begin s i made).made)
  stmt_begins s (ReturnOf p e) made = leave_begins s p e made
  stmt_begins s (AssertOf p e) made = begins_itself made
  stmt_begins s (AssumeOf p e) made = begins_itself made
  stmt_begins s (ExposeOf p e t b) made = expose_begins s p e (exposed_class e t) (block_can_end b) (λ z m. block z b m) made (right_side s e made) (right_begins s e made) (λ o. block_begins (within s o) b)
  stmt_begins s (EmptyOf p) made = begins_itself made

  pub block_begins : (s : ElaborationContext) (b : BlockTree) → Codes (block s b)
  block_begins s (BlockOf p ss end) made = stmts_begin s ss made

  pub stmts_begin : (s : ElaborationContext) (ss : StmtTrees) → Codes (stmts s ss)
  stmts_begin s typed.NoMore made = begins_itself made
  stmts_begin s (Before x xs) made = then_grows made (stmt s x made) (can_end x) (stmts s xs) (stmt_begins s x made) (stmts_begin s xs)
