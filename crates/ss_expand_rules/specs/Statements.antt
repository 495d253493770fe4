-- Statements.
use Rattle.std.specs.Prelude.{ℕ, List, [], ◌∷◌, ◌++◌, map, reverse, Bool, true, false, if◌then◌else◌, Option, Some, None, unwrap_or}
use Rattle.ss_core.specs.declared.names.Place.{Place}
use Rattle.ss_core.specs.declared.names.Ty.{Ty}
use Rattle.ss_core.specs.Tree as core
use Rattle.ss_core.specs.Tree.{LocalExpr, BoolExpr, IfStmt, LoopStmt, UnpackStmt, PackStmt, AssertStmt, AssumeStmt, ReturnStmt, ExposedTree}
use Rattle.ss_core.specs.View.{code_of}
use Rattle.ss_typed.specs.Tree.{ExprTree, SimpleTree, InitTree, DeclareFirst, SimpleFirst, BlockTree, BlockOf, StmtTree, InBlock, DeclareOf, SimpleOf, IfOf, IfElseOf, WhileOf, ForOf, ReturnOf, AssertOf, AssumeOf, ExposeOf, EmptyOf, StmtTrees, NoMore, Before}
use Rattle.ss_typed.specs.Types.{type_of}
use Rattle.ss_expand_rules.specs.Numbers.{plain, all_plain}
use Rattle.ss_typed.specs.Shapes.{place_of}
use Rattle.ss_expand_rules.specs.Lifting.{Opened, ElaborationContext, Lifted, Valued, next, temporary_type, any_object, static_class, in_local, in_temporary, right_side, value}
use Rattle.ss_expand_rules.specs.Ends.{can_end, block_can_end}
use Rattle.ss_expand_rules.specs.Code.{Coded, nothing, just, after, then_code, and_then}
use Rattle.ss_expand_rules.specs.Simple.{declare, simple}

-- ---- `if`

abbrev pub branch_with : Place → Valued → Coded → Coded → Coded
branch_with p v one other = record { code = v.code ++ IfStmt p v.value (code_of one.code) (code_of other.code) ∷ []; made = other.made }

abbrev pub branch_from : Place → Valued → Coded → (List Ty → Coded) → Coded
branch_from p v one other = branch_with p v one (other one.made)

abbrev pub branch : Place → Valued → (List Ty → Coded) → (List Ty → Coded) → Coded
branch p v one other = branch_from p v (one v.made) other

-- ---- loops

abbrev pub exposed : Opened → ExposedTree
exposed o = record { local = o.local; class = o.class }

abbrev pub loop_with : ElaborationContext → Place → List ExprTree → Valued → Coded → Coded
loop_with s p is test turn = just (LoopStmt p (all_plain s.numbers is) (code_of test.code) test.value (code_of turn.code) (map exposed s.exposes)) turn.made

abbrev pub loop_from : ElaborationContext → Place → List ExprTree → Valued → (List Ty → Coded) → Coded
loop_from s p is test turn = loop_with s p is test (turn test.made)

-- `while`: the prelude of the loop is what is lifted out of the test
abbrev pub loop : ElaborationContext → Place → List ExprTree → ExprTree → (List Ty → Coded) → List Ty → Coded
loop s p is e turn made = loop_from s p is (value s e made) turn

-- without a test a `for` has `true`
abbrev pub endless : ElaborationContext → Place → List ExprTree → (List Ty → Coded) → List Ty → Coded
endless s p is turn made = loop_from s p is (record { code = []; value = BoolExpr p true; made = made }) turn

abbrev pub loop_while : ElaborationContext → Place → List ExprTree → Option ExprTree → (List Ty → Coded) → List Ty → Coded
loop_while s p is None turn made = endless s p is turn made
loop_while s p is (Some e) turn made = loop s p is e turn made

abbrev pub begin : ElaborationContext → Option InitTree → List Ty → Coded
begin s None made = nothing made
begin s (Some (DeclareFirst ds)) made = declare s ds made
begin s (Some (SimpleFirst x)) made = simple s x made

abbrev pub advance : ElaborationContext → Option SimpleTree → List Ty → Coded
advance s None made = nothing made
advance s (Some x) made = simple s x made

-- ---- returns

abbrev pub pack_of : Opened → core.StmtTree
pack_of o = PackStmt o.place o.local o.class

-- Pack before a constructor's return.
abbrev pub pack_this : ElaborationContext → Place → List core.StmtTree
pack_this s p = if s.body.flags.ctor then PackStmt p 0 s.body.class ∷ [] else []

-- what a return does before it leaves: the packs of the exposes around it, from the innermost outwards, and the constructor's
abbrev pub packs : ElaborationContext → Place → List core.StmtTree
packs s p = map pack_of (reverse s.exposes) ++ pack_this s p

abbrev pub leave_with : ElaborationContext → Place → Valued → Coded
leave_with s p v = record { code = v.code ++ packs s p ++ ReturnStmt p (Some v.value) ∷ []; made = v.made }

-- Return inside `expose`: the value is in a temporary of the result's type before anything is packed.
abbrev pub result_type : Option Ty → Ty
result_type t = unwrap_or t any_object

abbrev pub kept_result : ElaborationContext → ExprTree → Lifted → Valued
kept_result s e l = in_local (place_of e) (next s.numbers l.made) (result_type s.body.result) l

abbrev pub leave_value : ElaborationContext → Place → ExprTree → List Opened → List Ty → Coded
leave_value s p e [] made = leave_with s p (value s e made)
leave_value s p e (o ∷ os) made = leave_with s p (kept_result s e (right_side s e made))

abbrev pub leave : ElaborationContext → Place → Option ExprTree → List Ty → Coded
leave s p None made = and_then (packs s p) (ReturnStmt p None) made
leave s p (Some e) made = leave_value s p e s.exposes made

-- ---- `expose`

-- without `at` it is the static class of the object
abbrev pub exposed_class : ExprTree → Option ℕ → ℕ
exposed_class e None = static_class e
exposed_class e (Some t) = t

abbrev pub within : ElaborationContext → Opened → ElaborationContext
within s o = record s { exposes = s.exposes ++ o ∷ [] }

-- the pack at the end, where that can be reached
abbrev pub close : Opened → Bool → Coded → Coded
close o false inside = inside
close o true inside = and_then inside.code (pack_of o) inside.made

abbrev pub expose_in : Opened → Valued → Bool → Coded → Coded
expose_in o v ends inside = after (v.code ++ UnpackStmt o.place o.local o.class ∷ []) (close o ends inside)

-- the object is in this temporary; the block is elaborated within
abbrev pub expose_with : ElaborationContext → Opened → Valued → Bool → (ElaborationContext → List Ty → Coded) → Coded
expose_with s o v ends block = expose_in o v ends (block (within s o) v.made)

abbrev pub opened : Place → ℕ → ℕ → Opened
opened p x t = record { place = p; local = x; class = t }

abbrev pub expose_lifted : ElaborationContext → Place → ExprTree → ℕ → Bool → (ElaborationContext → List Ty → Coded) → Lifted → Coded
expose_lifted s p e t ends block l =
    expose_with s (opened p (next s.numbers l.made) t) (in_temporary s.numbers (place_of e) (temporary_type any_object (type_of e)) l) ends block

-- `expose (e at T) S` is `t = e; unpack t from T; S; pack t as T`
abbrev pub expose : ElaborationContext → Place → ExprTree → Option ℕ → Bool → (ElaborationContext → List Ty → Coded) → List Ty → Coded
expose s p e t ends block made = expose_lifted s p e (exposed_class e t) ends block (right_side s e made)

-- ---- statements

abbrev mutual
  pub stmt : ElaborationContext → StmtTree → List Ty → Coded
  stmt s (InBlock b) made = block s b made
  stmt s (DeclareOf ds) made = declare s ds made
  stmt s (SimpleOf x) made = simple s x made
  stmt s (IfOf p e a) made = branch p (value s e made) (stmt s a) nothing
  stmt s (IfElseOf p e a b) made = branch p (value s e made) (stmt s a) (stmt s b)
  stmt s (WhileOf p e is a) made = loop s p is e (stmt s a) made
  -- `for (A; B; C) S` is `A; while (B) { S C; }`
  stmt s (ForOf p i e x is a) made =
      then_code (begin s i made) (loop_while s p is e (λ made. then_code (stmt s a made) (if can_end a then advance s x else nothing)))
  stmt s (ReturnOf p e) made = leave s p e made
  stmt s (AssertOf p e) made = just (AssertStmt p (plain s.numbers e)) made
  stmt s (AssumeOf p e) made = just (AssumeStmt p (plain s.numbers e)) made
  stmt s (ExposeOf p e t b) made = expose s p e t (block_can_end b) (λ inner. block inner b) made
  stmt s (EmptyOf p) made = nothing made

  pub block : ElaborationContext → BlockTree → List Ty → Coded
  block s (BlockOf p ss end) made = stmts s ss made

  -- Statements after one whose end can't be reached are dropped.
  pub stmts : ElaborationContext → StmtTrees → List Ty → Coded
  stmts s NoMore made = nothing made
  stmts s (Before x xs) made = then_code (stmt s x made) (if can_end x then stmts s xs else nothing)
