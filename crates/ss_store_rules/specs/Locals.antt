-- The parts of bodies: their locals by number, and what stands inside an expression or a statement.
use Rattle.std.specs.Prelude.{ℕ, List, [], ◌∷◌, ◌++◌, map, length, Bool, true, false, not, ◌==◌, ◌&&◌, ◌+◌, nat_le, nat_lt, if◌then◌else◌, Option, Some, None, is_some, option_to_list}
use Rattle.std.specs.List.{list_all}
use Rattle.ss_core.specs.declared.names.Ty.{Ty}
use Rattle.ss_core.specs.declared.names.Ty.TheVariants as ty
use Rattle.ss_core.specs.Tree.{ExprTree, IntExpr, BoolExpr, NullExpr, LocalExpr, FieldExpr, ElementExpr, LengthExpr, NegateExpr, NotExpr, BinaryExpr, ImpliesExpr, IffExpr, IsExpr, AsExpr, CastExpr, OldExpr, QuantifiedExpr, StateExpr, OwnersExpr, DefaultExpr, CalleeTree, Dispatched, Static, Base, BaseConstructor, StmtTree, AssignStmt, WriteStmt, WriteElementStmt, NewStmt, NewArrayStmt, CallStmt, ReadyStmt, IfStmt, LoopStmt, UnpackStmt, PackStmt, AssertStmt, AssumeStmt, PrintStmt, PrintTextStmt, ReturnStmt, CodeTree, NoCode, Then, LocalTree, BodyTree}

-- ---- locals: `this` where the body isn't static, the parameters, the other locals, and the result where there is one. Past them stand the
-- bound names of quantifiers, from the outermost inwards.

abbrev pub types_of : List LocalTree → List Ty
types_of ls = map (λ l. l.ty) ls

-- `this` is never null
abbrev pub this_types : BodyTree → List Ty
this_types b = if b.flags.is_static then [] else ty.Ref (record { 0 = b.class }) true ∷ []

-- the arguments of a body are its `this` and its parameters
abbrev pub argument_types : BodyTree → List Ty
argument_types b = this_types b ++ types_of b.params

abbrev pub local_types : BodyTree → List Ty
local_types b = argument_types b ++ types_of b.locals ++ option_to_list b.result

abbrev pub argument_count : BodyTree → ℕ
argument_count b = length (argument_types b)

abbrev pub is_argument : BodyTree → ℕ → Bool
is_argument b x = nat_lt x (argument_count b)

-- where the result stands, if there is one
abbrev pub result_number : BodyTree → ℕ
result_number b = argument_count b + length b.locals

abbrev pub is_result : BodyTree → ℕ → Bool
is_result b x = is_some b.result && x == result_number b

-- neither an argument nor the result nor a bound name
abbrev pub is_variable : BodyTree → ℕ → Bool
is_variable b x = nat_le (argument_count b) x && nat_lt x (result_number b)

abbrev pub is_bound : BodyTree → ℕ → Bool
is_bound b x = nat_le (length (local_types b)) x

-- ---- parts of an expression

-- the test holds of the expression and of each part of it
abbrev pub everywhere : (ExprTree → Bool) → ExprTree → Bool
everywhere test (IntExpr p n) = test (IntExpr p n)
everywhere test (BoolExpr p b) = test (BoolExpr p b)
everywhere test (NullExpr p) = test (NullExpr p)
everywhere test (LocalExpr p x) = test (LocalExpr p x)
everywhere test (FieldExpr p e f) = test (FieldExpr p e f) && everywhere test e
everywhere test (ElementExpr p a i) = test (ElementExpr p a i) && everywhere test a && everywhere test i
everywhere test (LengthExpr p e) = test (LengthExpr p e) && everywhere test e
everywhere test (NegateExpr p e) = test (NegateExpr p e) && everywhere test e
everywhere test (NotExpr p e) = test (NotExpr p e) && everywhere test e
everywhere test (BinaryExpr p o a b) = test (BinaryExpr p o a b) && everywhere test a && everywhere test b
everywhere test (ImpliesExpr p a b) = test (ImpliesExpr p a b) && everywhere test a && everywhere test b
everywhere test (IffExpr p a b) = test (IffExpr p a b) && everywhere test a && everywhere test b
everywhere test (IsExpr p e t) = test (IsExpr p e t) && everywhere test e
everywhere test (AsExpr p e t) = test (AsExpr p e t) && everywhere test e
everywhere test (CastExpr p t non_null e) = test (CastExpr p t non_null e) && everywhere test e
everywhere test (OldExpr p e) = test (OldExpr p e) && everywhere test e
everywhere test (QuantifiedExpr p q name low high e) = test (QuantifiedExpr p q name low high e) && everywhere test low && everywhere test high && everywhere test e
everywhere test (StateExpr p w e) = test (StateExpr p w e) && everywhere test e
everywhere test (OwnersExpr p w a b) = test (OwnersExpr p w a b) && everywhere test a && everywhere test b
everywhere test (DefaultExpr p d) = test (DefaultExpr p d)

-- where it is a local, it is one of these
abbrev pub is_local_among : (ℕ → Bool) → ExprTree → Bool
is_local_among among (LocalExpr p x) = among x
is_local_among among e = true

-- the expression reads no other locals than these
abbrev pub reads_only : (ℕ → Bool) → ExprTree → Bool
reads_only among e = everywhere (is_local_among among) e

-- it is a condition of a default contract, or of a captured parameter
abbrev pub is_default : ExprTree → Bool
is_default (DefaultExpr p d) = true
is_default e = false

-- ---- parts of code

-- the test holds of each statement, those inside others included
abbrev mutual
  pub each_inside : (StmtTree → Bool) → StmtTree → Bool
  each_inside test (IfStmt p e a b) = test (IfStmt p e a b) && each test a && each test b
  each_inside test (LoopStmt p invariants prelude e body exposes) = test (LoopStmt p invariants prelude e body exposes) && each test prelude && each test body
  each_inside test s = test s

  pub each : (StmtTree → Bool) → CodeTree → Bool
  each test NoCode = true
  each test (Then s code) = each_inside test s && each test code

abbrev pub receiver : CalleeTree → List ExprTree
receiver (Dispatched e t m) = e ∷ []
receiver (Static n) = []
receiver (Base n) = []
receiver (BaseConstructor n) = []

-- the expressions that are evaluated where the statement is reached; the test of a loop stands apart
abbrev pub evaluated : StmtTree → List ExprTree
evaluated (AssignStmt p x e) = e ∷ []
evaluated (WriteStmt p o f m t e) = o ∷ e ∷ []
evaluated (WriteElementStmt p a i e) = a ∷ i ∷ e ∷ []
evaluated (NewStmt p x t es) = es
evaluated (NewArrayStmt p x t e) = e ∷ []
evaluated (CallStmt p x callee es) = receiver callee ++ es
evaluated (ReadyStmt p) = []
evaluated (IfStmt p e a b) = e ∷ []
evaluated (LoopStmt p invariants prelude e body exposes) = invariants
evaluated (UnpackStmt p x t) = []
evaluated (PackStmt p x t) = []
evaluated (AssertStmt p e) = e ∷ []
evaluated (AssumeStmt p e) = e ∷ []
evaluated (PrintStmt p e newline) = option_to_list e
evaluated (PrintTextStmt p text newline) = []
evaluated (ReturnStmt p e) = option_to_list e

abbrev pub loop_test : StmtTree → List ExprTree
loop_test (LoopStmt p invariants prelude e body exposes) = e ∷ []
loop_test s = []

-- each expression of the statement passes the test; the statements inside it aren't looked at
abbrev pub all_evaluated : (ExprTree → Bool) → StmtTree → Bool
all_evaluated test s = list_all test (evaluated s) && list_all test (loop_test s)

-- ---- assignments

abbrev pub is_kept_in : Option ℕ → ℕ → Bool
is_kept_in None y = false
is_kept_in (Some x) y = x == y

-- the statement itself assigns the local
abbrev pub is_target : StmtTree → ℕ → Bool
is_target (AssignStmt p x e) y = x == y
is_target (NewStmt p x t es) y = is_kept_in x y
is_target (NewArrayStmt p x t e) y = is_kept_in x y
is_target (CallStmt p x callee es) y = is_kept_in x y
is_target s y = false

-- it or a statement inside it assigns the local
abbrev pub assigns : StmtTree → ℕ → Bool
assigns s y = not (each_inside (λ u. not (is_target u y)) s)

abbrev pub is_kept_among : (ℕ → Bool) → Option ℕ → Bool
is_kept_among among None = true
is_kept_among among (Some x) = among x

-- what the statement itself assigns is one of these
abbrev pub targets_only : (ℕ → Bool) → StmtTree → Bool
targets_only among (AssignStmt p x e) = among x
targets_only among (NewStmt p x t es) = is_kept_among among x
targets_only among (NewArrayStmt p x t e) = is_kept_among among x
targets_only among (CallStmt p x callee es) = is_kept_among among x
targets_only among s = true
