-- What is known along the paths of code, in one pass from the front: nothing is repeated, since the head of a loop forgets what the
-- loop may undo.
use Rattle.std.specs.Prelude.{Bool, true, false, not, ◌&&◌, ◌||◌, if◌then◌else◌, Option, Some, None, option_map}
use Rattle.ss_core.specs.Tree.{ExprTree, BoolExpr, StmtTree, ReturnStmt, IfStmt, LoopStmt, CodeTree, NoCode, Then}

-- ---- ends that can be reached

-- a loop on the literal `true` is left by a return alone
abbrev pub is_literal_true : ExprTree → Bool
is_literal_true (BoolExpr p b) = b
is_literal_true e = false

abbrev mutual
  -- what stands after the statement can be reached
  pub passes : StmtTree → Bool
  passes (IfStmt p e a b) = reaches_end a || reaches_end b
  passes (LoopStmt p invariants prelude e body exposes) = not (is_literal_true e)
  passes (ReturnStmt p e) = false
  passes s = true

  -- the end of the statements can be reached
  pub reaches_end : CodeTree → Bool
  reaches_end NoCode = true
  reaches_end (Then s code) = passes s && reaches_end code

-- ---- knowledge

-- How a kind of knowledge goes along paths.
pub record Flow (S : Type 0) : Type 0 where
  -- after a statement that is neither an `if`, a loop nor a return
  pub after : StmtTree → S → S
  -- where a test has come out true, or false
  pub tested : ExprTree → Bool → S → S
  -- where two paths meet
  pub meet : S → S → S
  -- at the head of a loop, each time
  pub head : StmtTree → S → S

-- None where no path leads; such an end doesn't count
abbrev pub met : {S : Type 0} → Flow S → Option S → Option S → Option S
met f None k = k
met f (Some k) None = Some k
met f (Some k) (Some l) = Some (f.meet k l)

-- after a loop, where this is known at its test
abbrev pub left : {S : Type 0} → Flow S → ExprTree → Option S → Option S
left f e k = if is_literal_true e then None else option_map (f.tested e false) k

abbrev mutual
  -- what is known after the statement
  pub behind : {S : Type 0} → Flow S → StmtTree → S → Option S
  behind f (IfStmt p e a b) k = met f (at_end f a (Some (f.tested e true k))) (at_end f b (Some (f.tested e false k)))
  behind f (LoopStmt p invariants prelude e body exposes) k = left f e (at_end f prelude (Some (f.head (LoopStmt p invariants prelude e body exposes) k)))
  behind f (ReturnStmt p e) k = None
  behind f s k = Some (f.after s k)

  -- what is known at the end of the statements
  pub at_end : {S : Type 0} → Flow S → CodeTree → Option S → Option S
  at_end f NoCode k = k
  at_end f (Then s code) None = None
  at_end f (Then s code) (Some k) = at_end f code (behind f s k)

-- What is asked of each statement where it is reached, and of the test of each loop.
pub record Check (S : Type 0) : Type 0 where
  pub statement : StmtTree → S → Bool
  pub test : ExprTree → S → Bool

abbrev pub where_reached : {S : Type 0} → (S → Bool) → Option S → Bool
where_reached test None = true
where_reached test (Some k) = test k

-- what is known at the test of a loop with this prelude
abbrev pub at_test : {S : Type 0} → Flow S → StmtTree → CodeTree → S → Option S
at_test f s prelude k = at_end f prelude (Some (f.head s k))

-- what is known at the beginning of its body
abbrev pub in_body : {S : Type 0} → Flow S → ExprTree → Option S → Option S
in_body f e k = option_map (f.tested e true) k

abbrev mutual
  -- The check holds of the statement and of all inside it. A loop is reached again from the end of its body.
  pub holds_at : {S : Type 0} → Flow S → Check S → StmtTree → S → Bool
  holds_at f c (IfStmt p e a b) k = c.statement (IfStmt p e a b) k && holds_along f c a (Some (f.tested e true k)) && holds_along f c b (Some (f.tested e false k))
  holds_at f c (LoopStmt p invariants prelude e body exposes) k =
      c.statement (LoopStmt p invariants prelude e body exposes) k
      && holds_along f c prelude (Some (f.head (LoopStmt p invariants prelude e body exposes) k))
      && where_reached (c.test e) (at_test f (LoopStmt p invariants prelude e body exposes) prelude k)
      && holds_along f c body (in_body f e (at_test f (LoopStmt p invariants prelude e body exposes) prelude k))
      && where_reached (c.statement (LoopStmt p invariants prelude e body exposes)) (at_end f body (in_body f e (at_test f (LoopStmt p invariants prelude e body exposes) prelude k)))
  holds_at f c s k = c.statement s k

  pub holds_along : {S : Type 0} → Flow S → Check S → CodeTree → Option S → Bool
  holds_along f c NoCode k = true
  holds_along f c (Then s code) None = true
  holds_along f c (Then s code) (Some k) = holds_at f c s k && holds_along f c code (behind f s k)
