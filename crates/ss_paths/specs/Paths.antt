-- What is known along the paths of a body, in one pass from the front: nothing is repeated, since the head of a loop forgets what the
-- loop may undo.
use Rattle.std.specs.Prelude.{List, [], ◌∷◌, ◌++◌, Bool, true, false, if◌then◌else◌, Option, Some, None, option_map, option_and_then}
use Rattle.ss_core.specs.declared.names.Place.{Place}
use Rattle.ss_faults.specs.declared.Fault.{Fault}
use Rattle.ss_typed.specs.Tree.{ExprTree, BoolOf, DeclaratorTree, SimpleTree, InitTree, DeclareFirst, SimpleFirst, BlockTree, BlockOf, StmtTree, InBlock, DeclareOf, SimpleOf, IfOf, IfElseOf, WhileOf, ForOf, ReturnOf, AssertOf, AssumeOf, ExposeOf, EmptyOf, StmtTrees, NoMore, Before}
use Rattle.ss_typed.specs.Shapes.{is_true}

-- How a kind of knowledge goes along paths.
pub record Flow (S : Type 0) : Type 0 where
  -- after a declared local, and after a simple statement
  pub declared : DeclaratorTree → S → S
  pub done : SimpleTree → S → S
  -- where a test has come out true, or false
  pub tested : ExprTree → Bool → S → S
  -- where two paths meet
  pub meet : S → S → S
  -- at the head of a loop, each time; it repeats the statement and, where it is a `for`, its step
  pub head : StmtTree → Option SimpleTree → S → S

-- None where no path leads; such an end doesn't count
abbrev pub met : {S : Type 0} → Flow S → Option S → Option S → Option S
met f None k = k
met f (Some k) None = Some k
met f (Some k) (Some l) = Some (f.meet k l)

-- ---- declarations and loops

-- after locals that are declared one after the other
abbrev pub all_declared : {S : Type 0} → Flow S → List DeclaratorTree → S → S
all_declared f [] k = k
all_declared f (d ∷ ds) k = all_declared f ds (f.declared d k)

-- after what a `for` begins with
abbrev pub begun : {S : Type 0} → Flow S → Option InitTree → S → S
begun f None k = k
begun f (Some (DeclareFirst ds)) k = all_declared f ds k
begun f (Some (SimpleFirst s)) k = f.done s k

-- a `for` without a test has the test `true`
abbrev pub test_of : Place → Option ExprTree → ExprTree
test_of p None = BoolOf p true
test_of p (Some e) = e

-- after a loop with this test, at whose head this is known: one on the literal `true` is left by a return alone
abbrev pub left : {S : Type 0} → Flow S → ExprTree → S → Option S
left f e k = if is_true e then None else Some (f.tested e false k)

-- ---- statements

abbrev mutual
  -- what is known after the statement; None where its end can't be reached
  pub behind : {S : Type 0} → Flow S → StmtTree → S → Option S
  behind f (InBlock b) k = after_block f b k
  behind f (DeclareOf ds) k = Some (all_declared f ds k)
  behind f (SimpleOf s) k = Some (f.done s k)
  behind f (IfOf p e a) k = met f (behind f a (f.tested e true k)) (Some (f.tested e false k))
  behind f (IfElseOf p e a b) k = met f (behind f a (f.tested e true k)) (behind f b (f.tested e false k))
  behind f (WhileOf p e invariants s) k = left f e (f.head s None k)
  behind f (ForOf p first e step invariants s) k = left f (test_of p e) (f.head s step (begun f first k))
  behind f (ReturnOf p e) k = None
  behind f (ExposeOf p e t b) k = after_block f b k
  behind f (AssertOf p e) k = Some k
  behind f (AssumeOf p e) k = Some k
  behind f (EmptyOf p) k = Some k

  pub after_block : {S : Type 0} → Flow S → BlockTree → S → Option S
  after_block f (BlockOf p ss end) k = at_end f ss (Some k)

  -- what is known at the end of the statements
  pub at_end : {S : Type 0} → Flow S → StmtTrees → Option S → Option S
  at_end f NoMore k = k
  at_end f (Before s ss) None = None
  at_end f (Before s ss) (Some k) = at_end f ss (behind f s k)

-- ---- faults

-- The faults of what is done at a point, by what is known there. Where no path leads nothing is.
pub record Check (S : Type 0) : Type 0 where
  pub declared : DeclaratorTree → Option S → List Fault
  pub done : SimpleTree → Option S → List Fault
  -- a test, or what is exposed
  pub read : ExprTree → Option S → List Fault
  pub returned : Option ExprTree → Option S → List Fault

abbrev pub declared_faults : {S : Type 0} → Flow S → Check S → List DeclaratorTree → Option S → List Fault
declared_faults f c [] k = []
declared_faults f c (d ∷ ds) k = c.declared d k ++ declared_faults f c ds (option_map (f.declared d) k)

abbrev pub first_faults : {S : Type 0} → Flow S → Check S → Option InitTree → Option S → List Fault
first_faults f c None k = []
first_faults f c (Some (DeclareFirst ds)) k = declared_faults f c ds k
first_faults f c (Some (SimpleFirst s)) k = c.done s k

abbrev pub step_faults : {S : Type 0} → Check S → Option SimpleTree → Option S → List Fault
step_faults c None k = []
step_faults c (Some s) k = c.done s k

-- where the test has come out so
abbrev pub side : {S : Type 0} → Flow S → ExprTree → Bool → Option S → Option S
side f e v k = option_map (f.tested e v) k

-- at the head of a loop, and at the beginning of what it repeats
abbrev pub at_head : {S : Type 0} → Flow S → StmtTree → Option SimpleTree → Option S → Option S
at_head f s step k = option_map (f.head s step) k

abbrev pub in_loop : {S : Type 0} → Flow S → ExprTree → StmtTree → Option SimpleTree → Option S → Option S
in_loop f e s step k = side f e true (at_head f s step k)

-- after what a `for` begins with
abbrev pub behind_first : {S : Type 0} → Flow S → Option InitTree → Option S → Option S
behind_first f first k = option_map (begun f first) k

abbrev mutual
  -- the faults of the statement and of all inside it, where this is known before it
  pub faults_at : {S : Type 0} → Flow S → Check S → StmtTree → Option S → List Fault
  faults_at f c (InBlock b) k = faults_in f c b k
  faults_at f c (DeclareOf ds) k = declared_faults f c ds k
  faults_at f c (SimpleOf s) k = c.done s k
  faults_at f c (IfOf p e a) k = c.read e k ++ faults_at f c a (side f e true k)
  faults_at f c (IfElseOf p e a b) k = c.read e k ++ faults_at f c a (side f e true k) ++ faults_at f c b (side f e false k)
  faults_at f c (WhileOf p e invariants s) k = c.read e (at_head f s None k) ++ faults_at f c s (in_loop f e s None k)
  faults_at f c (ForOf p first e step invariants s) k =
      first_faults f c first k
      ++ c.read (test_of p e) (at_head f s step (behind_first f first k))
      ++ faults_at f c s (in_loop f (test_of p e) s step (behind_first f first k))
      ++ step_faults c step (option_and_then (behind f s) (in_loop f (test_of p e) s step (behind_first f first k)))
  faults_at f c (ReturnOf p e) k = c.returned e k
  faults_at f c (ExposeOf p e t b) k = c.read e k ++ faults_in f c b k
  faults_at f c (AssertOf p e) k = []
  faults_at f c (AssumeOf p e) k = []
  faults_at f c (EmptyOf p) k = []

  pub faults_in : {S : Type 0} → Flow S → Check S → BlockTree → Option S → List Fault
  faults_in f c (BlockOf p ss end) k = faults_along f c ss k

  pub faults_along : {S : Type 0} → Flow S → Check S → StmtTrees → Option S → List Fault
  faults_along f c NoMore k = []
  faults_along f c (Before s ss) k = faults_at f c s k ++ faults_along f c ss (option_and_then (behind f s) k)
