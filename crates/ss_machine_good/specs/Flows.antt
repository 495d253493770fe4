-- Code that is left of a body, and what is known where it is reached.
use Rattle.std.specs.Prelude.{◌≡◌, List, [], ◌∷◌, ◌++◌, Bool, true, false, if◌then◌else◌, Option, Some, None, option_and_then, ◌⊎◌}
use Rattle.ss_core.specs.declared.names.Place.{Place}
use Rattle.ss_core.specs.Tree.{ExprTree, ExposedTree, StmtTree, IfStmt, LoopStmt, ReturnStmt, CodeTree}
use Rattle.ss_store_rules.specs.Paths.{is_literal_true, reaches_end, Flow, Check, behind, at_end, at_test, in_body, left, where_reached, holds_along, holds_at}
use Rattle.ss_machine_rules.specs.States.{Due, Statement, Test, dues}

-- it is no `if`, no loop and no return
abbrev pub is_simple : StmtTree → Bool
is_simple (IfStmt p e a b) = false
is_simple (LoopStmt p invariants prelude e body exposes) = false
is_simple (ReturnStmt p e) = false
is_simple s = true

-- What it means of an X that something is known, and where no path leads: nothing is there.
abbrev pub Means : {S X : Type 0} → (S → X → Type 0) → Option S → X → Type 0
Means Sat None x = ⊥
Means Sat (Some k) x = Sat k x

-- The parts of a loop.
pub record Loop : Type 0 where
  pub place : Place
  pub invariants : List ExprTree
  pub prelude : CodeTree
  pub test : ExprTree
  pub body : CodeTree
  pub exposes : List ExposedTree

abbrev pub stmt_of : Loop → StmtTree
stmt_of l = LoopStmt l.place l.invariants l.prelude l.test l.body l.exposes

-- what is known at the test of a loop that is reached with this, and at the end of its body
abbrev pub known_at_test : {S : Type 0} → Flow S → Loop → S → Option S
known_at_test f l k = at_test f (stmt_of l) l.prelude k

abbrev pub known_at_end : {S : Type 0} → Flow S → Loop → S → Option S
known_at_end f l k = at_end f l.body (in_body f l.test (known_at_test f l k))

-- A statement is reached with what is known, or with what follows from it.
pub record IsReached {S X : Type 0} (f : Flow S) (c : Check S) (Sat : S → X → Type 0) (s : StmtTree) (o : Option S) (rest : Option S → Type 0) : Type 0 where
  pub known : Option S
  pub follows : (x : X) → Means Sat o x → Means Sat known x
  pub checked : where_reached (holds_at f c s) known ≡ true
  pub behind : rest (option_and_then (behind f s) known)

-- a loop is reached again from the end of its body
pub record IsAgain {S X : Type 0} (f : Flow S) (c : Check S) (Sat : S → X → Type 0) (s : StmtTree) (o : Option S) (rest : Option S → Type 0) : Type 0 where
  pub loop : Loop
  pub first : S
  pub is : s ≡ stmt_of loop
  pub follows : (x : X) → Means Sat o x → Means Sat (known_at_end f loop first) x
  pub checked : holds_at f c (stmt_of loop) first ≡ true
  pub behind : rest (left f loop.test (known_at_test f loop first))

-- the test of a loop is reached from its prelude
pub record IsTest {S X : Type 0} (f : Flow S) (c : Check S) (Sat : S → X → Type 0) (e : ExprTree) (body : CodeTree) (s : StmtTree) (o : Option S) (rest : Option S → Type 0) : Type 0 where
  pub loop : Loop
  pub first : S
  pub is : s ≡ stmt_of loop
  pub test : e ≡ loop.test
  pub body_is : body ≡ loop.body
  pub follows : (x : X) → Means Sat o x → Means Sat (known_at_test f loop first) x
  pub checked : holds_at f c (stmt_of loop) first ≡ true
  pub behind : rest (left f loop.test (known_at_test f loop first))

-- What is left is reached with what is known, and the check holds of it. Where nothing is left, no path leads.
abbrev pub IsLeft : {S X : Type 0} → Flow S → Check S → (S → X → Type 0) → List Due → Option S → Type 0
IsLeft {S} {X} f c Sat [] o = (x : X) → Means Sat o x → ⊥
IsLeft f c Sat (Statement s ∷ ds) o = IsReached f c Sat s o (IsLeft f c Sat ds) ⊎ IsAgain f c Sat s o (IsLeft f c Sat ds)
IsLeft f c Sat (Test e body s ∷ ds) o = IsTest f c Sat e body s o (IsLeft f c Sat ds)

-- What is known where the next of what is left is reached is so.
pub record IsKnown {S X : Type 0} (f : Flow S) (c : Check S) (Sat : S → X → Type 0) (ds : List Due) (x : X) : Type 0 where
  pub known : S
  pub left : IsLeft f c Sat ds (Some known)
  pub so : Sat known x

-- What a kind of knowledge needs so that it stays true along paths. What a statement or a test does to it is asked where a step is made.
pub record IsSound {S X : Type 0} (f : Flow S) (c : Check S) (Sat : S → X → Type 0) : Type 0 where
  pub meet_one : (k l : S) (x : X) → Sat k x → Sat (f.meet k l) x
  pub meet_other : (k l : S) (x : X) → Sat l x → Sat (f.meet k l) x
  -- at the head of a loop, from the front and from the end of its body
  pub head : (l : Loop) (k : S) (x : X) → c.statement (stmt_of l) k ≡ true → Sat k x → Sat (f.head (stmt_of l) k) x
  pub again : (l : Loop) (k m : S) (x : X) → holds_at f c (stmt_of l) k ≡ true → known_at_end f l k ≡ Some m → Sat m x → Sat (f.head (stmt_of l) k) x

-- ---- what is known at each kind of place, and how it goes on

-- at a statement that is no `if`, no loop and no return
pub record IsBefore {S X : Type 0} (f : Flow S) (c : Check S) (Sat : S → X → Type 0) (s : StmtTree) (ds : List Due) (x : X) : Type 0 where
  pub known : S
  pub so : Sat known x
  pub checked : c.statement s known ≡ true
  pub goes_on : (y : X) → Sat (f.after s known) y → IsKnown f c Sat ds y

-- at a return
pub record IsEnd {S X : Type 0} (f : Flow S) (c : Check S) (Sat : S → X → Type 0) (s : StmtTree) (x : X) : Type 0 where
  pub known : S
  pub so : Sat known x
  pub checked : c.statement s known ≡ true

-- at an `if`
pub record IsFork {S X : Type 0} (f : Flow S) (c : Check S) (Sat : S → X → Type 0) (p : Place) (e : ExprTree) (a b : CodeTree) (ds : List Due) (x : X) : Type 0 where
  pub known : S
  pub so : Sat known x
  pub checked : c.statement (IfStmt p e a b) known ≡ true
  pub goes_on : (v : Bool) (y : X) → Sat (f.tested e v known) y → IsKnown f c Sat (dues (if v then a else b) ++ ds) y

-- at the head of a loop, from the front or again
pub record IsHead {S X : Type 0} (f : Flow S) (c : Check S) (Sat : S → X → Type 0) (l : Loop) (ds : List Due) (x : X) : Type 0 where
  pub known : S
  pub so : Sat known x
  pub checked : c.statement (stmt_of l) known ≡ true
  pub goes_on : IsKnown f c Sat (dues l.prelude ++ Test l.test l.body (stmt_of l) ∷ ds) x

-- at its test
pub record IsTested {S X : Type 0} (f : Flow S) (c : Check S) (Sat : S → X → Type 0) (e : ExprTree) (body : CodeTree) (s : StmtTree) (ds : List Due) (x : X) : Type 0 where
  pub known : S
  pub so : Sat known x
  pub checked : c.test e known ≡ true
  pub into : (y : X) → Sat (f.tested e true known) y → IsKnown f c Sat (dues body ++ Statement s ∷ ds) y
  pub out : is_literal_true e ≡ false → (y : X) → Sat (f.tested e false known) y → IsKnown f c Sat ds y

-- What is known goes along the paths of a body, from its entry to each return.
pub record GoesAlong {S X : Type 0} (f : Flow S) (c : Check S) (Sat : S → X → Type 0) : Type 0 where
  pub enters : (code : CodeTree) (k : S) (x : X) → holds_along f c code (Some k) ≡ true → reaches_end code ≡ false → Sat k x → IsKnown f c Sat (dues code) x
  -- the end of code that returns on each path isn't reached
  pub never_ends : (x : X) → IsKnown f c Sat [] x → ⊥
  pub stands : (s : StmtTree) (ds : List Due) (x : X) → is_simple s ≡ true → IsKnown f c Sat (Statement s ∷ ds) x → IsBefore f c Sat s ds x
  pub returns : (p : Place) (e : Option ExprTree) (ds : List Due) (x : X) → IsKnown f c Sat (Statement (ReturnStmt p e) ∷ ds) x → IsEnd f c Sat (ReturnStmt p e) x
  pub forks : (p : Place) (e : ExprTree) (a b : CodeTree) (ds : List Due) (x : X) → IsKnown f c Sat (Statement (IfStmt p e a b) ∷ ds) x → IsFork f c Sat p e a b ds x
  pub loops : (l : Loop) (ds : List Due) (x : X) → IsKnown f c Sat (Statement (stmt_of l) ∷ ds) x → IsHead f c Sat l ds x
  pub tests : (e : ExprTree) (body : CodeTree) (s : StmtTree) (ds : List Due) (x : X) → IsKnown f c Sat (Test e body s ∷ ds) x → IsTested f c Sat e body s ds x
