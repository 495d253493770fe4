-- The locals that statements assign, in order. A declaration assigns its local.
use Rattle.std.specs.Prelude.{ℕ, List, [], ◌∷◌, ◌++◌, map, Option, Some, None}
use Rattle.ss_typed.specs.Tree.{DeclaratorTree, SimpleTree, AssignOf, StepOf, InitTree, DeclareFirst, SimpleFirst, BlockTree, BlockOf, StmtTree, InBlock, DeclareOf, SimpleOf, IfOf, IfElseOf, WhileOf, ForOf, ExposeOf, StmtTrees, NoMore, Before}
use Rattle.ss_typed.specs.Shapes.{local_of}

abbrev pub listed : Option ℕ → List ℕ
listed None = []
listed (Some x) = x ∷ []

abbrev pub declared_locals : List DeclaratorTree → List ℕ
declared_locals ds = map (λ (d : DeclaratorTree). d.local) ds

abbrev pub put_locals : SimpleTree → List ℕ
put_locals (AssignOf l o e) = listed (local_of l)
put_locals (StepOf l o) = listed (local_of l)
put_locals s = []

abbrev pub first_locals : Option InitTree → List ℕ
first_locals None = []
first_locals (Some (DeclareFirst ds)) = declared_locals ds
first_locals (Some (SimpleFirst s)) = put_locals s

abbrev pub step_locals : Option SimpleTree → List ℕ
step_locals None = []
step_locals (Some s) = put_locals s

abbrev mutual
  -- those that the statement assigns anywhere inside
  pub assigned : StmtTree → List ℕ
  assigned (InBlock b) = assigned_in b
  assigned (DeclareOf ds) = declared_locals ds
  assigned (SimpleOf s) = put_locals s
  assigned (IfOf p e a) = assigned a
  assigned (IfElseOf p e a b) = assigned a ++ assigned b
  assigned (WhileOf p e invariants s) = assigned s
  assigned (ForOf p first e step invariants s) = first_locals first ++ (assigned s ++ step_locals step)
  assigned (ExposeOf p e t b) = assigned_in b
  assigned s = []

  pub assigned_in : BlockTree → List ℕ
  assigned_in (BlockOf p ss end) = assigned_along ss

  pub assigned_along : StmtTrees → List ℕ
  assigned_along NoMore = []
  assigned_along (Before s ss) = assigned s ++ assigned_along ss
