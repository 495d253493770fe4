-- What is assigned along the statements of a constructor, and the faults of its ends, as the code goes over them: where no path leads it
-- goes on with nothing.
use Rattle.std.specs.Prelude.{List, [], ◌++◌, Bool, Option, Some, None, option_map, if◌then◌else◌}
use Rattle.ss_faults.specs.declared.Fault.{Fault}
use Rattle.ss_typed.specs.Tree.{InitTree, DeclareFirst, SimpleFirst, BlockTree, BlockOf, StmtTree, InBlock, DeclareOf, SimpleOf, IfOf, IfElseOf, WhileOf, ForOf, ReturnOf, AssertOf, AssumeOf, ExposeOf, EmptyOf, StmtTrees, NoMore, Before}
use Rattle.ss_paths.specs.Fields.{Numbers}
use Rattle.ss_paths.specs.Paths.{test_of}
use Rattle.ss_typed.specs.Shapes.{is_true}
use Rattle.ss_paths.specs.Assigned.{Assigned, assigned_by, both_assigned}
use Rattle.ss_paths_assigned.specs.declared.assigned.Assigned as code
use Rattle.ss_paths_assigned.specs.Codes.{assigned_of}

-- what is known at a point; None where no path leads
abbrev pub Known : Type 0
Known = Option Assigned

abbrev pub known_of : Option code.Assigned → Known
known_of k = option_map assigned_of k

abbrev pub joined : Known → Known → Known
joined None l = l
joined (Some a) None = Some a
joined (Some a) (Some b) = Some (both_assigned a b)

abbrev pub begun_with : Numbers → Option InitTree → Known → Known
begun_with n None k = k
begun_with n (Some (DeclareFirst ds)) k = k
begun_with n (Some (SimpleFirst s)) k = option_map (assigned_by n s) k

abbrev pub left_with : Bool → Known → Known
left_with is_endless k = if is_endless then None else k

abbrev mutual
  pub walked : Numbers → StmtTree → Known → Known
  walked n (InBlock b) k = walked_in n b k
  walked n (DeclareOf ds) k = k
  walked n (SimpleOf s) k = option_map (assigned_by n s) k
  walked n (IfOf p e a) k = joined (walked n a k) k
  walked n (IfElseOf p e a b) k = joined (walked n a k) (walked n b k)
  walked n (WhileOf p e invariants s) k = left_with (is_true e) k
  walked n (ForOf p first e step invariants s) k = left_with (is_true (test_of p e)) (begun_with n first k)
  walked n (ReturnOf p e) k = None
  walked n (AssertOf p e) k = k
  walked n (AssumeOf p e) k = k
  walked n (ExposeOf p e t b) k = walked_in n b k
  walked n (EmptyOf p) k = k

  pub walked_in : Numbers → BlockTree → Known → Known
  walked_in n (BlockOf p ss end) k = walked_along n ss k

  pub walked_along : Numbers → StmtTrees → Known → Known
  walked_along n NoMore k = k
  walked_along n (Before s ss) k = walked_along n ss (walked n s k)

-- the faults of an end, by what is known there
abbrev pub AtEnd : Type 0
AtEnd = Known → List Fault

abbrev mutual
  pub ended : AtEnd → Numbers → StmtTree → Known → List Fault
  ended f n (InBlock b) k = ended_in f n b k
  ended f n (DeclareOf ds) k = []
  ended f n (SimpleOf s) k = []
  ended f n (IfOf p e a) k = ended f n a k
  ended f n (IfElseOf p e a b) k = ended f n a k ++ ended f n b k
  ended f n (WhileOf p e invariants s) k = ended f n s k
  ended f n (ForOf p first e step invariants s) k = ended f n s (begun_with n first k)
  ended f n (ReturnOf p e) k = f k
  ended f n (AssertOf p e) k = []
  ended f n (AssumeOf p e) k = []
  ended f n (ExposeOf p e t b) k = ended_in f n b k
  ended f n (EmptyOf p) k = []

  pub ended_in : AtEnd → Numbers → BlockTree → Known → List Fault
  ended_in f n (BlockOf p ss end) k = ended_along f n ss k

  pub ended_along : AtEnd → Numbers → StmtTrees → Known → List Fault
  ended_along f n NoMore k = []
  ended_along f n (Before s ss) k = ended f n s k ++ ended_along f n ss (walked n s k)
