-- The statements of a body, and its last return.
use Rattle.std.specs.Prelude.{Bool, List, [], ◌∷◌, ◌++◌, if◌then◌else◌, Option, Some, None}
use Rattle.ss_core.specs.declared.names.Ty.{Ty}
use Rattle.ss_core.specs.Tree as core
use Rattle.ss_core.specs.Tree.{ReturnStmt}
use Rattle.ss_typed.specs.Tree.{StmtTrees, BodyTree, TypedTree}
use Rattle.ss_expand_rules.specs.Lifting.{ElaborationContext}
use Rattle.ss_expand_rules.specs.Constructors.{constructor_stmts}
use Rattle.ss_typed.specs.Shapes.{closing_brace, in_block}
use Rattle.ss_expand_rules.specs.Statements.{packs}

-- without the last return
abbrev pub own_stmts : TypedTree → BodyTree → StmtTrees
own_stmts p b = if b.flags.ctor then constructor_stmts p b else in_block b.block

abbrev pub last_return_of : Option Ty → ElaborationContext → Bool → List core.StmtTree
last_return_of (Some t) s reached = []
last_return_of None s reached = if reached then packs s (closing_brace s.body.block) ++ ReturnStmt (closing_brace s.body.block) None ∷ [] else []

-- a body without a result returns at its closing brace, where that can be reached
abbrev pub last_return : ElaborationContext → Bool → List core.StmtTree
last_return s reached = last_return_of s.body.result s reached
