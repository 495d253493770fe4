-- What has been made of an expression so far: statements, the types of temporaries, and a value or what makes one.
use Rattle.std.specs.Prelude.{List, ◌++◌, map}
use Rattle.std.specs.Global.{Vec}
use Rattle.ss_core.specs.declared.names.Ty.{Ty}
use Rattle.ss_core.specs.declared.expr.Expr.{Expr}
use Rattle.ss_core.specs.declared.stmt.Stmt.{Stmt}
use Rattle.ss_core.specs.Tree as core
use Rattle.ss_core.specs.View.{expr, exprs, callee_tree, stmt_of}
use Rattle.ss_expand_rules.specs.Lifting as lifting
use Rattle.ss_expand_rules.specs.Lifting.{Lifted, Valued, Listed}
use Rattle.ss_expand_expressions.specs.declared.sources.Source.{Source}
use Rattle.ss_expand_expressions.specs.declared.sources.Source.TheVariants as source

abbrev pub source_of : Source → lifting.Source
source_of (source.Pure e) = lifting.Pure (expr e)
source_of (source.Created p t es) = lifting.Created p t.0 (exprs es.items)
source_of (source.CreatedArray p t e) = lifting.CreatedArray p t.0 (expr e)
source_of (source.Called p c es) = lifting.Called p (callee_tree c) (exprs es.items)

abbrev pub stmts_of : Vec Stmt → List core.StmtTree
stmts_of code = map stmt_of code.items

abbrev pub lifted_by : Vec Stmt → Vec Ty → Source → Lifted
lifted_by code made s = record { code = stmts_of code; source = source_of s; made = made.items }

abbrev pub valued_by : Vec Stmt → Vec Ty → Expr → Valued
valued_by code made e = record { code = stmts_of code; value = expr e; made = made.items }

abbrev pub listed_by : Vec Stmt → Vec Ty → Vec Expr → Listed
listed_by code made es = record { code = stmts_of code; values = exprs es.items; made = made.items }

-- the same after this code
abbrev pub lifted_after : List core.StmtTree → Lifted → Lifted
lifted_after code l = record l { code = code ++ l.code }

abbrev pub valued_after : List core.StmtTree → Valued → Valued
valued_after code v = record v { code = code ++ v.code }

abbrev pub listed_after : List core.StmtTree → Listed → Listed
listed_after code l = record l { code = code ++ l.code }
