-- What the parts of a chain and of a path make of what stands before them, and the statement that a loop is.
use Rattle.std.specs.Prelude.{List, map}
use Rattle.ss_core.specs.declared.names.Place.{Place}
use Rattle.ss_core.specs.declared.expr.Link.{Link}
use Rattle.ss_core.specs.declared.expr.Step.{Step}
use Rattle.ss_core.specs.declared.expr.Expr.TheFolds.{fold-Link, fold-Step}
use Rattle.ss_core.specs.declared.stmt.Loop.{Loop}
use Rattle.ss_core.specs.declared.stmt.Stmt.TheFolds.{fold-Loop}
use Rattle.ss_core.specs.Tree.{ExprTree, StmtTree}
use Rattle.ss_core.specs.View.{Behind, grouped, expr_step, link_step, step_step, stmt_step, loop_step}

-- of what isn't written
abbrev pub no_place : Place
no_place = record { line = 0; column = 0 }

abbrev pub link_after : Link → Behind
link_after = fold-Link ExprTree Behind Behind expr_step link_step step_step

abbrev pub step_after : Step → Behind
step_after = fold-Step ExprTree Behind Behind expr_step link_step step_step

-- the operand with these links after it
abbrev pub chain_front : Place → ExprTree → List Link → ExprTree
chain_front p e links = grouped p e (map link_after links)

-- the beginning with these steps after it
abbrev pub path_front : Place → ExprTree → List Step → ExprTree
path_front p e steps = grouped p e (map step_after steps)

abbrev pub loop_of : Loop → StmtTree
loop_of = fold-Loop StmtTree StmtTree stmt_step loop_step
