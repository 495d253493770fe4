-- What the parts of a chain and of a path make of what stands before them.
use Rattle.std.specs.Prelude.{List, map}
use Rattle.ss_core.specs.declared.names.Place.{Place}
use Rattle.ss_core.specs.Parts.{no_place}
use Rattle.ss_typed.specs.declared.expr.TypedLink.{TypedLink}
use Rattle.ss_typed.specs.declared.expr.TypedStep.{TypedStep}
use Rattle.ss_typed.specs.declared.expr.TypedExpr.TheFolds.{fold-TypedLink, fold-TypedStep}
use Rattle.ss_typed.specs.Tree.{ExprTree, NullOf}
use Rattle.ss_typed.specs.View.{Behind, grouped, expr_step, link_step, step_step}

-- an expression of which nothing is asked
abbrev pub nothing : ExprTree
nothing = NullOf no_place

abbrev pub link_after : TypedLink → Behind
link_after = fold-TypedLink ExprTree Behind Behind expr_step link_step step_step

abbrev pub step_after : TypedStep → Behind
step_after = fold-TypedStep ExprTree Behind Behind expr_step link_step step_step

-- the operand with these links, and the beginning of a path with these steps
abbrev pub linked : Place → ExprTree → List TypedLink → ExprTree
linked p e links = grouped p e (map link_after links)

abbrev pub stepped : Place → ExprTree → List TypedStep → ExprTree
stepped p e steps = grouped p e (map step_after steps)
