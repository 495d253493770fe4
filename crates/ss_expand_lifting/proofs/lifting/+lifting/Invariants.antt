use Rattle.std.proofs.Common.{◌≡◌, List, [], take, drop}
use Rattle.ss_core.specs.declared.names.Ty.{Ty}
use Rattle.ss_core.specs.Tree as core
use Rattle.ss_core.specs.View.{exprs}
use Rattle.ss_typed.specs.Tree.{ExprTree, arguments}
use Rattle.ss_typed.specs.View as typed
use Rattle.ss_expand_rules.specs.Lifting.{in_temporaries}
use Rattle.ss_expand_expressions.specs.Parameters.{param_types}
use Rattle.ss_typed.specs.Parts.{linked, stepped}
use Rattle.ss_expand_expressions.specs.Sources.{stmts_of}
use Rattle.ss_expand_expressions.specs.Operands.{IsOperand}
use Rattle.ss_expand_lifting.specs.Contexts.{context_of}
use Rattle.ss_expand_lifting.specs.Fronts.{LinksGoOn, StepsGoOn}
use Rattle.ss_expand_lifting.proofs.Joins.{listed_onto}
use Rattle.ss_expand_lifting.proofs.lifting.+lifting.Given as goal

abbrev pub invariant-lift_links-loop-link : goal.invariant-lift_links-loop-link
invariant-lift_links-loop-link l = (e : ExprTree) → (before : List core.StmtTree) → (types : List Ty)
    → IsOperand (context_of l.context) e before types l.fn.code.statements l.fn.made l.fn.first → LinksGoOn l.place e l.links
    → IsOperand (context_of l.context) (linked l.place e (take l.link-index l.links)) before types l.code.statements l.made l.operand

abbrev pub invariant-lift_steps-loop-step : goal.invariant-lift_steps-loop-step
invariant-lift_steps-loop-step l = (e : ExprTree) → (before : List core.StmtTree) → (types : List Ty)
    → IsOperand (context_of l.context) e before types l.fn.code.statements l.fn.made l.fn.first → StepsGoOn l.place e l.steps
    → IsOperand (context_of l.context) (stepped l.place e (take l.step-index l.steps)) before types l.code.statements l.made l.operand

abbrev pub invariant-lift_all-loop-e : goal.invariant-lift_all-loop-e
invariant-lift_all-loop-e l =
    listed_onto (stmts_of l.code.statements) (exprs l.values.items) (in_temporaries (context_of l.context) (param_types l.rest) (arguments (typed.exprs (drop l.e-index l.es))) l.made.items)
    ≡ listed_onto (stmts_of l.fn.code.statements) [] (in_temporaries (context_of l.context) (param_types l.fn.params) (arguments (typed.exprs l.es)) l.fn.made.items)
