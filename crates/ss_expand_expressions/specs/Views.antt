-- What the values of the code stand for.
use Rattle.std.specs.Prelude.{ℕ, List, [], ◌∷◌, Option, Some, None, if◌then◌else◌}
use Rattle.ss_core.specs.declared.names.Place.{Place}
use Rattle.ss_core.specs.declared.expr.Expr.{Expr}
use Rattle.ss_core.specs.declared.expr.Step.{Step}
use Rattle.ss_core.specs.Tree as core
use Rattle.ss_core.specs.View as core_view
use Rattle.ss_core.specs.Parts as core_parts
use Rattle.ss_expand_rules.specs.Numbers as elab
use Rattle.ss_expand_expressions.specs.declared.locals.Numbers.{Numbers}
use Rattle.ss_expand_expressions.specs.declared.expressions.PlainSteps.{PlainSteps}

abbrev pub numbers_of : Numbers → elab.Numbers
numbers_of ns = record { meant = ns.meant.items; first_temporary = ns.first_temporary; outcome = ns.outcome; first_bound = ns.first_bound }

-- a path that begins so, with these steps
abbrev pub path_of : Place → core.ExprTree → PlainSteps → core.ExprTree
path_of p first path = core_parts.path_front p (if path.after_call then core.NullExpr p else first) path.steps.items

-- one more step, and null for a call
abbrev pub plain_step_after : Option Step → core_view.Behind
plain_step_after None p before = core.NullExpr p
plain_step_after (Some step) p before = core_parts.step_after step p before
