use Rattle.std.proofs.Common.{◌≡◌}
use Rattle.ss_typed.specs.View.{expr}
use Rattle.ss_expand_expressions.specs.Sources.{stmts_of}
use Rattle.ss_expand_lifting.proofs.assignments.assign_settled.Goals as goal

pub returns : goal.returns
returns c = c.in_ok-assign_operand.ensures (expr c.args.e.now) (stmts_of c.args.code.now.statements) c.args.made.now.items c.in_ok-right.ensures
