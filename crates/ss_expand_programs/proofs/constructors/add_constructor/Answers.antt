use Rattle.std.proofs.Common.{◌∙◌, map}
use Rattle.ss_typed.specs.Tree.{stmt_trees}
use Rattle.ss_typed.specs.View as typed
use Rattle.ss_expand_rules.specs.Constructors.{with_base}
use Rattle.ss_expand_lifting.specs.Contexts.{context_of}
use Rattle.ss_expand_programs.proofs.Lists.{after_initializers}
use Rattle.ss_expand_programs.proofs.constructors.add_constructor.Goals as goal

pub returns-clause-coded : goal.returns-clause-coded
returns-clause-coded c =
    let s = context_of c.args.context.now in
    let more = with_base s.program s.body s.body.base (stmt_trees (map typed.stmt_of c.args.stmts.now)) in
    c.in_ok-reached.ensures.coded ∙ c.in_ok-add_initializers.ensures more

pub returns-clause-ends : goal.returns-clause-ends
returns-clause-ends c =
    let s = context_of c.args.context.now in
    let more = with_base s.program s.body s.body.base (stmt_trees (map typed.stmt_of c.args.stmts.now)) in
    c.in_ok-reached.ensures.ends ∙ after_initializers s.program s.body.class more
