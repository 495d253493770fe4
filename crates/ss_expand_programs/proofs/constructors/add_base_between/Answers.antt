use Rattle.std.proofs.Common.{map}
use Rattle.ss_typed.specs.Tree.{stmt_trees}
use Rattle.ss_typed.specs.View as typed
use Rattle.ss_expand_expressions.specs.Sources.{stmts_of}
use Rattle.ss_expand_lifting.specs.Contexts.{context_of}
use Rattle.ss_expand_programs.proofs.Lists.{between}
use Rattle.ss_expand_programs.proofs.constructors.add_base_between.Goals as goal

pub returns-clause-coded : goal.returns-clause-coded
returns-clause-coded c =
    let front = stmt_trees (map typed.stmt_of c.args.front.now) in
    let others = stmt_trees (map typed.stmt_of c.args.others.now) in
    between (context_of c.args.context.now) front others
    (stmts_of c.args.code.now.statements) (stmts_of c.add_stmts.new.code.statements) (stmts_of c.base_call.new.code.statements) (stmts_of c.add_stmts-2.new.code.statements)
    c.args.made.now.items c.add_stmts.new.made.items c.base_call.new.made.items c.add_stmts-2.new.made.items
    c.requires c.in_ok-add_stmts.ensures.coded c.in_ok-base_call.ensures c.in_ok-reached.ensures.coded
