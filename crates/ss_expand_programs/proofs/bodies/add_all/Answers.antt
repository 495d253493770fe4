use Rattle.ss_expand_expressions.specs.Sources.{stmts_of}
use Rattle.ss_expand_lifting.specs.Contexts.{context_of}
use Rattle.ss_expand_programs.specs.Written.{own_stmts}
use Rattle.ss_expand_programs.proofs.Lists.{all_written}
use Rattle.ss_expand_programs.proofs.bodies.add_all.Goals as goal

pub returns : goal.returns
returns c =
    let s = context_of c.args.context.now in
    all_written s s.body.result (own_stmts s.program s.body) (stmts_of c.args.code.now.statements) (stmts_of c.add_own.new.code.statements) (stmts_of c.add_last_return.new.code.statements)
    c.args.made.now.items c.add_own.new.made.items c.in_ok-reached.reached c.in_ok-reached.ensures.coded c.in_ok-reached.ensures.ends c.in_ok-add_last_return.ensures
