use Rattle.std.proofs.Common.{◌≡◌, sym, ap, ◌∙◌}
use Rattle.ss_tables_scopes.specs.Names.{Names}
use Rattle.ss_tables_scopes.specs.Views.{scope_of}
use Rattle.ss_resolver_scoping.proofs.Leaving.{left_entered}
use Rattle.ss_resolver_names_members.proofs.stmts.+stmt.Goals as goal

pub check_governed-returns-clause-kept : goal.check_governed-returns-clause-kept
check_governed-returns-clause-kept t c = left_entered c.args.locals.now c.enter.new.self c.check_stmt.new.locals c.leave.new.self c.in_ok-enter.ensures c.in_ok-check_stmt.ensures.around c.leave.ensures

pub check_block-returns-clause-kept : goal.check_block-returns-clause-kept
check_block-returns-clause-kept t c = left_entered c.args.locals.now c.enter.new.self c.check_stmts.new.locals c.leave.new.self c.in_ok-enter.ensures c.in_ok-check_stmts.ensures.around c.leave.ensures

pub check_for-returns-clause-kept : goal.check_for-returns-clause-kept
check_for-returns-clause-kept t c =
    left_entered c.args.locals.now c.enter.new.self c.check_start.new.locals c.check_loop.new.locals c.in_ok-enter.ensures c.in_ok-check_start.ensures.around c.in_ok-check_loop.ensures.closed
