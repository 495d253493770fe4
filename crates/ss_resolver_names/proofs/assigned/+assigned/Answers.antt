use Rattle.std.proofs.Common.{◌≡◌, sym, ap, ◌∙◌}
use Rattle.ss_tables_scopes.specs.Names.{Names}
use Rattle.ss_tables_scopes.specs.Views.{scope_of}
use Rattle.ss_resolver_scoping.proofs.Leaving.{left_entered}
use Rattle.ss_resolver_names.proofs.assigned.+assigned.Goals as goal

pub note_governed-returns-clause-kept : goal.note_governed-returns-clause-kept
note_governed-returns-clause-kept t c = left_entered c.args.locals.now c.enter.new.self c.note_stmt.new.locals c.leave.new.self c.in_ok-enter.ensures c.in_ok-note_stmt.ensures.around c.leave.ensures

pub note_block-returns-clause-kept : goal.note_block-returns-clause-kept
note_block-returns-clause-kept t c = left_entered c.args.locals.now c.enter.new.self c.note_stmts.new.locals c.leave.new.self c.in_ok-enter.ensures c.in_ok-note_stmts.ensures.around c.leave.ensures
