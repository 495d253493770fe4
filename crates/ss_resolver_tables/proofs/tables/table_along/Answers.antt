use Rattle.std.proofs.Common.{◌≡◌, ◌<◌, suc, length, arith}
use Rattle.ss_tables_lookup.specs.Classes.{trees}
use Rattle.ss_resolver_rules.specs.Numbers.{table_along}
use Rattle.std.proofs.Common.{drop}
use Rattle.ss_resolver_tables.proofs.Tabled.{one_below}
use Rattle.ss_resolver_tables.proofs.tables.table_along.Goals as goal

pub loop-first-preserved : goal.loop-first-preserved
loop-first-preserved c =
    let cs = trees c.args.tables.now in
    let ks = c.args.classes.now in
    let l = c.loop-first in
    record {
      within = omega arith;
      table = one_below cs ks _ l.first c.in_ok-table.table (omega arith) (omega arith) (c.in_ok-table.ensures (table_along cs (drop l.first ks)) l.invariant.table);
    }
