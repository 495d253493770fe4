use Rattle.std.proofs.Common.{List, ◌++◌, [], map, subst}
use Rattle.ss_core.specs.declared.body.Local.{Local}
use Rattle.ss_core.specs.View as view
use Rattle.ss_report_names.specs.Names.{this_names, names_of, result_names}
use Rattle.ss_report_names.specs.Tables.{IsTable}
use Rattle.ss_report_names.proofs.tables.body_table.Goals as goal

pub returns : goal.returns
returns c =
    let b = c.args.body.now in
    let own = this_names (view.body b) in
    let table = c.add_result.new.table in
    subst (λ (ls : List Local). IsTable (((own ++ names_of (map view.local_of b.params.items)) ++ names_of (map view.local_of ls)) ++ result_names b.result) table) c.deref-2.ensures.value
    (subst (λ (ps : List Local). IsTable (((own ++ names_of (map view.local_of ps)) ++ names_of (map view.local_of c.deref-2.result.now)) ++ result_names b.result) table) c.deref.ensures.value
    (c.in_ok-add_result.ensures _ (c.in_ok-add_all-2.ensures _ (c.in_ok-add_all.ensures _ (c.in_ok-add_this.ensures [] c.new-table.ensures)))))
