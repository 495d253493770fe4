use Rattle.std.proofs.Common.{ℕ, ◌≡◌, ◌++◌, List, [], ◌∷◌, length, Some, sym, ap, subst, ◌∙◌, arith, length-append}
use Rattle.std.specs.Prelude.{slice_get}
use Rattle.ss_tables_lookup.specs.Classes.{trees}
use Rattle.ss_resolver_tables.specs.declared.slots.MethodTable.{MethodTable}
use Rattle.ss_resolver_rules.specs.Numbers.{table, table_along}
use Rattle.ss_resolver_tables.specs.Slots.{IsTable}
use Rattle.ss_resolver_tables.proofs.Tabled.{one_more_table}
use Rattle.ss_resolver_tables.proofs.tables.method_tables.Goals as goal

pub loop-class-preserved : goal.loop-class-preserved
loop-class-preserved c =
    let cs = trees c.args.tables.now in
    let l = c.loop-class in
    let pushed = c.in_ok-push.ensures.items in
    let chained = c.deref.ensures.value ∙ c.in_ok-classes.ensures in
    let here : IsTable (table cs l.class) c.in_ok-table.table = subst (λ (ks : List ℕ). IsTable (table_along cs ks) c.in_ok-table.table) chained c.in_ok-table.ensures in
    record {
      places = omega (arith, ap length pushed, length-append l.list.items (c.in_ok-table.table ∷ []), l.invariant.places);
      each = λ k t h. one_more_table (λ k t. IsTable (table cs k) t) l.list.items c.in_ok-table.table l.invariant.each
          (subst (λ (n : ℕ). IsTable (table cs n) c.in_ok-table.table) (sym l.invariant.places) here) k t (subst (λ (xs : List MethodTable). slice_get xs k ≡ Some t) pushed h);
    }
