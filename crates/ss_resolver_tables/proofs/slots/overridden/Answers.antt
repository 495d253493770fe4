use Rattle.std.proofs.Common.{◌≡◌, ◌∙◌, ap, sym, option_map, is_some, true, false}
use Rattle.ss_tables.specs.Classes.{members_at}
use Rattle.ss_tables_lookup.specs.Classes.{trees}
use Rattle.ss_tables_lookup.specs.Views.{method_tree}
use Rattle.ss_resolver_names_rules.specs.Faults.{is_listed}
use Rattle.ss_resolver_rules.specs.Numbers.{method_names}
use Rattle.ss_resolver_tables.specs.Slots.{slot_of}
use Rattle.ss_resolver_tables.proofs.Counted.{method_listed, stays, replaced}
use Rattle.ss_resolver_tables.proofs.slots.overridden.Goals as goal

pub returns-in-None : goal.returns-in-None
returns-in-None c =
    let cs = trees c.args.tables.now in
    let k = c.args.class in
    let n = c.args.slot.name.now in
    let none : is_listed (method_names (members_at cs k)) n ≡ false = sym (method_listed (members_at cs k) n) ∙ ap is_some (sym c.own_method.ensures ∙ ap (option_map method_tree) c.in-None.is) in
    stays cs k (slot_of c.args.slot) none

pub returns-in-Some : goal.returns-in-Some
returns-in-Some c =
    let cs = trees c.args.tables.now in
    let k = c.args.class in
    let n = c.args.slot.name.now in
    let some : is_listed (method_names (members_at cs k)) n ≡ true = sym (method_listed (members_at cs k) n) ∙ ap is_some (sym c.own_method.ensures ∙ ap (option_map method_tree) c.in-Some.is) in
    replaced cs k n _ c.args.slot.body.0 some c.method_id.ensures
