use Rattle.std.proofs.Common.{◌≡◌, ◌++◌, List, sym, ap, ◌∙◌, subst, append-nil, option_map, map, OnOk}
use Rattle.ss_core.specs.Tree.{EntryTree}
use Rattle.ss_tables_lookup.specs.Classes.{trees}
use Rattle.ss_tables_lookup.specs.Shelved.{shelf_of}
use Rattle.ss_resolver_tables.specs.Slots.{slots_of}
use Rattle.ss_resolver_tables.proofs.Tabled.{added_shelved, none_added}
use Rattle.ss_resolver_tables.proofs.tables.add_own.Goals as goal

pub returns-in-None : goal.returns-in-None
returns-in-None c = λ es h.
    let old = slots_of c.args.slots.now.items in
    sym (append-nil old) ∙ ap (λ ds. old ++ ds) (none_added (trees c.args.tables.now) c.args.class es (sym (ap (option_map (λ s. shelf_of s.now)) c.in-None.is) ∙ c.shelf.ensures))
