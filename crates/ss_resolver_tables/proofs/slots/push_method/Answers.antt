use Rattle.std.proofs.Common.{◌++◌, ◌∷◌, [], ◌∙◌, ap}
use Rattle.std.proofs.lemmas.List.{map_push}
use Rattle.ss_tables_lookup.specs.Classes.{trees}
use Rattle.ss_resolver_tables.specs.Slots.{slot_of, slots_of}
use Rattle.ss_resolver_tables.proofs.Counted.{one_more}
use Rattle.ss_resolver_tables.proofs.slots.push_method.Goals as goal

pub returns : goal.returns
returns c =
    let old = slots_of c.args.slots.now.items in
    ap slots_of c.in_ok-push.ensures.items ∙ map_push slot_of c.args.slots.now.items _
    ∙ ap (λ e. old ++ e ∷ []) (one_more (trees c.args.tables.now) c.args.class c.args.name.now _ c.method_id.ensures)
