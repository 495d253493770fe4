use Rattle.std.proofs.Common.{◌∙◌, ap}
use Rattle.ss_tables_lookup.specs.Classes.{trees}
use Rattle.ss_resolver_rules.specs.Numbers.{field_count}
use Rattle.ss_resolver_tables.specs.Starts.{start_at}
use Rattle.ss_resolver_tables.proofs.Counted.{first_start}
use Rattle.ss_resolver_tables.proofs.slots.fields_before.Goals as goal

pub returns : goal.returns
returns c =
    let s = c.args.fields.now in
    c.at.ensures ∙ ap (λ ss. start_at ss s.all c.args.class) c.requires.starts ∙ first_start field_count (trees c.args.tables.now) c.args.class s.all c.requires.all
