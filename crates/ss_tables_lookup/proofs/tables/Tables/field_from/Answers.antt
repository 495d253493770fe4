use Rattle.std.proofs.Common.{◌≡◌, ◌∙◌, ap, sym, option_map, None}
use Rattle.std.proofs.Common.{◌<◌, ◌-◌, length, arith}
use Rattle.ss_tables.specs.Members.{field_in}
use Rattle.ss_tables.specs.Classes.{members_at, chain_from, first_field}
use Rattle.ss_tables_lookup.specs.Classes.{trees}
use Rattle.ss_tables_lookup.specs.Views.{field_tree}
use Rattle.ss_tables_lookup.proofs.Shelving.{next_field}
use Rattle.ss_tables_lookup.proofs.tables.Tables.field_from.Goals as goal

pub loop-step-preserved : goal.loop-step-preserved
loop-step-preserved c =
    let cs = trees c.args.self.now in
    let n = c.args.name.now in
    let l = c.loop-step in
    let missing : c.own_field.result ≡ None = c.in_default-own_field.is in
    let none : field_in (members_at cs c.in-Some.class) n ≡ None = sym c.own_field.ensures ∙ ap (option_map field_tree) missing in
    let within : l.step < length cs = omega (arith, c.loop-step-test.true, c.len-step-end.ensures) in
    rw c.above-next.ensures
    (next_field cs n c.in-Some.class l.step (length cs) within none
    ∙ ap (λ o. first_field cs n (chain_from cs (length cs - l.step) o)) (sym c.in-Some.is)
    ∙ l.invariant)
