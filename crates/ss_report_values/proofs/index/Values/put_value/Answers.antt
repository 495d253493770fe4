use Rattle.std.proofs.Common.{◌==◌, ◌∙◌, ap, cond, get_or, Some}
use Rattle.std.specs.Prelude.{nat_eq}
use Rattle.indexmap.specs.IndexMap.{get}
use Rattle.ss_report_values.specs.Index.{no_number}
use Rattle.ss_report_values.proofs.Classes.{value_put}
use Rattle.ss_report_values.proofs.index.Values.put_value.Goals as goal

pub returns : goal.returns
returns c = λ n.
    let ns = c.args.reading.now.classes.now in
    value_put c.args.bank.now n c.args.reading.now.terms.now ns c.args.i no_number c.args.value (get nat_eq c.insert.new.self n) c.requires.place c.requires.class c.requires.value
    (c.in_ok-insert.ensures.updates.0 n ∙ ap (λ o. cond (get_or ns c.args.i 0 == n) (Some c.args.value) o) (c.requires.values n))
