use Rattle.std.proofs.Common.{List, sym, subst}
use Rattle.ss_report_values.specs.declared.fields.FieldValue.{FieldValue}
use Rattle.ss_report_values.specs.Fields.{AreFieldValues, IsFieldValue}
use Rattle.ss_report_values.proofs.Told.{all_pushed}
use Rattle.ss_report_values.proofs.index.Index.add_field_value.Goals as goal

pub returns : goal.returns
returns c =
    let b = c.args.bank.now in
    let r = c.args.reading.now in
    let n = c.args.class in
    subst (λ (xs : List FieldValue). AreFieldValues b r n xs) (sym c.in_ok-push.ensures.items) (all_pushed (IsFieldValue b r n) c.args.found.now.items c.in-Some.value c.requires.found c.in-Some.ensures)
