use Rattle.std.proofs.Common.{ap, ◌∙◌}
use Rattle.ss_logic.specs.Terms.{App, terms_from}
use Rattle.ss_terms.specs.Forms.{symbol_of, terms_at}
use Rattle.ss_report_values.proofs.Told.{is_field_of}
use Rattle.ss_report_values.proofs.fields.parts_of_form.Goals as goal

pub returns-in-Field : goal.returns-in-Field
returns-in-Field c =
    let b = c.args.bank.now in
    let ts = c.args.ts.now in
    is_field_of b c.args.t c.in-Field.field ts c.parts_of.result c.requires.terms (c.requires.form ∙ ap (λ f. App f (terms_from (terms_at b ts))) (ap symbol_of c.in-Field.is)) c.parts_of.ensures
