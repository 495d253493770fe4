use Rattle.std.proofs.Common.{List, length, sym, ap, subst, ◌∙◌, arith}
use Rattle.ss_logic.specs.Terms.{App, terms_from}
use Rattle.ss_terms.specs.declared.forms.TermId.{TermId}
use Rattle.ss_terms.specs.Forms.{symbol_of, terms_at, HasTerms}
use Rattle.ss_terms.proofs.Trees.{AreTermsBelow-more}
use Rattle.ss_report_values.proofs.fields.field_parts.Goals as goal

pub parts_of_form-requires-clause-terms : goal.parts_of_form-requires-clause-terms
parts_of_form-requires-clause-terms c =
    let b = c.args.bank.now in
    let n = rw c.in-App.is at c.term_node.ensures in
    subst (λ (us : List TermId). HasTerms b us) (sym c.deref.ensures.value) (AreTermsBelow-more c.args.t.0 (length b.terms) (omega (arith, c.requires)) c.in-App.arguments.items n.below)

pub parts_of_form-requires-clause-form : goal.parts_of_form-requires-clause-form
parts_of_form-requires-clause-form c =
    let b = c.args.bank.now in
    let n = rw c.in-App.is at c.term_node.ensures in
    n.built ∙ ap (λ (us : List TermId). App (symbol_of c.in-App.symbol) (terms_from (terms_at b us))) (sym c.deref.ensures.value)
