use Rattle.std.proofs.Common.{◌&&◌, ap, ◌∙◌}
use Rattle.std.specs.List.{list_all}
use Rattle.ss_logic.specs.Formulas.{term_avoids}
use Rattle.ss_terms.specs.Forms.{terms_at}
use Rattle.ss_terms_puts.proofs.Tables.{formulas_tested, terms_tested}
use Rattle.ss_terms_puts.proofs.constants.all_avoid.Goals as goal

pub returns-then-not-all_formulas : goal.returns-then-not-all_formulas
returns-then-not-all_formulas c =
    let test = list_all (term_avoids c.args.constant.sort c.args.constant.number) (terms_at c.args.bank.now c.args.ts.now) in
    ap (λ v. v && test)
    (formulas_tested c.args.bank.now c.args.constant.sort c.args.constant.number c.in_ok-formulas.formulas.items c.in_ok-formulas.ensures.entries c.in_ok-formulas.ensures.all c.args.fs.now c.requires.formulas
    c.deref-2.result.now c.deref-2.ensures.value _ c.if-not-all_formulas.ensures)

pub returns : goal.returns
returns c =
    let test = list_all (term_avoids c.args.constant.sort c.args.constant.number) (terms_at c.args.bank.now c.args.ts.now) in
    terms_tested c.args.bank.now c.args.constant.sort c.args.constant.number c.in_ok-terms.terms.items c.in_ok-terms.ensures.entries c.in_ok-terms.ensures.all c.args.ts.now c.requires.terms
    c.deref-3.result.now c.deref-3.ensures.value _ c.all_terms.ensures
    ∙ ap (λ v. v && test)
    (formulas_tested c.args.bank.now c.args.constant.sort c.args.constant.number c.in_ok-formulas.formulas.items c.in_ok-formulas.ensures.entries c.in_ok-formulas.ensures.all c.args.fs.now c.requires.formulas
    c.deref-2.result.now c.deref-2.ensures.value _ c.if-not-all_formulas.ensures)
