use Rattle.std.proofs.Common.{sym, ◌∙◌, ap, subst}
use Rattle.ss_terms.specs.Forms.{terms_at, formulas_at, HasTerms}
use Rattle.ss_search_reached.proofs.Told.{told_countermodel}
use Rattle.ss_search_reached.proofs.reached.Reached.model.Goals as goal

pub returns : goal.returns
returns c = λ cs whole.
    let b = c.args.bank.now in
    let r = c.args.self.now in
    let fs = formulas_at b c.args.formulas.now in
    let decisions = c.args.decisions.now in
    let ts = c.deref.result.now in
    told_countermodel cs b c.numbers_are_apart.ensures r c.requires.reached whole (c.classes_are_of_terms.ensures r.classes.items) fs decisions c.requires.in_bank c.requires.decisions c.requires.total c.requires.known
    ts (subst (HasTerms b) (sym c.deref.ensures.value) c.in_ok-terms.ensures.has) (ap (terms_at b) c.deref.ensures.value ∙ c.in_ok-terms.ensures.are)
    c.class_of_names.result c.class_of_names.ensures c.in_ok-truth.ensures.arguments (record { classes = c.in_ok-classes.classes; truth = c.in_ok-truth.truth }) c.in_ok-classes.ensures c.in_ok-truth.ensures.truths
