use Rattle.std.proofs.Common.{◌∷◌, subst}
use Rattle.ss_terms.specs.Forms.{formulas_at}
use Rattle.ss_search_clashes.specs.Numbered.{class_of, HasNoClash}
use Rattle.ss_search_clashes.specs.Found.{IsFound}
use Rattle.ss_search_procedure_rules.specs.Closed.{basics}
use Rattle.ss_search_reached.proofs.Trials.{is_nothing}
use Rattle.ss_search_reached.proofs.looking.Looking.fits.Goals as goal

pub returns-in_ok-against-in-Fits : goal.returns-in_ok-against-in-Fits
returns-in_ok-against-in-Fits c = λ e.
    let s = c.args.self.now in
    let b = s.bank.now in
    let known = s.known.now in
    let f = c.args.f in
    let classes = c.in_ok-classes.classes.items in
    let found = subst (IsFound b classes known) c.in-Fits.is c.in_ok-_clash.ensures in
    let nothing = is_nothing c.in_ok-against-in-Fits.field-0 c.is_none.result c.is_none.ensures e in
    let none = subst (λ ns. HasNoClash b (class_of b ns) (f ∷ known)) found.0 (c.in_ok-against-in-Fits.ensures.none nothing known found.1) in
    c.what_has_fitting_classes_fits.ensures (class_of b classes) (basics (formulas_at b (f ∷ known)))
    (c.what_has_no_clash_fits.ensures c.args.congruence.now.terms c.args.congruence.now.merges classes (f ∷ known) c.requires.forms c.in_ok-classes.ensures.same c.requires.merged none)
