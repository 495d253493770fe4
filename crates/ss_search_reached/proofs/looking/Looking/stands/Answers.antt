use Rattle.std.proofs.Common.{◌∷◌, true}
use Rattle.ss_terms.specs.Forms.{formula_at, formulas_at}
use Rattle.ss_search_clashes.specs.Numbered.{class_of}
use Rattle.ss_search_procedure_rules.specs.Closed.{basics}
use Rattle.ss_search_reached.specs.Looks.{known_at}
use Rattle.ss_search_reached.proofs.Kept.{merged_cons, merged_other, merged_sides}
use Rattle.ss_search_reached.proofs.Holding.{basic_holds}
use Rattle.ss_search_reached.proofs.Trials.{holding_sides, denied_sides}
use Rattle.ss_search_reached.proofs.looking.Looking.stands.Goals as goal

pub returns-in-None-clause-holds : goal.returns-in-None-clause-holds
returns-in-None-clause-holds c = λ e.
    let s = c.args.self.now in
    let b = s.bank.now in
    let k = c.args.congruence.now in
    let classes = s.table.now.classes in
    let known = c.args.f ∷ s.known.now in
    let merged = merged_cons b k.terms k.merges c.args.f s.known.now (merged_other b k.terms k.merges c.args.f (λ x y is. c.sides.ensures.none c.in-None.is true x y is)) c.requires.looking.merged in
    basic_holds (known_at s) (formula_at b c.args.f) c.requires.basic
    (c.what_has_fitting_classes_fits.ensures (class_of b classes) (basics (formulas_at b known))
    (c.what_has_no_clash_fits.ensures k.terms k.merges classes known c.requires.looking.forms c.requires.looking.classes merged c.requires.none))

pub returns-then-not-equality-clause-holds : goal.returns-then-not-equality-clause-holds
returns-then-not-equality-clause-holds c = λ e.
    let s = c.args.self.now in
    let b = s.bank.now in
    let k = c.args.congruence.now in
    let classes = s.table.now.classes in
    let known = c.args.f ∷ s.known.now in
    let merged = merged_cons b k.terms k.merges c.args.f s.known.now (merged_other b k.terms k.merges c.args.f (denied_sides b c.args.f c.in-Some.equality c.in-Some.ensures.some c.if-not-equality.true)) c.requires.looking.merged in
    basic_holds (known_at s) (formula_at b c.args.f) c.requires.basic
    (c.what_has_fitting_classes_fits.ensures (class_of b classes) (basics (formulas_at b known))
    (c.what_has_no_clash_fits.ensures k.terms k.merges classes known c.requires.looking.forms c.requires.looking.classes merged c.requires.none))

pub returns-then-same-clause-holds : goal.returns-then-same-clause-holds
returns-then-same-clause-holds c = λ e.
    let s = c.args.self.now in
    let b = s.bank.now in
    let k = c.args.congruence.now in
    let q = c.in-Some.equality in
    let classes = s.table.now.classes in
    let known = c.args.f ∷ s.known.now in
    let sides = merged_sides b k.terms k.merges c.args.f q.left q.right c.in-Some.ensures.terms.0 c.in-Some.ensures.terms.1 (holding_sides b c.args.f q c.in-Some.ensures.some c.if-not-equality.false) (c.same.ensures.0 c.if-same.true) in
    let merged = merged_cons b k.terms k.merges c.args.f s.known.now sides c.requires.looking.merged in
    basic_holds (known_at s) (formula_at b c.args.f) c.requires.basic
    (c.what_has_fitting_classes_fits.ensures (class_of b classes) (basics (formulas_at b known))
    (c.what_has_no_clash_fits.ensures k.terms k.merges classes known c.requires.looking.forms c.requires.looking.classes merged c.requires.none))

pub trial-requires-clause-equality : goal.trial-requires-clause-equality
trial-requires-clause-equality c = holding_sides c.args.self.now.bank.now c.args.f c.in-Some.equality c.in-Some.ensures.some c.if-not-equality.false
