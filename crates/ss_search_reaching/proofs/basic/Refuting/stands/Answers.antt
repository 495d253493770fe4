use Rattle.std.proofs.Common.{◌∷◌, true}
use Rattle.ss_terms.specs.Forms.{formula_at, formulas_at}
use Rattle.ss_search_clashes.specs.Numbered.{class_of}
use Rattle.ss_search_procedure_rules.specs.Closed.{basics}
use Rattle.ss_search_reached.proofs.Kept.{merged_cons, merged_other, merged_sides}
use Rattle.ss_search_reached.proofs.Holding.{basic_holds}
use Rattle.ss_search_reached.proofs.Trials.{holding_sides, denied_sides}
use Rattle.ss_search_reaching.specs.Refuting.{bank_of, known_beside}
use Rattle.ss_search_reaching.proofs.basic.Refuting.stands.Goals as goal

pub returns-in-None-clause-none : goal.returns-in-None-clause-none
returns-in-None-clause-none c = λ e.
    let s = c.args.self.now in
    let b = bank_of s in
    let k = c.args.congruence.now in
    let f = c.args.fact.formula in
    let classes = s.table.now.classes in
    let known = f ∷ s.known.now in
    let merged = merged_cons b k.terms k.merges f s.known.now (merged_other b k.terms k.merges f (λ x y is. c.sides.ensures.none c.in-None.is true x y is)) c.requires.refuting.merged in
    basic_holds (known_beside s) (formula_at b f) c.requires.basic
    (c.what_has_fitting_classes_fits.ensures (class_of b classes) (basics (formulas_at b known))
    (c.what_has_no_clash_fits.ensures k.terms k.merges classes known c.requires.refuting.forms c.requires.refuting.classes merged c.requires.none))

pub returns-then-not-equality-clause-none : goal.returns-then-not-equality-clause-none
returns-then-not-equality-clause-none c = λ e.
    let s = c.args.self.now in
    let b = bank_of s in
    let k = c.args.congruence.now in
    let f = c.args.fact.formula in
    let classes = s.table.now.classes in
    let known = f ∷ s.known.now in
    let merged = merged_cons b k.terms k.merges f s.known.now (merged_other b k.terms k.merges f (denied_sides b f c.in-Some.equality c.in-Some.ensures.some c.if-not-equality.true)) c.requires.refuting.merged in
    basic_holds (known_beside s) (formula_at b f) c.requires.basic
    (c.what_has_fitting_classes_fits.ensures (class_of b classes) (basics (formulas_at b known))
    (c.what_has_no_clash_fits.ensures k.terms k.merges classes known c.requires.refuting.forms c.requires.refuting.classes merged c.requires.none))

pub returns-then-same-clause-none : goal.returns-then-same-clause-none
returns-then-same-clause-none c = λ e.
    let s = c.args.self.now in
    let b = bank_of s in
    let k = c.args.congruence.now in
    let f = c.args.fact.formula in
    let q = c.in-Some.equality in
    let classes = s.table.now.classes in
    let known = f ∷ s.known.now in
    let sides = merged_sides b k.terms k.merges f q.left q.right c.in-Some.ensures.terms.0 c.in-Some.ensures.terms.1 (holding_sides b f q c.in-Some.ensures.some c.if-not-equality.false) (c.same.ensures.0 c.if-same.true) in
    let merged = merged_cons b k.terms k.merges f s.known.now sides c.requires.refuting.merged in
    basic_holds (known_beside s) (formula_at b f) c.requires.basic
    (c.what_has_fitting_classes_fits.ensures (class_of b classes) (basics (formulas_at b known))
    (c.what_has_no_clash_fits.ensures k.terms k.merges classes known c.requires.refuting.forms c.requires.refuting.classes merged c.requires.none))

pub trial-requires-clause-equality : goal.trial-requires-clause-equality
trial-requires-clause-equality c = holding_sides (bank_of c.args.self.now) c.args.fact.formula c.in-Some.equality c.in-Some.ensures.some c.if-not-equality.false
