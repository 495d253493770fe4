use Rattle.std.proofs.Common.{length, get_or, refl, ap, arith}
use Rattle.std.specs.Prelude.{slice_get}
use Rattle.std.proofs.lemmas.List.{take_all}
use Rattle.std.proofs.lemmas.Option.{slice_get-get_or}
use Rattle.std.proofs.lemmas.Result.{on_ok_weaker}
use Rattle.ss_terms.specs.Forms.{formula_at, formulas_at}
use Rattle.ss_deriv.specs.Lines.{line_of}
use Rattle.ss_rules_opened.specs.declared.origins.Origin.{Origin}
use Rattle.ss_search_path.specs.Paths.{known_on}
use Rattle.ss_search_path.proofs.Going.{goes_nowhere}
use Rattle.ss_search_path.proofs.StandingFacts.{some_same, if_ok_then}
use Rattle.ss_search_path.proofs.Steps.{has_terms_at}
use Rattle.ss_search_procedure.proofs.Sources.{line_makes}
use Rattle.ss_search_procedure.proofs.stating.stand.Goals as goal

pub returns-in-None-clause-kept : goal.returns-in-None-clause-kept
returns-in-None-clause-kept c = take_all (length c.args.path.now.known.items) c.args.path.now.known.items (omega arith)

pub returns-in-None-clause-goes_on : goal.returns-in-None-clause-goes_on
returns-in-None-clause-goes_on c = λ cs o at h chose.
    let b = c.args.given.now.bank.now in
    goes_nowhere cs (formulas_at b c.args.shown.now.premises.now) (formula_at b c.args.shown.now.goal) b c.args.path.now c.args.path.now (record { before = refl; behind = refl; known = refl })

pub returns-in-None-clause-stands : goal.returns-in-None-clause-stands
returns-in-None-clause-stands c = λ cs o at h chose.
    let g = c.args.given.now in
    let x = get_or g.origins.now c.args.number c.index-given-number.result in
    let read = slice_get-get_or g.origins.now c.args.number c.index-given-number.result c.requires.number in
    let same = some_same (slice_get g.origins.now c.args.number) o x at read in
    record { origin = o; at = at; guarded = c.fact_from.ensures.none c.in-None.is cs o (ap (λ (q : Origin). q.source) same) h }

pub line_from-requires : goal.line_from-requires
line_from-requires c =
    let g = c.args.given.now in
    let x = get_or g.origins.now c.args.number c.index-given-number.result in
    let read = slice_get-get_or g.origins.now c.args.number c.index-given-number.result c.requires.number in
    has_terms_at g.bank.now g.origins.now c.args.number x read c.requires.given.origins

pub returns-in_ok-line-in-Some-clause-goes_on : goal.returns-in_ok-line-in-Some-clause-goes_on
returns-in_ok-line-in-Some-clause-goes_on c =
    let g = c.args.given.now in
    let b = g.bank.now in
    let x = get_or g.origins.now c.args.number c.index-given-number.result in
    let read = slice_get-get_or g.origins.now c.args.number c.index-given-number.result c.requires.number in
    on_ok_weaker c.stand_fact.result (λ go cs o at h chose.
    let same = some_same (slice_get g.origins.now c.args.number) o x at read in
    let says = c.in-Some.ensures.some cs o (ap (λ (q : Origin). q.source) same) h in
    go cs (formulas_at b c.args.shown.now.premises.now) (formula_at b c.args.shown.now.goal) chose
    (line_makes cs (formulas_at b c.args.shown.now.premises.now) (formula_at b c.args.shown.now.goal) (known_on b c.args.path.now) b o x (line_of b c.in_ok-line-in-Some.line) (formula_at b c.in-Some.fact.fact) same c.in_ok-line-in-Some.ensures (says.makes (known_on b c.args.path.now))))
    c.stand_fact.ensures.goes_on

pub returns-in_ok-line-in-Some-clause-stands : goal.returns-in_ok-line-in-Some-clause-stands
returns-in_ok-line-in-Some-clause-stands c =
    let g = c.args.given.now in
    let b = g.bank.now in
    let x = get_or g.origins.now c.args.number c.index-given-number.result in
    let read = slice_get-get_or g.origins.now c.args.number c.index-given-number.result c.requires.number in
    if_ok_then c.stand_fact.result c.stand_fact.ensures.stands (λ s go cs o at h chose.
    let same = some_same (slice_get g.origins.now c.args.number) o x at read in
    let says = c.in-Some.ensures.some cs o (ap (λ (q : Origin). q.source) same) h in
    go cs (formulas_at b c.args.shown.now.premises.now) (formula_at b c.args.shown.now.goal) (formula_at b c.args.f) chose
    (line_makes cs (formulas_at b c.args.shown.now.premises.now) (formula_at b c.args.shown.now.goal) (known_on b c.args.path.now) b o x (line_of b c.in_ok-line-in-Some.line) (formula_at b c.in-Some.fact.fact) same c.in_ok-line-in-Some.ensures (says.makes (known_on b c.args.path.now))) says.opened)
