use Rattle.std.proofs.Common.{◌<◌, sym, subst}
use Rattle.std.proofs.lemmas.Result.{IfOk-weaker}
use Rattle.ss_search_clashes.specs.Cases.{IsAt, AreAt, CloseCase}
use Rattle.ss_search_clashes.proofs.Classes.{formula_inside}
use Rattle.ss_search_clashes.proofs.Placed.{weaker_case, one_at, opposed_are_basic, against_differs, against_inside, against_at}
use Rattle.ss_search_clashes.proofs.clashing.close_against.Goals as goal

-- ---- terms of one class

pub differing-requires-clause-differs : goal.differing-requires-clause-differs
differing-requires-clause-differs c = against_differs c.args.context.now.bank.now c.args.context.now.congruence.now c.args.known.now c.args.fact.formula c.args.against c.in-Classes.is c.requires.against

pub returns-in-Classes : goal.returns-in-Classes
returns-in-Classes c =
    let b = c.args.context.now.bank.now in
    let ms = c.args.context.now.congruence.now.merges in
    let known = c.args.known.now in
    let places = c.args.places.now in
    IfOk-weaker c.differing.result (λ v. CloseCase b ms c.args.context.now.count (λ cs fs. IsAt cs b fs c.args.fact) v.items) (λ v. CloseCase b ms c.args.context.now.count (λ cs fs. AreAt cs b fs known places × IsAt cs b fs c.args.fact) v.items)
    (λ v h. weaker_case b ms c.args.context.now.count (λ cs fs. IsAt cs b fs c.args.fact) (λ cs fs. AreAt cs b fs known places × IsAt cs b fs c.args.fact) v.items (λ cs fs are. are.1) h)
    c.differing.ensures

-- ---- a known formula

pub fact_at-other-requires-clause-formula : goal.fact_at-other-requires-clause-formula
fact_at-other-requires-clause-formula c = against_inside c.args.context.now.bank.now c.args.context.now.congruence.now c.args.known.now c.args.fact.formula c.args.against c.in-Known.i c.in-Known.is c.requires.against

pub fact_at-other-requires-clause-place : goal.fact_at-other-requires-clause-place
fact_at-other-requires-clause-place c =
    subst (λ n. c.in-Known.i < n) (sym c.requires.places)
    (against_inside c.args.context.now.bank.now c.args.context.now.congruence.now c.args.known.now c.args.fact.formula c.args.against c.in-Known.i c.in-Known.is c.requires.against)

pub opposing-requires-clause-right : goal.opposing-requires-clause-right
opposing-requires-clause-right c = formula_inside c.args.context.now.bank.now c.args.known.now c.in-Known.i c.fact_at-other.result.formula c.requires.known c.fact_at-other.ensures.formula

pub opposing-requires-clause-opposed : goal.opposing-requires-clause-opposed
opposing-requires-clause-opposed c =
    against_at c.args.context.now.bank.now c.args.context.now.congruence.now c.args.known.now c.args.fact.formula c.args.against c.in-Known.i c.in-Known.is c.fact_at-other.result.formula c.fact_at-other.ensures.formula c.requires.against

pub returns-in-Known : goal.returns-in-Known
returns-in-Known c =
    let b = c.args.context.now.bank.now in
    let ms = c.args.context.now.congruence.now.merges in
    let known = c.args.known.now in
    let places = c.args.places.now in
    let other = c.fact_at-other.result in
    let basic = opposed_are_basic b c.args.context.now.congruence.now c.args.fact.formula other.formula
    (against_at b c.args.context.now.congruence.now known c.args.fact.formula c.args.against c.in-Known.i c.in-Known.is other.formula c.fact_at-other.ensures.formula c.requires.against) in
    IfOk-weaker c.opposing.result (λ v. CloseCase b ms c.args.context.now.count (λ cs fs. IsAt cs b fs c.args.fact × IsAt cs b fs other) v.items) (λ v. CloseCase b ms c.args.context.now.count (λ cs fs. AreAt cs b fs known places × IsAt cs b fs c.args.fact) v.items)
    (λ v h. weaker_case b ms c.args.context.now.count (λ cs fs. IsAt cs b fs c.args.fact × IsAt cs b fs other) (λ cs fs. AreAt cs b fs known places × IsAt cs b fs c.args.fact) v.items
    (λ cs fs are. (are.1, one_at cs b fs known places c.in-Known.i other (record { formula = c.fact_at-other.ensures.formula; place = c.fact_at-other.ensures.place }) basic.1 are.0)) h)
    c.opposing.ensures
