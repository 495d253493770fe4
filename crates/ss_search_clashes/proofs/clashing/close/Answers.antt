use Rattle.std.proofs.Common.{◌<◌, sym, subst}
use Rattle.std.proofs.lemmas.Result.{IfOk-weaker}
use Rattle.ss_search_clashes.specs.Cases.{IsAt, AreAt, CloseCase}
use Rattle.ss_search_clashes.proofs.Classes.{formula_inside}
use Rattle.ss_search_clashes.proofs.Placed.{weaker_case, one_at, differing_is_basic, opposed_are_basic, differing_inside, differing_at, opposed_inside, opposed_at, values_at}
use Rattle.ss_search_clashes.proofs.clashing.close.Goals as goal

-- ---- a formula that says that two terms of one class differ

pub fact_at-fact-requires-clause-formula : goal.fact_at-fact-requires-clause-formula
fact_at-fact-requires-clause-formula c = differing_inside c.args.context.now.bank.now c.args.context.now.congruence.now c.args.known.now c.args.clash c.in-Differs.i c.in-Differs.is c.requires.clash

pub fact_at-fact-requires-clause-place : goal.fact_at-fact-requires-clause-place
fact_at-fact-requires-clause-place c =
    subst (λ n. c.in-Differs.i < n) (sym c.requires.places)
    (differing_inside c.args.context.now.bank.now c.args.context.now.congruence.now c.args.known.now c.args.clash c.in-Differs.i c.in-Differs.is c.requires.clash)

pub differing-requires-clause-formula : goal.differing-requires-clause-formula
differing-requires-clause-formula c = formula_inside c.args.context.now.bank.now c.args.known.now c.in-Differs.i c.fact_at-fact.result.formula c.requires.known c.fact_at-fact.ensures.formula

pub differing-requires-clause-differs : goal.differing-requires-clause-differs
differing-requires-clause-differs c =
    differing_at c.args.context.now.bank.now c.args.context.now.congruence.now c.args.known.now c.args.clash c.in-Differs.i c.in-Differs.is c.fact_at-fact.result.formula c.fact_at-fact.ensures.formula c.requires.clash

pub returns-in-Differs : goal.returns-in-Differs
returns-in-Differs c =
    let b = c.args.context.now.bank.now in
    let known = c.args.known.now in
    let places = c.args.places.now in
    let fact = c.fact_at-fact.result in
    let ms = c.args.context.now.congruence.now.merges in
    let basic = differing_is_basic b c.args.context.now.congruence.now fact.formula (differing_at b c.args.context.now.congruence.now known c.args.clash c.in-Differs.i c.in-Differs.is fact.formula c.fact_at-fact.ensures.formula c.requires.clash) in
    IfOk-weaker c.differing.result (λ v. CloseCase b ms c.args.context.now.count (λ cs fs. IsAt cs b fs fact) v.items) (λ v. CloseCase b ms c.args.context.now.count (λ cs fs. AreAt cs b fs known places) v.items)
    (λ v h. weaker_case b ms c.args.context.now.count (λ cs fs. IsAt cs b fs fact) (λ cs fs. AreAt cs b fs known places) v.items
    (λ cs fs are. one_at cs b fs known places c.in-Differs.i fact (record { formula = c.fact_at-fact.ensures.formula; place = c.fact_at-fact.ensures.place }) basic are) h)
    c.differing.ensures

-- ---- opposed formulas

pub fact_at-left-requires-clause-formula : goal.fact_at-left-requires-clause-formula
fact_at-left-requires-clause-formula c = (opposed_inside c.args.context.now.bank.now c.args.context.now.congruence.now c.args.known.now c.args.clash c.in-Opposed.i c.in-Opposed.j c.in-Opposed.is c.requires.clash).0

pub fact_at-left-requires-clause-place : goal.fact_at-left-requires-clause-place
fact_at-left-requires-clause-place c =
    subst (λ n. c.in-Opposed.i < n) (sym c.requires.places)
    (opposed_inside c.args.context.now.bank.now c.args.context.now.congruence.now c.args.known.now c.args.clash c.in-Opposed.i c.in-Opposed.j c.in-Opposed.is c.requires.clash).0

pub fact_at-right-requires-clause-formula : goal.fact_at-right-requires-clause-formula
fact_at-right-requires-clause-formula c = (opposed_inside c.args.context.now.bank.now c.args.context.now.congruence.now c.args.known.now c.args.clash c.in-Opposed.i c.in-Opposed.j c.in-Opposed.is c.requires.clash).1

pub fact_at-right-requires-clause-place : goal.fact_at-right-requires-clause-place
fact_at-right-requires-clause-place c =
    subst (λ n. c.in-Opposed.j < n) (sym c.requires.places)
    (opposed_inside c.args.context.now.bank.now c.args.context.now.congruence.now c.args.known.now c.args.clash c.in-Opposed.i c.in-Opposed.j c.in-Opposed.is c.requires.clash).1

pub opposing-requires-clause-left : goal.opposing-requires-clause-left
opposing-requires-clause-left c = formula_inside c.args.context.now.bank.now c.args.known.now c.in-Opposed.i c.fact_at-left.result.formula c.requires.known c.fact_at-left.ensures.formula

pub opposing-requires-clause-right : goal.opposing-requires-clause-right
opposing-requires-clause-right c = formula_inside c.args.context.now.bank.now c.args.known.now c.in-Opposed.j c.fact_at-right.result.formula c.requires.known c.fact_at-right.ensures.formula

pub opposing-requires-clause-opposed : goal.opposing-requires-clause-opposed
opposing-requires-clause-opposed c =
    opposed_at c.args.context.now.bank.now c.args.context.now.congruence.now c.args.known.now c.args.clash c.in-Opposed.i c.in-Opposed.j c.in-Opposed.is c.fact_at-left.result.formula c.fact_at-right.result.formula
    c.fact_at-left.ensures.formula c.fact_at-right.ensures.formula c.requires.clash

pub returns-in-Opposed : goal.returns-in-Opposed
returns-in-Opposed c =
    let b = c.args.context.now.bank.now in
    let known = c.args.known.now in
    let places = c.args.places.now in
    let left = c.fact_at-left.result in
    let right = c.fact_at-right.result in
    let ms = c.args.context.now.congruence.now.merges in
    let basic = opposed_are_basic b c.args.context.now.congruence.now left.formula right.formula
    (opposed_at b c.args.context.now.congruence.now known c.args.clash c.in-Opposed.i c.in-Opposed.j c.in-Opposed.is left.formula right.formula c.fact_at-left.ensures.formula c.fact_at-right.ensures.formula c.requires.clash) in
    IfOk-weaker c.opposing.result (λ v. CloseCase b ms c.args.context.now.count (λ cs fs. IsAt cs b fs left × IsAt cs b fs right) v.items) (λ v. CloseCase b ms c.args.context.now.count (λ cs fs. AreAt cs b fs known places) v.items)
    (λ v h. weaker_case b ms c.args.context.now.count (λ cs fs. IsAt cs b fs left × IsAt cs b fs right) (λ cs fs. AreAt cs b fs known places) v.items
    (λ cs fs are. (
      one_at cs b fs known places c.in-Opposed.i left (record { formula = c.fact_at-left.ensures.formula; place = c.fact_at-left.ensures.place }) basic.0 are,
      one_at cs b fs known places c.in-Opposed.j right (record { formula = c.fact_at-right.ensures.formula; place = c.fact_at-right.ensures.place }) basic.1 are,
    )) h)
    c.opposing.ensures

-- ---- values

pub equal_values-requires-clause-values : goal.equal_values-requires-clause-values
equal_values-requires-clause-values c = values_at c.args.context.now.bank.now c.args.context.now.congruence.now c.args.known.now c.args.clash c.in-Values.s c.in-Values.t c.in-Values.is c.requires.clash

pub returns-in-Values : goal.returns-in-Values
returns-in-Values c =
    let b = c.args.context.now.bank.now in
    let ms = c.args.context.now.congruence.now.merges in
    IfOk-weaker c.equal_values.result (λ v. CloseCase b ms c.args.context.now.count (λ cs fs. Unit {0}) v.items) (λ v. CloseCase b ms c.args.context.now.count (λ cs fs. AreAt cs b fs c.args.known.now c.args.places.now) v.items)
    (λ v h. weaker_case b ms c.args.context.now.count (λ cs fs. Unit {0}) (λ cs fs. AreAt cs b fs c.args.known.now c.args.places.now) v.items (λ cs fs are. tt) h)
    c.equal_values.ensures
