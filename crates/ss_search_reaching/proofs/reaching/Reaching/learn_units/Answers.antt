use Rattle.std.proofs.Common.{◌<◌, List, [], ◌∷◌, get_or, length, refl, sym, ◌∙◌, subst, arith}
use Rattle.std.specs.List.{Contains}
use Rattle.std.proofs.lemmas.List.{take_all, length-map, get_or-map}
use Rattle.std.proofs.lemmas.Option.{slice_get-get_or}
use Rattle.ss_logic.specs.Formulas.{Formula}
use Rattle.ss_terms.specs.declared.forms.FormulaId.{FormulaId}
use Rattle.ss_terms.specs.Forms.{formula_at, formulas_at, HasFormula}
use Rattle.ss_terms.proofs.Tested.{AreBelow-get}
use Rattle.ss_search_path.proofs.Going.{goes_nowhere}
use Rattle.ss_logic.specs.Includes.{Includes}
use Rattle.ss_search_reached.specs.Following.{Occur}
use Rattle.ss_search_reached.proofs.Spread.{grown, none_known, next_known, occur_at}
use Rattle.ss_search_reached.proofs.Turns.{no_shorter}
use Rattle.ss_search_path.specs.declared.standing.Standing.{Standing}
use Rattle.ss_search_path.specs.declared.standing.Standing.TheVariants.{Fact}
use Rattle.ss_search_path.specs.Standing.{Stands}
use Rattle.ss_search_reaching.specs.Reaching.{reached_of}
use Rattle.ss_search_reaching.specs.Units.{formulas_in}
use Rattle.ss_search_reaching.proofs.Learning.{nothing_grows, grows_more}
use Rattle.ss_search_reaching.proofs.Spread.{facts_same}
use Rattle.ss_search_reaching.proofs.reaching.Reaching.learn_units.Goals as goal

pub loop-unit-init : goal.loop-unit-init
loop-unit-init c =
    let g = c.args.given.now in
    let r = c.args.self.now in
    record {
      grows = nothing_grows g r c.requires.state;
      known = none_known g.bank.now (reached_of g r) (formulas_in c.args.units.now);
      classes = refl;
      still = λ e. refl;
      path = record { before = refl; behind = refl; known = refl };
      shows = λ cs h all. h;
    }

pub learn-requires-clause-state : goal.learn-requires-clause-state
learn-requires-clause-state c = c.loop-unit.invariant.grows.state

pub learn-requires-clause-formula : goal.learn-requires-clause-formula
learn-requires-clause-formula c =
    let us = c.args.units.now in
    let d : FormulaId = record { 0 = 0 } in
    let within : c.loop-unit.unit-index < length (formulas_in us) = omega (arith, c.loop-unit-test.true, length-map us (λ (u : FormulaId × Standing). u.0)) in
    subst (HasFormula c.args.given.now.bank.now) (get_or-map (λ (u : FormulaId × Standing). u.0) us c.loop-unit.unit-index _ d c.loop-unit-test.true) (AreBelow-get _ (formulas_in us) c.loop-unit.unit-index d c.requires.has within)

pub learn-requires-clause-occurs : goal.learn-requires-clause-occurs
learn-requires-clause-occurs c =
    let b = c.args.given.now.bank.now in
    let us = c.args.units.now in
    let d : FormulaId = record { 0 = 0 } in
    let within : c.loop-unit.unit-index < length (formulas_in us) = omega (arith, c.loop-unit-test.true, length-map us (λ (u : FormulaId × Standing). u.0)) in
    subst (λ (f : FormulaId). Occur (reached_of c.args.given.now c.loop-unit.self) (formula_at b f ∷ [])) (get_or-map (λ (u : FormulaId × Standing). u.0) us c.loop-unit.unit-index _ d c.loop-unit-test.true)
    (occur_at b c.args.self.now.reached c.loop-unit.self.reached c.loop-unit.invariant.grows.reached (formulas_in us) c.loop-unit.unit-index d within c.requires.occur)

pub loop-unit-preserved : goal.loop-unit-preserved
loop-unit-preserved c =
    let g = c.args.given.now in
    let b = g.bank.now in
    let old = c.args.self.now in
    let now = c.loop-unit.self in
    let new = c.learn.new.self in
    let us = c.args.units.now in
    let i = c.loop-unit.invariant in
    let e = c.in_ok-learn.ensures in
    let d : FormulaId = record { 0 = 0 } in
    let within : c.loop-unit.unit-index < length (formulas_in us) = omega (arith, c.loop-unit-test.true, length-map us (λ (u : FormulaId × Standing). u.0)) in
    let z : FormulaId × Standing = (d, Fact 0 0) in
    let u = get_or us c.loop-unit.unit-index z in
    let early = no_shorter b old.reached now.reached i.grows.reached in
    let later = no_shorter b now.reached new.reached e.grows.reached in
    record {
      grows = grows_more g old now new i.grows e.grows;
      known = next_known b (reached_of g new) (formulas_in us) c.loop-unit.unit-index d within (λ x h. grown b now.reached new.reached e.grows.reached x (i.known x h))
          (subst (λ (f : FormulaId). Contains (reached_of g new) (formula_at b f)) (sym (get_or-map (λ (u : FormulaId × Standing). u.0) us c.loop-unit.unit-index _ d c.loop-unit-test.true)) e.known);
      classes = e.classes ∙ i.classes;
      still = λ long. e.still (omega (arith, long, early, later)) ∙ i.still (omega (arith, long, early, later));
      path = record { before = e.path.before ∙ i.path.before; behind = e.path.behind ∙ i.path.behind; known = e.path.known ∙ i.path.known };
      shows = λ cs h all. e.shows cs (i.shows cs h all)
          (subst (λ (fs : List Formula). Stands cs g fs u.1 (formula_at b u.0)) (sym (facts_same g old now i.path)) (all.each c.loop-unit.unit-index u (slice_get-get_or us c.loop-unit.unit-index z c.loop-unit-test.true)));
    }

pub returns-clause-known : goal.returns-clause-known
returns-clause-known c =
    let g = c.args.given.now in
    let us = c.args.units.now in
    subst (λ gs. Includes (reached_of g c.loop-unit.self) (formulas_at g.bank.now gs))
    (take_all c.loop-unit.unit-index (formulas_in us) (omega (arith, c.loop-unit-test.false, length-map us (λ (u : FormulaId × Standing). u.0)))) c.loop-unit.invariant.known

pub returns-clause-reaches : goal.returns-clause-reaches
returns-clause-reaches c = λ cs premises goal h all. record {
  shows = c.loop-unit.invariant.shows cs h all;
  goes_on = goes_nowhere cs premises goal c.args.given.now.bank.now c.args.self.now.path c.loop-unit.self.path c.loop-unit.invariant.path;
}
