use Rattle.std.proofs.Common.{ap, get_or, refl, sym, ◌∙◌, subst, List, arith}
use Rattle.std.specs.Prelude.{slice_get}
use Rattle.std.proofs.lemmas.List.{take_all}
use Rattle.std.proofs.lemmas.Option.{slice_get-get_or}
use Rattle.ss_terms.specs.declared.forms.FormulaId.{FormulaId}
use Rattle.ss_terms.specs.Forms.{Forms, formula_at, HasFormula}
use Rattle.ss_terms.proofs.Tested.{AreBelow-get}
use Rattle.ss_equality_rules.specs.declared.Merge.{Merge}
use Rattle.ss_equality_rules.specs.Equal.{Equations}
use Rattle.ss_search_reached.specs.Following.{AreUnits}
use Rattle.ss_search_reached.proofs.Fronts.{front_itself, front_trans}
use Rattle.ss_search_reached.proofs.Holding.{none_holding}
use Rattle.ss_search_reached.proofs.Branches.{no_units}
use Rattle.ss_search_reaching.proofs.Resolving.{beside_again}
use Rattle.ss_search_reaching.proofs.Turning.{no_units_yet, turn_next, turn_ends, next_units}
use Rattle.ss_search_path.specs.declared.standing.Standing.TheVariants.{Fact}
use Rattle.ss_search_reaching.specs.Refuting.{bank_of}
use Rattle.ss_search_reaching.specs.Units.{formulas_in, UnitStanding}
use Rattle.ss_search_reaching.specs.Turns.{IsAdded}
use Rattle.ss_search_reaching.proofs.branches.Beside.units.Goals as goal

pub loop-at-init : goal.loop-at-init
loop-at-init c =
    let p = c.args.self.now in
    record {
      congruence = refl;
      outcomes = none_holding p.looking c.new-outcomes.result c.new-outcomes.ensures;
      kept = front_itself c.args.path.now.known.items;
      units = no_units p.looking (formulas_in c.new-units.result.items) (ap formulas_in c.new-units.ensures.items);
      leads = no_units_yet p c.args.congruence.now.merges c.args.path.now c.args.standings.now c.new-units.result c.new-units.ensures.items;
    }

pub unit_of-requires-clause-beside : goal.unit_of-requires-clause-beside
unit_of-requires-clause-beside c = beside_again c.args.self.now c.args.congruence.now c.loop-at.congruence c.loop-at.invariant.congruence c.requires.beside

pub unit_of-requires-clause-formula : goal.unit_of-requires-clause-formula
unit_of-requires-clause-formula c =
    let p = c.args.self.now in
    let d : FormulaId = record { 0 = 0 } in
    subst (λ (b : Forms). HasFormula b (get_or p.looking.known.now c.loop-at.at d)) c.requires.beside.bank (AreBelow-get _ p.looking.known.now c.loop-at.at d c.requires.beside.looking.has c.loop-at-test.true)

pub loop-at-preserved : goal.loop-at-preserved
loop-at-preserved c =
    let p = c.args.self.now in
    let ms = c.args.congruence.now.merges in
    let old = c.args.path.now in
    let now = c.loop-at.path in
    let new = c.unit_of.new.path in
    let i = c.loop-at.invariant in
    let e = c.in_ok-resolved.ensures in
    let d : FormulaId = record { 0 = 0 } in
    let at = c.loop-at.at in
    let z = Fact 0 0 in
    let u = c.in_ok-resolved.resolved in
    let same = ap (λ (k : Equations). k.merges) i.congruence in
    let here = slice_get-get_or p.looking.known.now at d c.loop-at-test.true in
    let f_at = ap (λ (fs : List FormulaId). slice_get fs at) (sym c.requires.beside.known) ∙ here in
    let s_at = slice_get-get_or c.args.standings.now at z (omega (arith, c.loop-at-test.true, c.requires.long)) in
    let added = subst (IsAdded u c.loop-at.units.items c.add.new.units.items) c.in-None.is c.in_ok-lines.ensures in
    let one = subst (λ (ks : List Merge). UnitStanding p ks now (get_or c.args.standings.now at z) (formula_at (bank_of p.refuting) (get_or p.looking.known.now at d)) new u) same e.leads in
    record {
      congruence = e.congruence ∙ i.congruence;
      outcomes = e.outcomes;
      kept = front_trans old.known.items now.known.items new.known.items i.kept e.kept;
      units = next_units p.looking at d c.loop-at.units.items c.add.new.units.items u c.loop-at-test.true i.units e.branch added;
      leads = turn_next p ms c.args.standings.now old now new c.loop-at.units i.kept e.kept at (get_or p.looking.known.now at d) (get_or c.args.standings.now at z) f_at s_at i.leads u c.add.new.units added one;
    }

pub returns-in-Some : goal.returns-in-Some
returns-in-Some c =
    let p = c.args.self.now in
    let ms = c.args.congruence.now.merges in
    let old = c.args.path.now in
    let now = c.loop-at.path in
    let new = c.unit_of.new.path in
    let i = c.loop-at.invariant in
    let e = c.in_ok-resolved.ensures in
    let d : FormulaId = record { 0 = 0 } in
    let at = c.loop-at.at in
    let z = Fact 0 0 in
    let u = c.in_ok-resolved.resolved in
    let same = ap (λ (k : Equations). k.merges) i.congruence in
    let here = slice_get-get_or p.looking.known.now at d c.loop-at-test.true in
    let f_at = ap (λ (fs : List FormulaId). slice_get fs at) (sym c.requires.beside.known) ∙ here in
    let s_at = slice_get-get_or c.args.standings.now at z (omega (arith, c.loop-at-test.true, c.requires.long)) in
    let added = subst (IsAdded u c.loop-at.units.items c.add.new.units.items) c.in-Some.is c.in_ok-lines.ensures in
    let one = subst (λ (ks : List Merge). UnitStanding p ks now (get_or c.args.standings.now at z) (formula_at (bank_of p.refuting) (get_or p.looking.known.now at d)) new u) same e.leads in
    record {
      congruence = e.congruence ∙ i.congruence;
      kept = front_trans old.known.items now.known.items new.known.items i.kept e.kept;
      follows = tt;
      leads = turn_ends p ms c.args.standings.now old now new c.loop-at.units i.kept e.kept at (get_or p.looking.known.now at d) (get_or c.args.standings.now at z) f_at s_at i.leads u c.add.new.units.items c.in-Some.lines added one;
    }

pub returns-clause-follows : goal.returns-clause-follows
returns-clause-follows c =
    let s = c.args.self.now.looking in
    subst (λ fs. AreUnits s.bank.now s.known.now fs (formulas_in c.loop-at.units.items)) (take_all c.loop-at.at s.known.now c.loop-at-test.false) c.loop-at.invariant.units
