use Rattle.std.proofs.Common.{arith}
use Rattle.ss_terms.specs.declared.forms.FormulaId.{FormulaId}
use Rattle.ss_terms.proofs.Tested.{AreBelow-get}
use Rattle.ss_search_whole_sums.proofs.Basics.{ones_more, places_more, ones_all, places_all}
use Rattle.ss_search_whole_sums.proofs.whole_sums.basics.Goals as goal

pub bounds-places-i : goal.bounds-places-i
bounds-places-i c = omega (arith, c.requires.long)

pub add-requires : goal.add-requires
add-requires c = AreBelow-get _ c.args.known.now c.loop-i.i (record { 0 = 0 }) c.requires.known c.loop-i-test.true

pub loop-i-preserved : goal.loop-i-preserved
loop-i-preserved c =
    let b = c.args.bank.now in
    let fs = c.args.known.now in
    let ps = c.args.places.now in
    let i = c.loop-i.i in
    let d : FormulaId = record { 0 = 0 } in
    let old = c.loop-i.basics in
    let new = c.add.new.basics in
    record {
      formulas = ones_more b fs i d old.formulas.items new.formulas.items c.loop-i-test.true c.loop-i.invariant.formulas c.in_ok-add.ensures.formulas;
      places = places_more b fs ps i d 0 old.places.items new.places.items c.loop-i-test.true c.requires.long c.loop-i.invariant.places c.in_ok-add.ensures.places;
    }

pub returns : goal.returns
returns c =
    let b = c.args.bank.now in
    let fs = c.args.known.now in
    let r = c.loop-i.basics in
    record {
      formulas = ones_all b fs c.loop-i.i r.formulas.items c.loop-i-test.false c.loop-i.invariant.formulas;
      places = places_all b fs c.args.places.now c.loop-i.i r.places.items c.loop-i-test.false c.requires.long c.loop-i.invariant.places;
    }
