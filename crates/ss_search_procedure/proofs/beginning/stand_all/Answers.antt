use Rattle.std.proofs.Common.{◌≡◌, ◌+◌, ◌<◌, ◌≤◌, List, length, get_or, Some, refl, ◌∙◌, ap, subst, arith}
use Rattle.std.specs.Prelude.{slice_get, option_map}
use Rattle.std.proofs.lemmas.List.{take_all, length-map, length_push}
use Rattle.std.proofs.lemmas.Option.{slice_get-map, slice_get-get_or}
use Rattle.ss_logic.specs.Formulas.{Formula}
use Rattle.ss_logic_means.proofs.Standing.{get_found}
use Rattle.ss_terms.specs.declared.forms.FormulaId.{FormulaId}
use Rattle.ss_terms.specs.Forms.{formula_at, formulas_at}
use Rattle.ss_search_path.specs.Paths.{known_on}
use Rattle.ss_search_path.proofs.Going.{goes_nowhere, goes_through}
use Rattle.ss_search_path.specs.Standing.{AreStanding}
use Rattle.ss_search_path.proofs.StandingFacts.{kept_through, known_more, longer_chosen}
use Rattle.ss_search_procedure.proofs.Begins.{comes_from, next_stands, none_standing}
use Rattle.ss_search_procedure.proofs.beginning.stand_all.Goals as goal

pub loop-k-init : goal.loop-k-init
loop-k-init c =
    let g = c.args.given.now in
    let b = g.bank.now in
    let p = c.args.path.now in
    record {
      long = ap length c.new-standings.ensures.items;
      kept = take_all (length p.known.items) p.known.items (omega arith);
      goes_on = λ cs ground chose. goes_nowhere cs (formulas_at b c.args.shown.now.premises.now) (formula_at b c.args.shown.now.goal) b p p (record { before = refl; behind = refl; known = refl });
      standing = λ cs ground chose. none_standing cs g (known_on b p) c.new-standings.result.items chose c.new-standings.ensures.items;
    }

pub stand-requires-clause-number : goal.stand-requires-clause-number
stand-requires-clause-number c = omega (arith, c.requires.count, c.loop-k-test.true)

pub loop-k-preserved : goal.loop-k-preserved
loop-k-preserved c =
    let g = c.args.given.now in
    let b = g.bank.now in
    let fs = c.args.formulas.now in
    let k = c.loop-k.k in
    let d : FormulaId = record { 0 = 0 } in
    let first = c.args.path.now in
    let old = c.loop-k.path in
    let new = c.stand.new.path in
    let inv = c.loop-k.invariant in
    let one = c.in_ok-standing.ensures in
    let within : k < length g.origins.now = omega (arith, c.requires.count, c.loop-k-test.true) in
    let o = get_found g.origins.now k within in
    let at : slice_get (formulas_at b fs) k ≡ Some (formula_at b (get_or fs k d)) = slice_get-map (formula_at b) fs k ∙ ap (option_map (formula_at b)) (slice_get-get_or fs k d c.loop-k-test.true) in
    record {
      long = ap length c.in_ok-push.ensures.items ∙ length_push c.loop-k.standings.items c.in_ok-standing.standing ∙ ap (λ n. n + 1) inv.long;
      kept = kept_through first.known.items old.known.items new.known.items inv.kept one.kept;
      goes_on = λ cs ground chose.
          goes_through cs (formulas_at b c.args.shown.now.premises.now) (formula_at b c.args.shown.now.goal) b first old new (inv.goes_on cs ground chose)
          (one.goes_on cs o.0 o.1 (comes_from cs (formulas_at b c.args.shown.now.premises.now) (formula_at b c.args.shown.now.goal) g (formulas_at b fs) ground k (formula_at b (get_or fs k d)) o.0 at o.1) (longer_chosen cs g (known_on b first) (known_on b old) (known_more b first old inv.kept) chose));
      standing = λ cs ground chose.
          next_stands cs g b old new fs k d c.loop-k.standings.items _ c.in_ok-standing.standing c.loop-k-test.true inv.long c.in_ok-push.ensures.items one.kept (inv.standing cs ground chose)
          (one.stands cs o.0 o.1 (comes_from cs (formulas_at b c.args.shown.now.premises.now) (formula_at b c.args.shown.now.goal) g (formulas_at b fs) ground k (formula_at b (get_or fs k d)) o.0 at o.1) (longer_chosen cs g (known_on b first) (known_on b old) (known_more b first old inv.kept) chose));
    }

pub returns-clause-long : goal.returns-clause-long
returns-clause-long c = omega (arith, c.loop-k.invariant.long, c.loop-k-test.false, c.loop-k.auto.k-end)

pub returns-clause-standing : goal.returns-clause-standing
returns-clause-standing c = λ cs ground chose.
    let g = c.args.given.now in
    let b = g.bank.now in
    let fs = formulas_at b c.args.formulas.now in
    let all : length fs ≤ c.loop-k.k = omega (arith, c.loop-k-test.false, length-map c.args.formulas.now (formula_at b)) in
    subst (λ (xs : List Formula). AreStanding cs g (known_on b c.loop-k.path) xs c.loop-k.standings.items) (take_all c.loop-k.k fs all) (c.loop-k.invariant.standing cs ground chose)
