use Rattle.std.proofs.Common.{◌≡◌, ◌<◌, List, length, get_or, Some, refl, sym, ◌∙◌, ap, subst, arith}
use Rattle.std.specs.Prelude.{slice_get, option_map}
use Rattle.std.proofs.lemmas.Option.{slice_get-map, slice_get-get_or}
use Rattle.ss_logic.specs.Formulas.{Formula}
use Rattle.ss_terms.specs.declared.forms.FormulaId.{FormulaId}
use Rattle.ss_terms.specs.Forms.{formula_at}
use Rattle.ss_search_path.specs.declared.standing.Standing.{Standing}
use Rattle.ss_search_path.specs.declared.standing.Standing.TheVariants.{Fact}
use Rattle.ss_search_path.specs.Standing.{Stands}
use Rattle.ss_search_reaching.proofs.Spread.{facts_same}
use Rattle.ss_search_procedure.specs.Decisions.{bank_of, settled_ones}
use Rattle.ss_search_procedure.proofs.GroundBegun.{all_reached}
use Rattle.ss_search_procedure.proofs.setting.Settling.reach_all.Goals as goal

pub bounds-standings-k : goal.bounds-standings-k
bounds-standings-k c = omega (arith, c.requires.count, c.loop-k-test.true)

pub loop-k-init : goal.loop-k-init
loop-k-init c = record { first = c.requires.first; path = record { before = refl; behind = refl; known = refl }; shown = λ cs h all. h }

pub loop-k-preserved : goal.loop-k-preserved
loop-k-preserved c =
    let s = c.args.self.now in
    let b = bank_of s in
    let old = c.args.reaching.now in
    let now = c.loop-k.reaching in
    let fs = s.formulas.now in
    let ss = c.args.standings.now in
    let k = c.loop-k.k in
    let d : FormulaId = record { 0 = 0 } in
    let z : Standing = Fact 0 0 in
    let inv = c.loop-k.invariant in
    let one = c.in_ok-reach_next.ensures in
    let within : k < length ss = omega (arith, c.requires.count, c.loop-k-test.true) in
    let at : slice_get (settled_ones s) k ≡ Some (formula_at b (get_or fs k d)) = slice_get-map (formula_at b) fs k ∙ ap (option_map (formula_at b)) (slice_get-get_or fs k d c.loop-k-test.true) in
    record {
      first = one.first;
      path = record { before = one.path.before ∙ inv.path.before; behind = one.path.behind ∙ inv.path.behind; known = one.path.known ∙ inv.path.known };
      shown = λ cs h all. one.shown cs (formula_at b (get_or fs k d)) at (inv.shown cs h all)
          (subst (λ (facts : List Formula). Stands cs s.given facts (get_or ss k z) (formula_at b (get_or fs k d))) (sym (facts_same s.given old now inv.path)) (all.each k (formula_at b (get_or fs k d)) (get_or ss k z) at (slice_get-get_or ss k z within)));
    }

pub returns-clause-state : goal.returns-clause-state
returns-clause-state c = all_reached c.args.self.now c.requires.setting c.loop-k.k c.loop-k.reaching (omega (arith, c.loop-k-test.false)) c.loop-k.invariant.first
