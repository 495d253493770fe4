use Rattle.std.proofs.Common.{◌≤◌, ◌<◌, length, arith}
use Rattle.std.proofs.lemmas.List.{length-map}
use Rattle.std.proofs.lemmas.Option.{slice_get-get_or}
use Rattle.ss_terms.specs.declared.forms.FormulaId.{FormulaId}
use Rattle.ss_terms.specs.Forms.{formula_at}
use Rattle.ss_search_reached.proofs.Marks.{few_known}
use Rattle.ss_search_reached.proofs.Spread.{none_spread, spread_next, spread_all}
use Rattle.ss_search_reaching.specs.Reaching.{reached_of}
use Rattle.ss_search_reaching.proofs.Learning.{nothing_grows, grows_more, reaches_itself, reaches_more}
use Rattle.ss_search_reaching.proofs.reaching.Reaching.spread.Goals as goal

pub loop-at-init : goal.loop-at-init
loop-at-init c =
    let g = c.args.given.now in
    let r = c.args.self.now in
    record { grows = nothing_grows g r c.requires.state; before = none_spread (reached_of g r); reaches = reaches_itself g r }

pub spread_one-requires-clause-state : goal.spread_one-requires-clause-state
spread_one-requires-clause-state c = c.loop-at.invariant.grows.state

pub spread_one-requires-clause-at : goal.spread_one-requires-clause-at
spread_one-requires-clause-at c = omega (arith, c.loop-at-test.true, c.len.ensures, c.loop-at.self.reached.known.ok.0)

pub loop-at-preserved : goal.loop-at-preserved
loop-at-preserved c =
    let g = c.args.given.now in
    let b = g.bank.now in
    let old = c.loop-at.self in
    let new = c.spread_one.new.self in
    let e = c.in_ok-spread_one.ensures in
    let d : FormulaId = record { 0 = 0 } in
    let here : c.loop-at.at < length old.reached.known.items = omega (arith, c.loop-at-test.true, c.len.ensures, old.reached.known.ok.0) in
    let same = length-map old.reached.known.items (formula_at b) in
    record {
      grows = grows_more g c.args.self.now old new c.loop-at.invariant.grows e.grows;
      before = spread_next b old.reached.known.items new.reached.known.items c.loop-at.at d here (omega (arith, here, same)) e.grows.reached.front c.loop-at.invariant.before
          (e.spread _ (slice_get-get_or old.reached.known.items c.loop-at.at d here));
      reaches = reaches_more g c.args.self.now old new c.loop-at.invariant.reaches e.reaches;
    }

pub loop-at-smaller : goal.loop-at-smaller
loop-at-smaller c =
    let old = c.loop-at.self.reached.known in
    let r = c.loop-at.invariant.grows.state.reached in
    let few = few_known c.args.given.now.bank.now old.items r.has r.once in
    let here : c.loop-at.at < length old.items = omega (arith, c.loop-at-test.true, c.len.ensures, old.ok.0) in
    omega (arith, few, here)

pub returns-clause-spread : goal.returns-clause-spread
returns-clause-spread c =
    let b = c.args.given.now.bank.now in
    let known = c.loop-at.self.reached.known in
    let all : length known.items ≤ c.loop-at.at = omega (arith, c.loop-at-test.false, c.len.ensures, known.ok.0) in
    let same = length-map known.items (formula_at b) in
    spread_all b known.items c.loop-at.at (omega (arith, all, same)) c.loop-at.invariant.before
