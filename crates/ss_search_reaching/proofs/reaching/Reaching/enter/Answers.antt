use Rattle.std.proofs.Common.{refl}
use Rattle.ss_search_reaching.specs.declared.reaching.Reaching.{Reaching}
use Rattle.ss_search_reaching.proofs.Learning.{learnt_state, learnt_grows, learnt_shows}
use Rattle.ss_search_reaching.proofs.reaching.Reaching.enter.Goals as goal

pub add_because-requires-clause-new : goal.add_because-requires-clause-new
add_because-requires-clause-new c = c.requires.new

pub returns : goal.returns
returns c =
    let g = c.args.given.now in
    let old = c.args.self.now in
    let e = c.in_ok-add_because.ensures in
    let place = c.place_of-place in
    let new : Reaching = record { reached = c.add_because.new.self; standings = c.push.new.self; places = c.push-2.new.self; path = old.path } in
    record {
      state = learnt_state g old new c.args.f c.args.standing place.result c.requires.state refl place.ensures e.reached e.numbers e.known c.in_ok-push.ensures.items c.in_ok-push-2.ensures.items;
      known = e.known;
      grows = λ occurs. learnt_grows g old new c.args.f c.args.standing place.result c.requires.state refl place.ensures e.reached e.numbers e.known c.in_ok-push.ensures.items c.in_ok-push-2.ensures.items occurs e.remembers;
      classes = e.classes;
      path = record { before = refl; behind = refl; known = refl };
      shows = learnt_shows g old new c.args.f c.args.standing place.result c.requires.state refl place.ensures e.reached e.numbers e.known c.in_ok-push.ensures.items c.in_ok-push-2.ensures.items e.reasons;
    }
