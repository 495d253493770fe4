use Rattle.std.proofs.Common.{refl}
use Rattle.ss_search_reaching.specs.declared.reaching.Reaching.{Reaching}
use Rattle.ss_search_reaching.proofs.Learning.{new_state, new_shows}
use Rattle.ss_search_reaching.proofs.reaching.Reaching.new.Goals as goal

pub returns : goal.returns
returns c =
    let g = c.args.given.now in
    let e = c.in_ok-reached.ensures in
    let r : Reaching = record { reached = c.in_ok-reached.reached; standings = c.new-standings.result; places = c.new-places.result; path = c.args.path } in
    record {
      state = new_state g r e.known c.new-standings.ensures.items e.reached c.new-places.ensures.items;
      nothing = e.known;
      path = record { before = refl; behind = refl; known = refl };
      shows = new_shows g r e.known c.new-standings.ensures.items e.names;
    }
