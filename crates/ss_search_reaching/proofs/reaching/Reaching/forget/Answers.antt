use Rattle.std.proofs.Common.{◌≤◌, length, map, take, refl, sym, ◌∙◌, ap, arith}
use Rattle.std.proofs.lemmas.List.{length-map, length-take-le, take-map}
use Rattle.ss_terms.specs.Forms.{formula_at}
use Rattle.ss_search_reaching.specs.Reaching.{place_of, reached_of}
use Rattle.ss_search_reaching.proofs.reaching.Reaching.forget.Goals as goal

pub returns : goal.returns
returns c =
    let b = c.args.given.now.bank.now in
    let old = c.args.self.now in
    let n = c.args.marks.reached in
    let few = c.requires.few in
    let long = c.requires.state.long in
    let standings : n ≤ length old.standings.items = omega (arith, few, long) in
    let known : n ≤ length (reached_of c.args.given.now old) = omega (arith, few, length-map old.reached.known.items (formula_at b)) in
    record {
      state = record {
        reached = c.undo.ensures.reached;
        long = ap length c.truncate.ensures.items ∙ length-take-le n old.standings.items standings
            ∙ sym (length-take-le n (reached_of c.args.given.now old) known) ∙ ap length (sym c.undo.ensures.known) ∙ length-map c.undo.new.self.known.items (formula_at b);
        places = c.truncate-2.ensures.items ∙ ap (take n) c.requires.state.places ∙ take-map place_of n old.standings.items ∙ ap (map place_of) (sym c.truncate.ensures.items);
      };
      reached = c.undo.ensures.known;
      standings = c.truncate.ensures.items;
      merges = c.undo.ensures.merges;
      counts = c.undo.ensures.counts;
      path = record { before = refl; behind = refl; known = refl };
    }
