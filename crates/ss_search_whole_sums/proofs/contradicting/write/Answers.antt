use Rattle.std.proofs.Common.{◌≡◌, ◌+◌, ℕ, true, List, [], length, subst, arith, rules}
use Rattle.std.proofs.lemmas.Grind.{common_steps}
use Rattle.ss_core.specs.Tree.{ClassTree}
use Rattle.ss_logic.specs.Terms.{is_well_sorted}
use Rattle.ss_logic.specs.Formulas.{Formula}
use Rattle.ss_terms.specs.Forms.{term_at}
use Rattle.ss_linear.specs.Contradictions.{equality_at}
use Rattle.ss_search_clashes.specs.Said.{MakeKnown}
use Rattle.ss_search_whole_sums.proofs.contradicting.write.Goals as goal

pub returns : goal.returns
returns c =
    let b = c.args.context.now.bank.now in
    let shown = c.in_ok-shown.shown in
    let count : c.in_ok-count.count ≡ c.args.context.now.count + length c.args.written.now.lines.items = first_of (search rules, grind (arith, common_steps)) in
    record {
      more = shown.lines.items;
      place = shown.place;
      shown = subst (λ (n : ℕ). MakeKnown b c.args.context.now.congruence.now.merges n (λ (cs : List ClassTree) (fs : List Formula). is_well_sorted cs [] (term_at b c.args.x) ≡ true) (equality_at b (c.args.x, c.args.y)) shown.lines.items shown.place) count c.in_ok-shown.ensures;
      lines = c.in_ok-append.ensures.items;
      places = c.in_ok-push.ensures.items;
    }
