use Rattle.std.proofs.Common.{ℕ, List, Option, [], length, sym, subst}
use Rattle.ss_logic_means.specs.Steps as tree
use Rattle.ss_terms.specs.Forms.{formula_at}
use Rattle.ss_deriv.specs.declared.line.Line.TheVariants.{Swap}
use Rattle.ss_search_clashes.specs.Ways.{AreEnds}
use Rattle.ss_search_clashes.specs.Placed.{chains, AddsChains}
use Rattle.ss_search_clashes.proofs.Making.{all_pairs, makes_literal}
use Rattle.ss_search_clashes.proofs.Written.{swap_line, line_pushed}
use Rattle.ss_search_clashes.proofs.equating.swap.Goals as goal

pub prepare-requires-clause-paired : goal.prepare-requires-clause-paired
prepare-requires-clause-paired c = all_pairs c.args.context.now.congruence.now c.joins-joins.result.now c.args.xs.now c.args.ys.now c.joins-joins.ensures.same c.requires.equal

pub chain_arguments-requires-clause-ends : goal.chain_arguments-requires-clause-ends
chain_arguments-requires-clause-ends c = subst (λ (es : List (Option ℕ)). AreEnds c.joins-joins.result.now es) (sym c.deref.ensures.value) c.in_ok-prepared.ensures.ends_are

pub chain_arguments-requires-clause-paired : goal.chain_arguments-requires-clause-paired
chain_arguments-requires-clause-paired c = all_pairs c.args.context.now.congruence.now c.joins-joins.result.now c.args.xs.now c.args.ys.now c.joins-joins.ensures.same c.requires.equal

pub returns : goal.returns
returns c =
    let b = c.args.context.now.bank.now in
    makes_literal c.args.context.now.bank.now c.numbers_are_apart.ensures c.args.context.now.congruence.now.terms c.requires.forms c.args.context.now.congruence.now.merges (length c.args.context.now.congruence.now.terms) c.joins-joins.result.now c.joins-joins.ensures.log c.joins-joins.ensures.caused c.args.context.now.count c.args.xs.now c.args.ys.now (all_pairs c.args.context.now.congruence.now c.joins-joins.result.now c.args.xs.now c.args.ys.now c.joins-joins.ensures.same c.requires.equal) c.in_ok-prepared.prepared.ends.items c.in_ok-prepared.prepared.places.items c.in_ok-prepared.prepared.lines.items
    c.in_ok-prepared.ensures c.args.literal c.args.of c.chain_arguments.new.lines.items c.add.new.lines.items c.in_ok-equalities.equalities.items c.in_ok-place.place
    (subst (λ (ps : List ℕ). AddsChains b (chains b c.joins-joins.result.now ps c.args.xs.now c.args.ys.now) c.args.context.now.count c.in_ok-prepared.prepared.lines.items c.chain_arguments.new.lines.items [] c.in_ok-equalities.equalities.items) c.deref-2.ensures.value
    c.in_ok-equalities.ensures)
    (line_pushed b c.chain_arguments.new.lines.items c.add.new.lines.items (Swap c.args.of c.args.literal c.in_ok-equalities.equalities) (tree.Swap c.args.of (formula_at b c.args.literal) c.in_ok-equalities.equalities.items) c.in_ok-place.ensures.added
    (swap_line b c.args.of c.args.literal c.in_ok-equalities.equalities c.requires.literal))
    c.in_ok-place.ensures.place
