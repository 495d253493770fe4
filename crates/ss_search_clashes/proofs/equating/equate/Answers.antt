use Rattle.std.proofs.Common.{◌≡◌, ℕ, List, Option, ◌∷◌, [], ◌++◌, length, sym, subst}
use Rattle.ss_logic_means.specs.Steps as tree
use Rattle.ss_terms.specs.Forms.{term_at}
use Rattle.ss_deriv.specs.Lines.{lines_of}
use Rattle.ss_search_clashes.specs.Ways.{way, AreEnds}
use Rattle.ss_search_clashes.specs.Placed.{places_of}
use Rattle.ss_search_clashes.proofs.Making.{one_pair, makes_equality}
use Rattle.ss_search_clashes.proofs.equating.equate.Goals as goal

pub prepare-requires-clause-paired : goal.prepare-requires-clause-paired
prepare-requires-clause-paired c = one_pair c.joins-joins.result.now c.args.x c.args.y (c.joins-joins.ensures.same c.args.x.0 c.args.y.0 c.requires.equal)

pub chain-requires-clause-ends : goal.chain-requires-clause-ends
chain-requires-clause-ends c = subst (λ (es : List (Option ℕ)). AreEnds c.joins-joins.result.now es) (sym c.deref.ensures.value) c.in_ok-prepared.ensures.ends_are

pub chain-requires-clause-same : goal.chain-requires-clause-same
chain-requires-clause-same c = c.joins-joins.ensures.same c.args.x.0 c.args.y.0 c.requires.equal

pub returns : goal.returns
returns c =
    let b = c.args.context.now.bank.now in
    makes_equality c.args.context.now.bank.now c.numbers_are_apart.ensures c.args.context.now.congruence.now.terms c.requires.forms c.args.context.now.congruence.now.merges (length c.args.context.now.congruence.now.terms) c.joins-joins.result.now c.joins-joins.ensures.log c.joins-joins.ensures.caused c.args.context.now.count c.args.x c.args.y (c.joins-joins.ensures.same c.args.x.0 c.args.y.0 c.requires.equal) c.in_ok-prepared.prepared.ends.items c.in_ok-prepared.prepared.places.items c.in_ok-prepared.prepared.lines.items
    c.in_ok-prepared.ensures c.chain.new.lines.items c.in_ok-place.place
    (subst (λ (ps : List ℕ). lines_of b c.chain.new.lines.items ≡ lines_of b c.in_ok-prepared.prepared.lines.items ++ tree.Chain (term_at b c.args.x) (term_at b c.args.y) (places_of ps (way c.joins-joins.result.now c.args.x.0 c.args.y.0)) ∷ []) c.deref-2.ensures.value
    c.in_ok-place.ensures.added)
    c.in_ok-place.ensures.place
