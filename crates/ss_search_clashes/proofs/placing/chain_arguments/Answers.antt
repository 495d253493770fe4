use Rattle.std.proofs.Common.{ℕ, List, [], get_or, refl, sym, subst, arith}
use Rattle.std.proofs.lemmas.Option.{slice_get-get_or}
use Rattle.ss_terms.specs.Bank.{number}
use Rattle.ss_terms.proofs.Tested.{AreTermsBelow-get}
use Rattle.ss_search_clashes.specs.Placed.{AddsChains}
use Rattle.ss_search_clashes.proofs.Places.{adds_none, adds_next, adds_all}
use Rattle.ss_search_clashes.proofs.placing.chain_arguments.Goals as goal

pub loop-i-init : goal.loop-i-init
loop-i-init c =
    subst (λ (places : List ℕ). AddsChains c.args.context.now.bank.now [] c.args.context.now.known c.args.lines.now.items c.args.lines.now.items [] places) (sym c.new-equalities.ensures.items)
    (adds_none c.args.context.now.bank.now c.args.context.now.known c.args.lines.now.items c.args.lines.now.items [] refl)

pub bounds-ys-i : goal.bounds-ys-i
bounds-ys-i c = omega (arith, c.requires.paired.long)

pub chain_pair-requires-clause-left : goal.chain_pair-requires-clause-left
chain_pair-requires-clause-left c = AreTermsBelow-get _ c.args.xs.now c.loop-i.i (number 0) c.requires.left (omega arith)

pub chain_pair-requires-clause-right : goal.chain_pair-requires-clause-right
chain_pair-requires-clause-right c = AreTermsBelow-get _ c.args.ys.now c.loop-i.i (number 0) c.requires.right (omega (arith, c.requires.paired.long))

pub chain_pair-requires-clause-same : goal.chain_pair-requires-clause-same
chain_pair-requires-clause-same c =
    let i = c.loop-i.i in
    let left = slice_get-get_or c.args.xs.now i (number 0) (omega arith) in
    let right = slice_get-get_or c.args.ys.now i (number 0) (omega (arith, c.requires.paired.long)) in
    c.requires.paired.same i (get_or c.args.xs.now i (number 0)) (get_or c.args.ys.now i (number 0)) left right

pub loop-i-preserved : goal.loop-i-preserved
loop-i-preserved c =
    let i = c.loop-i.i in
    let left = slice_get-get_or c.args.xs.now i (number 0) (omega arith) in
    let right = slice_get-get_or c.args.ys.now i (number 0) (omega (arith, c.requires.paired.long)) in
    adds_next c.args.context.now.bank.now c.args.context.now.joins.now c.args.places.now c.args.xs.now c.args.ys.now i (get_or c.args.xs.now i (number 0)) (get_or c.args.ys.now i (number 0)) c.args.context.now.known
    c.args.lines.now.items c.loop-i.lines.items c.chain_pair.new.lines.items [] c.loop-i.equalities.items c.chain_pair.new.equalities.items left right c.loop-i.invariant c.in_ok-chain_pair.ensures

pub returns : goal.returns
returns c = adds_all c.args.context.now.bank.now c.args.context.now.joins.now c.args.places.now c.args.xs.now c.args.ys.now c.loop-i.i c.args.context.now.known c.args.lines.now.items c.loop-i.lines.items [] c.loop-i.equalities.items (omega arith) c.requires.paired.long c.loop-i.invariant
