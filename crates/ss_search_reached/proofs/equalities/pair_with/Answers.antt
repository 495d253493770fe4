use Rattle.std.proofs.Common.{◌∷◌, [], take, get_or, refl, inr, subst}
use Rattle.std.proofs.lemmas.List.{take_all}
use Rattle.ss_terms.specs.declared.forms.TermId.{TermId}
use Rattle.ss_search_reached.specs.Groups.{ArePaired}
use Rattle.ss_search_reached.proofs.Groups.{nothing_paired, more_right}
use Rattle.ss_search_reached.proofs.equalities.pair_with.Goals as goal

pub loop-t-init : goal.loop-t-init
loop-t-init c = nothing_paired (c.args.s ∷ []) (take 0 c.args.ts.now) c.args.pairs.now.items (inr refl)

pub loop-t-preserved : goal.loop-t-preserved
loop-t-preserved c =
    let ts = c.args.ts.now in
    let i = c.loop-t.t-index in
    let d : TermId = record { 0 = 0 } in
    more_right c.args.s ts i d (get_or ts i d) c.args.pairs.now.items c.loop-t.pairs.items c.pair.new.pairs.items c.loop-t-test.true refl c.loop-t.invariant c.in_ok-pair.ensures

pub returns : goal.returns
returns c = subst (λ us. ArePaired (c.args.s ∷ []) us c.args.pairs.now.items c.loop-t.pairs.items) (take_all c.loop-t.t-index c.args.ts.now c.loop-t-test.false) c.loop-t.invariant
