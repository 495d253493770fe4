use Rattle.std.proofs.Common.{take, get_or, refl, inl, subst}
use Rattle.std.proofs.lemmas.List.{take_all}
use Rattle.ss_terms.specs.declared.forms.TermId.{TermId}
use Rattle.ss_search_reached.specs.Groups.{ArePaired}
use Rattle.ss_search_reached.proofs.Groups.{nothing_paired, more_left}
use Rattle.ss_search_reached.proofs.equalities.pair_all.Goals as goal

pub loop-s-init : goal.loop-s-init
loop-s-init c = nothing_paired (take 0 c.args.ts.now) c.args.ts.now c.args.pairs.now.items (inl refl)

pub loop-s-preserved : goal.loop-s-preserved
loop-s-preserved c =
    let ts = c.args.ts.now in
    let i = c.loop-s.s-index in
    let d : TermId = record { 0 = 0 } in
    more_left ts i d (get_or ts i d) c.args.pairs.now.items c.loop-s.pairs.items c.pair_with.new.pairs.items c.loop-s-test.true refl c.loop-s.invariant c.in_ok-pair_with.ensures

pub returns : goal.returns
returns c = subst (λ us. ArePaired us c.args.ts.now c.args.pairs.now.items c.loop-s.pairs.items) (take_all c.loop-s.s-index c.args.ts.now c.loop-s-test.false) c.loop-s.invariant
