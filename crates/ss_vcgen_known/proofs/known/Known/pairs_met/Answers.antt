use Rattle.std.proofs.Common.{◌≡◌, [], ◌∷◌, ◌++◌, map, arith, sym, ap, ◌∙◌}
use Rattle.ss_vcgen_known.specs.Sets.{below}
use Rattle.ss_vcgen_known.specs.Steps.{met_pair}
use Rattle.ss_vcgen_known.specs.Views.{pair_of, known_of}
use Rattle.ss_vcgen_types.proofs.Grouping.{map_more}
use Rattle.ss_vcgen_known.proofs.Listing.{below_next}
use Rattle.ss_vcgen_known.proofs.known.Known.pairs_met.Goals as goal

pub loop-x-preserved : goal.loop-x-preserved
loop-x-preserved c =
    let f = met_pair (known_of c.args.self.now) (known_of c.args.other.now) in
    let x = c.loop-x.x in
    let pair = c.in_ok-pair.pair in
    ap (map pair_of) c.in_ok-push.ensures.items
    ∙ map_more pair_of c.loop-x.met.items pair
    ∙ ap (λ ps. ps ++ pair_of pair ∷ []) c.loop-x.invariant
    ∙ ap (λ p. below f x ++ p ∷ []) c.in_ok-pair.ensures
    ∙ sym (below_next f x)

pub returns : goal.returns
returns c =
    let f = met_pair (known_of c.args.self.now) (known_of c.args.other.now) in
    let e : c.loop-x.x ≡ c.args.count = omega arith in
    c.loop-x.invariant ∙ ap (below f) e
