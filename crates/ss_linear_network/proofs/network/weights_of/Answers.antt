use Rattle.std.proofs.Common.{◌∙◌, sym, ap, ℕ, List, [], ◌∷◌, ◌++◌, get_or}
use Rattle.std.specs.Prelude.{ℤ}
use Rattle.ss_linear_rules.specs.Nodes.{no_origin}
use Rattle.ss_linear_network.proofs.Making.{origins_more}
use Rattle.ss_linear_network.proofs.network.weights_of.Goals as goal

pub loop-k-preserved : goal.loop-k-preserved
loop-k-preserved c =
    c.in_ok-push.ensures.items
    ∙ ap (λ (r : List (ℕ × ℤ)). r ++ get_or c.args.origins.now (get_or c.args.places.now c.loop-k.k-index 0) no_origin ∷ []) c.loop-k.invariant
    ∙ sym (origins_more c.args.origins.now c.args.places.now c.loop-k.k-index c.loop-k-test.true)
