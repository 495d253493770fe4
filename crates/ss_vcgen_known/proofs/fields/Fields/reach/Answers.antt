use Rattle.std.proofs.Common.{Bool, List, ap, ◌∙◌}
use Rattle.ss_vcgen_known.specs.Sets.{at}
use Rattle.ss_vcgen_known.proofs.Listing.{at_more}
use Rattle.ss_vcgen_known.proofs.fields.Fields.reach.Goals as goal

pub loop-self-preserved : goal.loop-self-preserved
loop-self-preserved c =
    let s = c.loop-self.self in
    ap (λ (xs : List Bool). at xs s.beyond) c.in_ok-push.ensures.items ∙ at_more s.list.items s.beyond ∙ c.loop-self.invariant
