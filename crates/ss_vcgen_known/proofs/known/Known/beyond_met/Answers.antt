use Rattle.std.proofs.Common.{ap, ◌∙◌}
use Rattle.ss_bit_set.specs.Marked.{marked}
use Rattle.ss_store_rules.specs.NonNull.{both}
use Rattle.ss_vcgen_known.specs.Steps.{facts_met}
use Rattle.ss_vcgen_known.proofs.Listing.{met_sets}
use Rattle.ss_vcgen_known.proofs.known.Known.beyond_met.Goals as goal

pub returns : goal.returns
returns c =
    let k = c.args.self.now in
    c.meet.ensures
    ∙ met_sets (marked c.in_ok-here.here) (marked c.in_ok-there.there)
    ∙ ap (λ f. facts_met f (marked c.in_ok-there.there)) c.in_ok-here.ensures
    ∙ ap (facts_met (both (marked k.facts) (marked k.beyond))) c.in_ok-there.ensures
