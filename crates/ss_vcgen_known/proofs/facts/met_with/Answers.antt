use Rattle.std.proofs.Common.{Some, ◌∙◌, sym, ap}
use Rattle.std.specs.Prelude.{option_map}
use Rattle.ss_bit_set.specs.Marked.{marked}
use Rattle.ss_store_rules.specs.NonNull.{side_met}
use Rattle.ss_vcgen_known.proofs.Listing.{met_sets}
use Rattle.ss_vcgen_known.proofs.facts.met_with.Goals as goal

pub returns-in-Some : goal.returns-in-Some
returns-in-Some c =
    ap (λ f. Some f) (c.meet.ensures ∙ met_sets (marked c.args.one) (marked c.in-Some.other))
    ∙ sym (ap (λ o. side_met (Some (marked c.args.one)) (option_map marked o)) c.in-Some.is)
