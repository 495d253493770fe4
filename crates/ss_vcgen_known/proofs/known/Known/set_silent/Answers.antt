use Rattle.std.proofs.Common.{ap, ◌∙◌}
use Rattle.ss_bit_set.specs.Marked.{marked}
use Rattle.ss_store_rules.specs.NonNull.{Facts, no_facts, says_nothing}
use Rattle.ss_vcgen_known.specs.Steps.{with_sides}
use Rattle.ss_vcgen_known.specs.Views.{known_of}
use Rattle.ss_vcgen_known.proofs.Listing.{none_is_none}
use Rattle.ss_vcgen_known.proofs.Setting.{says_learned}
use Rattle.ss_vcgen_known.proofs.known.Known.set_silent.Goals as goal

pub returns : goal.returns
returns c =
    let k = known_of c.args.self.now in
    let x = c.args.x in
    let n = c.args.non_null in
    c.in_ok-set_local.ensures
    ∙ ap (λ (f : Facts). with_sides x n f (marked c.new-fails.result) k) (c.new-holds.ensures ∙ none_is_none)
    ∙ ap (λ (f : Facts). with_sides x n no_facts f k) (c.new-fails.ensures ∙ none_is_none)
    ∙ says_learned x n k says_nothing
