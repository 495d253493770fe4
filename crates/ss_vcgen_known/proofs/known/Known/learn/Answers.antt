use Rattle.std.proofs.Common.{ap, ◌∙◌}
use Rattle.ss_bit_set.specs.Marked.{marked}
use Rattle.ss_store_rules.specs.NonNull.{Facts}
use Rattle.ss_vcgen_known.specs.Steps.{all_barred}
use Rattle.ss_vcgen_known.specs.Views.{known_of}
use Rattle.ss_vcgen_known.proofs.Barring.{learned_then}
use Rattle.ss_vcgen_known.proofs.known.Known.learn.Goals as goal

pub returns : goal.returns
returns c =
    let k = known_of c.args.self.now in
    let list = c.args.list.now in
    c.in_ok-bar_all.ensures
    ∙ ap (λ (f : Facts). all_barred list (record { facts = f; sides = k.sides; fields = k.fields })) c.in_ok-join.ensures
    ∙ learned_then list k (marked c.in_ok-facts.facts) c.in_ok-facts.ensures
