use Rattle.std.proofs.Common.{ap, ◌∙◌}
use Rattle.ss_paths.specs.Sets.{Set, either, among}
use Rattle.ss_paths.proofs.Among.{none_either}
use Rattle.ss_bit_set.specs.Marked.{marked}
use Rattle.ss_bit_set.proofs.All.{all_in}
use Rattle.ss_bit_set.proofs.bit_set.BitSet.of.Goals as goal

pub returns : goal.returns
returns c =
    let xs = c.args.numbers.now in
    c.in_ok-put_all.ensures ∙ all_in xs (marked c.new-found.result) ∙ ap (λ (f : Set). either f (among xs)) c.new-found.ensures ∙ none_either (among xs)
