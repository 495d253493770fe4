use Rattle.std.proofs.Common.{◌∙◌, ℤ, ap, map, rules, SFits}
use Rattle.std.specs.Int.{w64}
use Rattle.std.proofs.lemmas.Int.{to_z-of_z}
use Rattle.ss_logic_means.specs.Steps.{Sum}
use Rattle.ss_search_whole_sums.specs.Summing.{moved_part}
use Rattle.ss_search_whole_sums.proofs.summing.sum_line.Goals as goal

pub returns : goal.returns
returns c = λ b.
    let d = c.args.sum.now.divisor in
    let fits : SFits w64 d = search rules in
    ap (λ (n : ℤ). Sum n c.in_ok-parts.parts.items) (to_z-of_z w64 d fits) ∙ ap (Sum d) (c.in_ok-parts.ensures ∙ ap (map (moved_part c.args.places.now c.args.known)) c.deref.ensures.value)
