use Rattle.std.proofs.Common.{ap, sym, ◌∙◌}
use Rattle.ss_bit_set.specs.Marked.{marked}
use Rattle.ss_vcgen_known.specs.Pairs.{side, alike}
use Rattle.ss_vcgen_known.specs.Steps.{barred_by}
use Rattle.ss_vcgen_known.specs.Views.{pair_of, fields_of, known_of}
use Rattle.ss_vcgen_known.proofs.Listing.{at_pair}
use Rattle.ss_vcgen_known.proofs.Setting.{with_pair, set_entry, barred_entry}
use Rattle.ss_vcgen_known.proofs.known.Known.bar.Goals as goal

pub returns-in_ok-reach-in-Truth : goal.returns-in_ok-reach-in-Truth
returns-in_ok-reach-in-Truth c =
    let s = c.reach.new.self in
    let x = c.in-Truth.x in
    let v = c.in-Truth.outcome in
    let within = c.in_ok-reach-in-Truth.ensures.long in
    let here = c.index_mut.result.now in
    set_entry pair_of (marked s.facts) s.sides.items (marked s.beyond) (fields_of s.fields) x c.bar.new.self within
    ∙ ap (λ p. with_pair x p (known_of s)) c.bar.ensures
    ∙ barred_entry x v (pair_of here) (known_of s)
    (λ u. sym (ap (λ p. side p u) (at_pair pair_of s.sides.items x here (alike (marked s.beyond)) within c.index_mut.ensures.value)))
    ∙ ap (λ t. barred_by t (known_of s)) (sym c.in-Truth.is)
    ∙ ap (barred_by c.args.told) c.in_ok-reach-in-Truth.ensures.same
