use Rattle.std.proofs.Common.{Option, ap, ◌∙◌}
use Rattle.std.specs.Prelude.{option_map}
use Rattle.ss_bit_set.specs.Marked.{marked}
use Rattle.ss_store_rules.specs.NonNull.{Facts, both, at_this_end, side_met}
use Rattle.ss_vcgen_known.specs.Views.{known_of}
use Rattle.ss_vcgen_known.proofs.known.Known.side_where_met.Goals as goal

pub returns : goal.returns
returns c =
    let s = c.args.self.now in
    let o = c.args.other.now in
    c.side_met.ensures
    ∙ ap (λ (h : Option Facts). side_met h (option_map marked c.in_ok-there.there)) (c.in_ok-here.ensures ∙ ap (option_map (both (marked s.facts))) c.side_at.ensures)
    ∙ ap (side_met (at_this_end (known_of s) c.args.x c.args.outcome)) (c.in_ok-there.ensures ∙ ap (option_map (both (marked o.facts))) c.side_at-2.ensures)
