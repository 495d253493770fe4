use Rattle.std.proofs.Common.{map, arith, ◌∙◌}
use Rattle.ss_bit_set.specs.Marked.{marked}
use Rattle.ss_vcgen_known.specs.Views.{pair_of, fields_of}
use Rattle.ss_vcgen_known.proofs.Listing.{met_sets}
use Rattle.ss_vcgen_known.proofs.Setting.{mapped_length}
use Rattle.ss_vcgen_known.proofs.Meeting.{met_parts}
use Rattle.ss_vcgen_known.proofs.known.Known.meet.Goals as goal

pub returns : goal.returns
returns c =
    let s = c.args.self.now in
    let o = c.args.other.now in
    met_parts (marked s.facts) (marked s.beyond) (map pair_of s.sides.items) (marked o.facts) (marked o.beyond) (map pair_of o.sides.items) (fields_of s.fields) (fields_of o.fields) c.larger-count.result
    (marked c.meet.new.self) (marked c.in_ok-beyond.beyond) (map pair_of c.in_ok-sides.sides.items) (fields_of c.in_ok-fields.fields)
    (omega (arith, mapped_length pair_of s.sides.items, s.sides.ok.0)) (omega (arith, mapped_length pair_of o.sides.items, o.sides.ok.0))
    (c.meet.ensures ∙ met_sets (marked s.facts) (marked o.facts)) c.in_ok-sides.ensures c.in_ok-beyond.ensures c.in_ok-fields.ensures
