use Rattle.std.proofs.Common.{List, map, ap, ◌∙◌}
use Rattle.ss_bit_set.specs.Marked.{marked}
use Rattle.ss_vcgen_known.specs.declared.sides.Sides.{Sides}
use Rattle.ss_vcgen_known.specs.Views.{pair_of, fields_of}
use Rattle.ss_vcgen_known.proofs.Setting.{known_by, one_more}
use Rattle.ss_vcgen_known.proofs.known.Known.reach.Goals as goal

pub loop-self-preserved : goal.loop-self-preserved
loop-self-preserved c =
    let s = c.loop-self.self in
    ap (λ (xs : List Sides). known_by (marked s.facts) (map pair_of xs) (marked s.beyond) (fields_of s.fields)) c.in_ok-push.ensures.items
    ∙ one_more pair_of (marked s.facts) s.sides.items (marked s.beyond) (fields_of s.fields) c.in_ok-pair.pair c.in_ok-pair.ensures
    ∙ c.loop-self.invariant
