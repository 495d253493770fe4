use Rattle.std.proofs.Common.{◌≡◌, List, map, ap, ◌∙◌}
use Rattle.ss_bit_set.specs.Marked.{marked}
use Rattle.ss_paths.specs.Sets.{put}
use Rattle.ss_vcgen_known.specs.declared.sides.Sides.{Sides}
use Rattle.ss_vcgen_known.specs.Sets.{without, pair_without}
use Rattle.ss_vcgen_known.specs.Views.{pair_of, fields_of}
use Rattle.ss_vcgen_known.proofs.Setting.{known_by, with_pair, saying, assigned_local}
use Rattle.ss_vcgen_known.proofs.known.Known.set_local.Goals as goal

pub returns : goal.returns
returns c =
    let s = c.args.self.now in
    let x = c.args.x in
    let n = c.args.non_null in
    let g = marked c.args.holds in
    let h = marked c.args.fails in
    let fs = fields_of s.fields in
    let parts : known_by (marked c.put.new.self) (map pair_of c.in_ok-sides.sides.items) (marked c.in_ok-beyond.beyond) fs ≡ known_by (put x n (marked s.facts)) (map (pair_without x) (map pair_of s.sides.items)) (without x (marked s.beyond)) fs =
    λ i. known_by (c.in_ok-put.ensures i) ((c.in_ok-sides.ensures ∙ ap (λ (xs : List Sides). map (pair_without x) (map pair_of xs)) c.deref.ensures.value) i) (c.in_ok-beyond.ensures i) fs in
    c.in_ok-say.ensures
    ∙ ap (with_pair x (saying g h)) parts
    ∙ assigned_local x n g h (marked s.facts) (map pair_of s.sides.items) (marked s.beyond) fs
