use Rattle.std.proofs.Common.{◌≡◌, ◌∙◌, length, min, ap, arith}
use Rattle.std.proofs.lemmas.List.{length-map}
use Rattle.ss_core.specs.View.{class_of, classes}
use Rattle.ss_typed.specs.Lookups.{class_place}
use Rattle.ss_paths_assigned.proofs.Places.{firsts_length, first_is}
use Rattle.ss_paths_assigned.proofs.fields.Fields.first.Goals as goal

pub index-requires : goal.index-requires
index-requires c =
    let s = c.args.self.now in
    let long = ap length s.counted ∙ firsts_length 0 (classes s.program.now.classes) in
    omega (arith, long, length-map s.program.now.classes.list.items class_of, s.firsts.ok.0, s.program.now.classes.list.ok.0)

pub returns : goal.returns
returns c =
    let s = c.args.self.now in
    let place : c.min-place.result ≡ min (class_place c.args.class.0) c.len.result = omega arith in
    let many : c.len.result ≡ length (classes s.program.now.classes) = omega (arith, length-map s.program.now.classes.list.items class_of, s.program.now.classes.list.ok.0) in
    first_is (classes s.program.now.classes) s.firsts.items c.len.result (class_place c.args.class.0) c.min-place.result c.index.result.now s.counted c.index.ensures place many
