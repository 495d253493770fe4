use Rattle.std.proofs.lemmas.List.{length-map}
use Rattle.std.proofs.Common.{arith}
use Rattle.ss_core.specs.View.{class_of}
use Rattle.ss_search_wants.proofs.looks.field_at.Goals as goal

pub field-requires : goal.field-requires
field-requires c =
    let size = length-map c.args.program.now.list.items class_of in
    let held = c.args.program.now.list.ok.0 in
    omega (arith, size, held)
