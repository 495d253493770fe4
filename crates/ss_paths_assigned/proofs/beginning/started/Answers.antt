use Rattle.std.proofs.Common.{map, ap, ◌∙◌}
use Rattle.std.specs.Prelude.{is_some}
use Rattle.ss_typed.specs.Tree.{FieldTree}
use Rattle.ss_typed.specs.View.{field}
use Rattle.ss_bit_set.specs.Marked.{listed}
use Rattle.std.proofs.lemmas.List.{take_all}
use Rattle.ss_paths_assigned.proofs.Places.{all_started}
use Rattle.ss_paths_assigned.proofs.beginning.started.Goals as goal

pub returns : goal.returns
returns c =
    ap listed (c.loop-declared.invariant ∙ ap (λ xs. map (λ (f : FieldTree). is_some f.initial) (map field xs)) (take_all c.loop-declared.declared-index c.args.fields.now c.loop-declared-test.false))
    ∙ all_started (map field c.args.fields.now)
