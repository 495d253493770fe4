use Rattle.std.proofs.Common.{ap, ◌∙◌}
use Rattle.ss_typed.specs.Tree.{TypedTree}
use Rattle.ss_paths.specs.Fields as fields
use Rattle.ss_paths.specs.Fields.{field_numbers}
use Rattle.ss_expand_programs.proofs.initializers.first_field.Goals as goal

pub returns : goal.returns
returns c =
    c.in_ok-first.ensures
    ∙ ap (λ (n : fields.Numbers). n.first) c.numbers.ensures
    ∙ ap (λ (p : TypedTree). (field_numbers p c.args.class.0).first) c.in_ok-fields.ensures
