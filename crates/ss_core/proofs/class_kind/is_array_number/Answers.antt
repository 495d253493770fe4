use Rattle.std.proofs.Common.{ap, ◌∙◌}
use Rattle.ss_core.specs.Kinds.{is_array}
use Rattle.ss_core.proofs.ByNumber.{its_arrays}
use Rattle.ss_core.proofs.class_kind.is_array_number.Goals as goal

pub returns : goal.returns
returns c = c.is_array.ensures ∙ ap is_array c.of.ensures ∙ its_arrays c.args.number
