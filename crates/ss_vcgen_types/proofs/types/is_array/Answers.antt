use Rattle.std.proofs.Common.{◌∙◌}
use Rattle.ss_core.specs.View.{classes}
use Rattle.ss_vcgen_types.proofs.Arrays.{arrays_by_number}
use Rattle.ss_vcgen_types.proofs.types.is_array.Goals as goal

pub returns : goal.returns
returns c = c.has_array_number.ensures ∙ arrays_by_number (classes c.args.list.now) c.args.class.0
