use Rattle.std.proofs.Common.{◌≡◌}
use Rattle.std.specs.Prelude.{◌||◌}
use Rattle.ss_vcgen_known.specs.Sets.{below}
use Rattle.ss_vcgen_known.specs.Views.{fields_of}
use Rattle.ss_vcgen_known.proofs.fields.Fields.either.Given as goal

abbrev pub invariant-loop-field : goal.invariant-loop-field
invariant-loop-field l = l.list.items ≡ below (λ f. fields_of l.self f || fields_of l.other f) l.field
