use Rattle.std.proofs.Common.{◌≡◌, ◌+◌, ◌-◌}
use Rattle.ss_vcgen_known.specs.Views.{fields_of}
use Rattle.ss_vcgen_known.proofs.fields.Fields.reach.Given as goal

abbrev pub invariant-loop-self : goal.invariant-loop-self
invariant-loop-self l = fields_of l.self ≡ fields_of l.initial.self

abbrev pub decreases-loop-self : goal.decreases-loop-self
decreases-loop-self l = l.field + 1 - l.self.list.len
