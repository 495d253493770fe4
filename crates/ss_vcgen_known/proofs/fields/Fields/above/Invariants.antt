use Rattle.std.proofs.Common.{◌≡◌}
use Rattle.std.specs.Prelude.{◌&&◌, ◌==◌, not}
use Rattle.ss_core.specs.Chain as chain
use Rattle.ss_core.specs.View.{classes}
use Rattle.ss_store_rules.specs.Changes.{field_class}
use Rattle.ss_vcgen_known.specs.Sets.{below}
use Rattle.ss_vcgen_known.proofs.fields.Fields.above.Given as goal

abbrev pub invariant-loop-f : goal.invariant-loop-f
invariant-loop-f l = l.found.items ≡ below (λ f. chain.below (classes l.list) l.class.0 (field_class (classes l.list) f) && not (field_class (classes l.list) f == l.class.0)) l.f
