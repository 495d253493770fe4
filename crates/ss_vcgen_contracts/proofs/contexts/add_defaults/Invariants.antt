use Rattle.std.proofs.Common.{take, map, ◌++◌}
use Rattle.ss_core.specs.View as view
use Rattle.ss_store_rules.specs.Locals.{types_of}
use Rattle.ss_terms.specs.Forms.{IsGrown}
use Rattle.ss_vcgen_heaps.specs.Contracts as heaps
use Rattle.ss_vcgen_contracts.specs.Views.{ones_at, AreOnes}
use Rattle.ss_vcgen_contracts.proofs.contexts.add_defaults.Given as goal

abbrev pub invariant-loop-local : goal.invariant-loop-local
invariant-loop-local l = record {
  grown : IsGrown l.initial.bank l.bank;
  done : AreOnes l.bank l.terms.items (λ b. ones_at b l.initial.terms.items ++ heaps.defaults_meant (types_of (map view.local_of (take l.local-index l.locals))));
}
