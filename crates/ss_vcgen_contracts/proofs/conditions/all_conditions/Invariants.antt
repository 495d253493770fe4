use Rattle.std.proofs.Common.{map, take}
use Rattle.ss_core.specs.View as view
use Rattle.ss_terms.specs.Forms.{IsGrown}
use Rattle.ss_vcgen_express.specs.Numbers.{AreFormulas}
use Rattle.ss_vcgen_express.specs.Contexts.{context_at}
use Rattle.ss_vcgen_heaps.specs.Contracts as heaps
use Rattle.ss_vcgen_contracts.specs.Seen.{condition_of}
use Rattle.ss_vcgen_contracts.proofs.conditions.all_conditions.Given as goal

abbrev pub invariant-loop-e : goal.invariant-loop-e
invariant-loop-e l = record {
  grown : IsGrown l.initial.bank l.bank;
  done : AreFormulas l.bank l.made.items (λ b. heaps.conditions (map (condition_of l.seen) (view.exprs (take l.e-index l.es))) (context_at b l.context));
}
