use Rattle.std.proofs.Common.{take}
use Rattle.ss_core.specs.View.{exprs}
use Rattle.ss_terms.specs.Forms.{IsGrown}
use Rattle.ss_vcgen_express.specs.Numbers.{AreFormulas}
use Rattle.ss_vcgen_express.specs.Contexts.{context_at}
use Rattle.ss_vcgen_heaps.specs.Contracts as heaps
use Rattle.ss_vcgen_walk.proofs.contracts.conditions.Given as goal

abbrev pub invariant-loop-e : goal.invariant-loop-e
invariant-loop-e l = record {
  grown : IsGrown l.initial.bank l.bank;
  done : AreFormulas l.bank l.list.items (λ b. heaps.conditions (exprs (take l.e-index l.es)) (context_at b l.context));
}
