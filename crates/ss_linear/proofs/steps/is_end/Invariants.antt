use Rattle.std.proofs.Common.{List, drop}
use Rattle.ss_core.specs.Tree.{ClassTree}
use Rattle.ss_logic.specs.Formulas.{Formula}
use Rattle.ss_linear_rules.specs.Two.{Refute}
use Rattle.ss_linear.specs.Contradictions.{HaveParts, sums_of}
use Rattle.ss_linear.specs.Results.{AreFacts}
use Rattle.ss_linear.proofs.steps.is_end.Given as goal

abbrev pub invariant-loop-i : goal.invariant-loop-i
invariant-loop-i l = record {
  parts : HaveParts l.bank l.facts.items;
  left : (cs : List ClassTree) (known : List Formula) → AreFacts cs l.bank known l.initial.facts.items →
      (now : List Formula) × AreFacts cs l.bank now l.facts.items × (Refute cs now (sums_of (drop l.i l.sums)) → Refute cs known (sums_of l.sums));
}
