use Rattle.std.proofs.Common.{List, ◌++◌, take}
use Rattle.ss_core.specs.Tree.{ClassTree}
use Rattle.ss_logic.specs.Formulas.{Formula}
use Rattle.ss_terms.specs.Forms.{IsBankOf}
use Rattle.ss_linear_sums.specs.Table.{AreKept}
use Rattle.ss_linear.specs.Contradictions.{equalities_at, HaveParts}
use Rattle.ss_linear.specs.Results.{AreFacts}
use Rattle.ss_linear.proofs.facts.add_equalities.Given as goal

abbrev pub invariant-loop-pair : goal.invariant-loop-pair
invariant-loop-pair l = record {
  kept : AreKept l.bank l.table.kept.items;
  parts : HaveParts l.bank l.facts.items;
  read : (cs : List ClassTree) (known : List Formula) → IsBankOf cs l.bank → AreFacts cs l.bank known l.initial.facts.items → AreFacts cs l.bank (known ++ equalities_at l.bank (take l.pair-index l.equalities)) l.facts.items;
}
