use Rattle.std.proofs.Common.{◌≡◌, pos, List, drop}
use Rattle.ss_core.specs.Tree.{ClassTree}
use Rattle.ss_logic.specs.Sums as sums
use Rattle.ss_terms.specs.Forms.{formulas_at, IsBankOf}
use Rattle.ss_linear_sums.specs.Linear.{sum_at, HasParts}
use Rattle.ss_linear_sums.specs.Table.{AreKept}
use Rattle.ss_linear_sums.proofs.adding.weighted.Given as goal

abbrev pub invariant-loop-part : goal.invariant-loop-part
invariant-loop-part l = record {
  kept : AreKept l.fn.bank l.table.kept.items;
  has : HasParts l.fn.bank l.sum.parts.items;
  goes_on : (cs : List ClassTree) → IsBankOf cs l.fn.bank →
      sums.weighted cs (formulas_at l.fn.bank l.fn.known) (sum_at l.fn.bank l.sum) (drop l.part-index l.parts) ≡ sums.weighted cs (formulas_at l.fn.bank l.fn.known) (sums.number_sum (pos 0)) l.parts;
}
