use Rattle.std.proofs.Common.{List, take}
use Rattle.ss_core.specs.Tree.{ClassTree}
use Rattle.ss_terms.specs.Forms.{formulas_at, IsBankOf}
use Rattle.ss_linear_sums.specs.Table.{AreKept}
use Rattle.ss_linear.specs.Contradictions.{HaveParts}
use Rattle.ss_linear.specs.Results.{AreFacts}
use Rattle.ss_linear.proofs.facts.read_formulas.Given as goal

abbrev pub invariant-loop-f : goal.invariant-loop-f
invariant-loop-f l = record {
  kept : AreKept l.bank l.table.kept.items;
  parts : HaveParts l.bank l.facts.items;
  read : (cs : List ClassTree) → IsBankOf cs l.bank → AreFacts cs l.bank (formulas_at l.bank (take l.f-index l.known)) l.facts.items;
}
