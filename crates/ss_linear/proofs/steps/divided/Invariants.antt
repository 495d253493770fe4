use Rattle.std.proofs.Common.{◌≡◌, ℤ, List, [], ◌++◌, drop, Some}
use Rattle.ss_logic.specs.Terms.{Term}
use Rattle.ss_logic.specs.Sums as sums
use Rattle.ss_linear_sums.specs.Linear.{parts_at, HasParts}
use Rattle.ss_linear_sums.specs.Table.{AreKept}
use Rattle.ss_linear.specs.Results.{AreNext}
use Rattle.ss_linear.proofs.steps.divided.Given as goal

abbrev pub invariant-loop-part : goal.invariant-loop-part
invariant-loop-part l = record {
  kept : AreKept l.bank l.table.kept.items;
  has : HasParts l.bank l.made.items;
  next : AreNext [] (parts_at l.bank l.made.items);
  some : (rest : List (Term × ℤ)) → sums.divided l.d (drop l.part-index (parts_at l.bank l.parts)) ≡ Some rest → sums.divided l.d (parts_at l.bank l.parts) ≡ Some (parts_at l.bank l.made.items ++ rest);
}
