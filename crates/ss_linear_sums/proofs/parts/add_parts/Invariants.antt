use Rattle.std.proofs.Common.{◌≡◌, drop}
use Rattle.ss_logic.specs.Sums as sums
use Rattle.ss_linear_sums.specs.Linear.{parts_at, HasParts}
use Rattle.ss_linear_sums.proofs.parts.add_parts.Given as goal

abbrev pub invariant-loop-part : goal.invariant-loop-part
invariant-loop-part l = record {
  has : HasParts l.bank l.parts.items;
  goes_on : sums.add_parts l.n (drop l.part-index (parts_at l.bank l.others)) (parts_at l.bank l.parts.items) ≡ sums.add_parts l.n (parts_at l.bank l.others) (parts_at l.bank l.initial.parts.items);
}
