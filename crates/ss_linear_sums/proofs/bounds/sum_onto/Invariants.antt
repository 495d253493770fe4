use Rattle.std.proofs.Common.{◌≡◌, drop}
use Rattle.ss_logic.specs.Sums as sums
use Rattle.ss_terms.specs.Forms.{term_at, HasTerm, IsGrown}
use Rattle.ss_linear_sums.specs.Linear.{parts_at}
use Rattle.ss_linear_sums.proofs.bounds.sum_onto.Given as goal

abbrev pub invariant-loop-part : goal.invariant-loop-part
invariant-loop-part l = record {
  grown : IsGrown l.initial.bank l.bank;
  in_bank : HasTerm l.bank l.made;
  goes_on : sums.sum_onto (term_at l.bank l.made) (drop l.part-index (parts_at l.initial.bank l.parts)) ≡ sums.sum_onto (term_at l.initial.bank l.initial.made) (parts_at l.initial.bank l.parts);
}
