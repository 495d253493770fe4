use Rattle.std.proofs.Common.{◌≡◌, drop}
use Rattle.ss_logic_means.specs.Steps.{walk}
use Rattle.ss_terms.specs.Forms.{term_at, formulas_at, HasTerm}
use Rattle.ss_check_steps.proofs.reads.walk_at.Given as goal

abbrev pub invariant-loop-i : goal.invariant-loop-i
invariant-loop-i l = record {
  in_bank : HasTerm l.bank l.y;
  goes_on : walk (formulas_at l.bank l.known) (term_at l.bank l.y) (drop l.i-index l.path) ≡ walk (formulas_at l.bank l.known) (term_at l.bank l.initial.y) l.path;
}
