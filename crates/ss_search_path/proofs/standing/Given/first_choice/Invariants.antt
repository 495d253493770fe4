use Rattle.std.proofs.Common.{◌≡◌, drop}
use Rattle.ss_logic_means.specs.Origins.{opened_by}
use Rattle.ss_terms.specs.Forms.{formula_at}
use Rattle.ss_search_path.specs.Standing.{choices_in}
use Rattle.ss_search_path.proofs.standing.Given.first_choice.Given as goal

abbrev pub invariant-loop-i : goal.invariant-loop-i
invariant-loop-i l = opened_by (drop l.from (choices_in l.self)) (formula_at l.self.bank.now l.f) ≡ opened_by (drop l.i (choices_in l.self)) (formula_at l.self.bank.now l.f)
