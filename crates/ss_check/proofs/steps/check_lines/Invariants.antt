use Rattle.std.proofs.Common.{◌≡◌, ◌+◌, map, drop}
use Rattle.ss_core.specs.View.{classes}
use Rattle.ss_logic_means.specs.Steps.{bad_from, first_bad}
use Rattle.ss_terms.specs.Forms.{IsGrown, formula_at, formulas_at}
use Rattle.ss_deriv.specs.Lines.{line_of}
use Rattle.ss_check_steps.specs.Stack.{AreCases, state_of}
use Rattle.ss_check.specs.Delayed.{meant_state}
use Rattle.ss_check.proofs.steps.check_lines.Given as goal

abbrev pub invariant-loop-i : goal.invariant-loop-i
invariant-loop-i l = record {
  grown : IsGrown l.initial.bank l.bank;
  fine : AreCases l.bank l.cases.known.items l.cases.waiting.items;
  goes_on : bad_from (classes l.fn.classes) (formulas_at l.initial.bank l.fn.premises) (formula_at l.initial.bank l.fn.goal) (meant_state (classes l.fn.classes) (state_of l.bank l.cases.is_open l.cases.known.items l.cases.waiting.items)) (drop l.i (map (line_of l.initial.bank) l.lines)) (l.i + 1)
      ≡ first_bad (classes l.fn.classes) (formulas_at l.initial.bank l.fn.premises) (formula_at l.initial.bank l.fn.goal) (map (line_of l.initial.bank) l.lines);
}
