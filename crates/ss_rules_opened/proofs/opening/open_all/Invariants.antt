use Rattle.std.proofs.Common.{◌≡◌, List}
use Rattle.std.specs.Prelude.{sum_by}
use Rattle.ss_logic.specs.Opened.{exists_count}
use Rattle.ss_terms.specs.Forms.{terms_at, formulas_at, IsGrown}
use Rattle.ss_core.specs.View as view
use Rattle.ss_logic.specs.Formulas.{Formula}
use Rattle.ss_logic_means.specs.Starting.{IsStart}
use Rattle.ss_rules_opened.specs.Opening.{HasOpening}
use Rattle.ss_rules_opened.specs.Choices.{choices_at, HasChoices}
use Rattle.ss_rules_opened.proofs.Counting.{all_opened}
use Rattle.ss_rules_opened.proofs.opening.open_all.Given as goal

abbrev pub invariant-loop-f : goal.invariant-loop-f
invariant-loop-f l = record {
  grown : IsGrown l.initial.bank l.bank;
  has : HasOpening l.bank l.state;
  has_choices : HasChoices l.bank l.choices.items;
  noted : (premises : List Formula) (goal : Formula) → IsStart (view.classes l.classes) premises goal (terms_at l.initial.bank l.initial.state.used.items) (formulas_at l.initial.bank l.initial.state.list.items) (choices_at l.initial.bank l.initial.choices.items) →
      IsStart (view.classes l.classes) premises goal (terms_at l.bank l.state.used.items) (formulas_at l.bank l.state.list.items) (choices_at l.bank l.choices.items);
  left : all_opened (terms_at l.bank l.state.used.items) (formulas_at l.bank l.state.list.items) ≡ all_opened (terms_at l.initial.bank l.initial.state.used.items) (formulas_at l.initial.bank l.initial.state.list.items);
}

abbrev pub decreases-loop-f : goal.decreases-loop-f
decreases-loop-f l = sum_by exists_count (formulas_at l.bank l.state.list.items)
