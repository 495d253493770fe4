use Rattle.std.proofs.Common.{◌≡◌, map, take}
use Rattle.ss_logic_means.specs.Origins.{chosen_by}
use Rattle.ss_terms.specs.Forms.{formulas_at, HasFormulas, IsGrown}
use Rattle.ss_rules_opened.specs.Choices.{choices_at}
use Rattle.ss_search_path.specs.Standing.{body_of}
use Rattle.ss_search_procedure.proofs.choosing.chosen_formulas.Given as goal

abbrev pub invariant-loop-choice : goal.invariant-loop-choice
invariant-loop-choice l = record {
  grown : IsGrown l.initial.bank l.bank;
  has_formulas : HasFormulas l.bank l.formulas.items;
  formulas : formulas_at l.bank l.formulas.items ≡ map chosen_by (choices_at l.initial.bank (take l.choice-index l.choices));
  has_bodies : HasFormulas l.bank l.bodies.items;
  bodies : formulas_at l.bank l.bodies.items ≡ map body_of (choices_at l.initial.bank (take l.choice-index l.choices));
}
