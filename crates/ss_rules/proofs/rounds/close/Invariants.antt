use Rattle.std.proofs.Common.{◌≡◌, ◌-◌}
use Rattle.ss_core.specs.View as view
use Rattle.ss_logic.specs.Ground.{closed_from}
use Rattle.ss_terms.specs.Forms.{IsGrown}
use Rattle.ss_rules_occurring.specs.Found.{formulas_of, HasFound}
use Rattle.ss_rules_opened.specs.Views.{StillCome}
use Rattle.ss_rules.specs.AreMade.{AreMade}
use Rattle.ss_rules.proofs.rounds.close.Given as goal

abbrev pub invariant-loop-step : goal.invariant-loop-step
invariant-loop-step l = record {
  grown : IsGrown l.initial.bank l.bank;
  has : HasFound l.bank l.listed.list;
  noted : StillCome (view.classes l.context.classes.now) l.initial.bank (formulas_of l.initial.bank l.initial.listed.list) l.initial.listed.origins.items l.bank (formulas_of l.bank l.listed.list) l.listed.origins.items;
  made : AreMade (view.classes l.context.classes.now) l.bank l.made;
  left : closed_from (view.classes l.context.classes.now) l.context.limit (l.context.limit - l.step) (formulas_of l.bank l.listed.list) ≡ closed_from (view.classes l.context.classes.now) l.context.limit l.context.limit (formulas_of l.initial.bank l.initial.listed.list);
}
