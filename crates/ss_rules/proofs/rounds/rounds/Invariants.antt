use Rattle.std.proofs.Common.{◌≡◌, ◌-◌}
use Rattle.ss_core.specs.View as view
use Rattle.ss_logic.specs.Ground.{rounds_of}
use Rattle.ss_terms.specs.Forms.{IsGrown}
use Rattle.ss_rules_occurring.specs.Found.{formulas_of, HasFound}
use Rattle.ss_rules_opened.specs.Views.{StillCome}
use Rattle.ss_rules.specs.AreMade.{AreMade}
use Rattle.ss_rules.proofs.rounds.rounds.Given as goal

abbrev pub invariant-loop-number : goal.invariant-loop-number
invariant-loop-number l = record {
  grown : IsGrown l.initial.bank l.bank;
  has : HasFound l.bank l.listed.list;
  noted : StillCome (view.classes l.context.classes.now) l.initial.bank (formulas_of l.initial.bank l.initial.listed.list) l.initial.listed.origins.items l.bank (formulas_of l.bank l.listed.list) l.listed.origins.items;
  made : AreMade (view.classes l.context.classes.now) l.bank l.made;
  left : rounds_of (view.classes l.context.classes.now) l.context.limit (l.count - l.number) (formulas_of l.bank l.listed.list) ≡ rounds_of (view.classes l.context.classes.now) l.context.limit l.count (formulas_of l.initial.bank l.initial.listed.list);
}
