use Rattle.std.proofs.Common.{◌≡◌, ◌≤◌, length, reverse}
use Rattle.ss_core.specs.View as view
use Rattle.ss_logic.specs.Ground.{foralls_step}
use Rattle.ss_logic.specs.Occurring.{quantified}
use Rattle.ss_terms.specs.Forms.{formulas_at, IsGrown}
use Rattle.ss_rules_occurring.specs.Found.{formulas_of, HasFound}
use Rattle.ss_logic.specs.Includes.{Includes}
use Rattle.ss_rules_opened.specs.Views.{StillCome}
use Rattle.ss_rules.specs.AreMade.{AreMade}
use Rattle.ss_rules.specs.Comes.{IsClosed}
use Rattle.ss_rules.proofs.Coming.{foralls_left}
use Rattle.ss_rules.proofs.rounds.at_foralls.Given as goal

abbrev pub invariant-loop-i : goal.invariant-loop-i
invariant-loop-i l = record {
  within : l.i ≤ length l.fs;
  grown : IsGrown l.initial.bank l.bank;
  has : HasFound l.bank l.listed.list;
  including : Includes (formulas_of l.bank l.listed.list) (formulas_of l.initial.bank l.initial.listed.list);
  noted : Includes (quantified (formulas_of l.initial.bank l.initial.listed.list)) (formulas_at l.initial.bank l.fs) → StillCome (view.classes l.context.classes.now) l.initial.bank (formulas_of l.initial.bank l.initial.listed.list) l.initial.listed.origins.items l.bank (formulas_of l.bank l.listed.list) l.listed.origins.items;
  made : AreMade (view.classes l.context.classes.now) l.bank l.made;
  still : IsClosed (view.classes l.context.classes.now) l.context.limit (formulas_of l.bank l.listed.list);
  left : foralls_left (view.classes l.context.classes.now) l.context.limit l.initial.bank l.fs l.i (formulas_of l.bank l.listed.list) ≡ foralls_step (view.classes l.context.classes.now) l.context.limit (reverse (formulas_at l.initial.bank l.fs)) (formulas_of l.initial.bank l.initial.listed.list);
}

abbrev pub decreases-loop-i : goal.decreases-loop-i
decreases-loop-i l = l.i
