use Rattle.std.proofs.Common.{◌≡◌, length, take}
use Rattle.ss_core.specs.View as view
use Rattle.ss_logic.specs.Asked.{all_said}
use Rattle.ss_logic.specs.Occurring.{with_formulas}
use Rattle.ss_terms.specs.Forms.{IsGrown}
use Rattle.ss_rules_asked.specs.Numbers.{asked_in}
use Rattle.ss_rules_occurring.specs.Found.{formulas_of, Holds}
use Rattle.ss_rules.specs.AreMade.{AreNumbers}
use Rattle.ss_rules_opened.specs.Views.{StillCome}
use Rattle.ss_rules.proofs.made.Made.add_each.Given as goal

abbrev pub invariant-loop-one : goal.invariant-loop-one
invariant-loop-one l = record {
  grown : IsGrown l.initial.bank l.bank;
  added : Holds l.bank l.listed.list (with_formulas (formulas_of l.initial.bank l.initial.listed.list) (all_said (view.classes l.context.classes.now) (asked_in l.initial.bank (take l.one-index l.asked))));
  noted : StillCome (view.classes l.context.classes.now) l.initial.bank (formulas_of l.initial.bank l.initial.listed.list) l.initial.listed.origins.items l.bank (formulas_of l.bank l.listed.list) l.listed.origins.items;
  count : l.one-index ≡ length l.all.items;
  numbers : AreNumbers (view.classes l.context.classes.now) l.bank l.asked l.all.items;
}
