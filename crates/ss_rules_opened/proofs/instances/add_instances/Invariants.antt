use Rattle.std.proofs.Common.{map, take}
use Rattle.ss_core.specs.View as view
use Rattle.ss_logic.specs.Occurring.{with_formulas}
use Rattle.ss_terms.specs.Forms.{formula_at, IsGrown}
use Rattle.ss_rules_occurring.specs.Found.{formulas_of, Holds}
use Rattle.ss_rules_opened.specs.Views.{StillCome}
use Rattle.ss_rules_opened.specs.Matches.{tuples_at, instance_there, AreInstances}
use Rattle.ss_rules_opened.proofs.instances.add_instances.Given as goal

abbrev pub invariant-loop-place : goal.invariant-loop-place
invariant-loop-place l = record {
  grown : IsGrown l.initial.bank l.bank;
  added : Holds l.bank l.listed.list (with_formulas (formulas_of l.initial.bank l.initial.listed.list) (map (instance_there (formula_at l.initial.bank l.formula.whole) (formula_at l.initial.bank l.formula.body)) (tuples_at l.initial.bank (take l.place-index l.places))));
  noted : AreInstances (view.classes l.classes) (formulas_of l.initial.bank l.initial.listed.list) (formula_at l.initial.bank l.formula.whole) (formula_at l.initial.bank l.formula.body) (tuples_at l.initial.bank l.places) →
      StillCome (view.classes l.classes) l.initial.bank (formulas_of l.initial.bank l.initial.listed.list) l.initial.listed.origins.items l.bank (formulas_of l.bank l.listed.list) l.listed.origins.items;
}
