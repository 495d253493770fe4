use Rattle.std.proofs.Common.{◌≡◌, List, [], ◌∷◌, ◌++◌, map, take}
use Rattle.ss_core.specs.Tree.{ClassTree}
use Rattle.ss_logic.specs.Formulas.{Formula, neg}
use Rattle.ss_logic.specs.Occurring.{with_formulas}
use Rattle.ss_logic_means.specs.Origins.{Choice, opened_by}
use Rattle.ss_terms.specs.Forms.{formulas_at}
use Rattle.ss_rules_occurring.specs.Found.{formulas_of, Holds}
use Rattle.ss_rules_opened.specs.Views.{ComeFrom}
use Rattle.ss_rules.proofs.form.each_once.Given as goal

abbrev pub invariant-loop-place : goal.invariant-loop-place
invariant-loop-place l = record {
  list : Holds l.bank l.listed.list (with_formulas [] (formulas_at l.bank (take l.place l.fs)));
  noted : (cs : List ClassTree) (premises : List Formula) (goal : Formula) (choices : List Choice) → formulas_at l.bank l.fs ≡ map (opened_by choices) (premises ++ neg goal ∷ []) → ComeFrom cs premises goal choices l.bank (formulas_of l.bank l.listed.list) l.listed.origins.items;
}
