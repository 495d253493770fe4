use Rattle.std.proofs.Common.{length, get_or, [], take_all, refl, sym, subst}
use Rattle.ss_logic.specs.Occurring.{with_formulas}
use Rattle.ss_terms.specs.Forms.{formula_at, formulas_at}
use Rattle.ss_terms.proofs.Tested.{AreBelow-get}
use Rattle.ss_logic_means.specs.Origins.{IsOrigin}
use Rattle.ss_rules_occurring.specs.Found.{formulas_of, Holds}
use Rattle.ss_rules_occurring.proofs.Sought.{holds_itself}
use Rattle.ss_rules_opened.specs.Views.{origin_with, HasSource, ComeFrom}
use Rattle.ss_rules_opened.proofs.Noting.{none_come}
use Rattle.ss_rules.proofs.Coming.{listed_next}
use Rattle.ss_rules.proofs.GroundNoted.{source_in_bank, start_comes}
use Rattle.ss_rules.proofs.form.each_once.Goals as goal

pub loop-place-init : goal.loop-place-init
loop-place-init c = record {
  list = c.new-list.ensures;
  noted = λ cs premises goal choices are.
      subst (λ os. ComeFrom cs premises goal choices c.args.bank.now (formulas_of c.args.bank.now c.new-list.result) os) (sym c.new-origins.ensures.items)
      (subst (λ fs. ComeFrom cs premises goal choices c.args.bank.now fs []) (sym c.new-list.ensures.are) (none_come cs premises goal choices c.args.bank.now));
}

pub add_from-requires-clause-list : goal.add_from-requires-clause-list
add_from-requires-clause-list c = holds_itself c.args.bank.now c.loop-place.listed.list _ c.loop-place.invariant.list

pub add_from-requires-clause-formula : goal.add_from-requires-clause-formula
add_from-requires-clause-formula c =
    AreBelow-get _ c.args.fs.now c.loop-place.place (record { 0 = 0 }) c.requires c.loop-place-test.true

pub add_from-requires-clause-source : goal.add_from-requires-clause-source
add_from-requires-clause-source c = subst (HasSource c.args.bank.now) (sym c.source_at-source.ensures) (source_in_bank c.args.bank.now c.loop-place.place (length c.args.fs.now))

pub loop-place-preserved : goal.loop-place-preserved
loop-place-preserved c =
    record {
      list = listed_next c.args.bank.now c.loop-place.listed.list c.add_from.new.listed.list c.args.fs.now c.loop-place.place (record { 0 = 0 }) c.loop-place-test.true c.loop-place.invariant.list c.in_ok-add_from.ensures.added;
      noted = λ cs premises goal choices are.
          c.in_ok-add_from.ensures.noted cs premises goal choices
          (subst (λ s. IsOrigin cs premises goal choices (formulas_of c.args.bank.now c.loop-place.listed.list) (origin_with c.args.bank.now s []) (formula_at c.args.bank.now (get_or c.args.fs.now c.loop-place.place (record { 0 = 0 })))) (sym c.source_at-source.ensures)
          (start_comes cs premises goal choices c.args.bank.now c.args.fs.now c.loop-place.place (length c.args.fs.now) (record { 0 = 0 }) (formulas_of c.args.bank.now c.loop-place.listed.list) refl c.loop-place-test.true are))
          (c.loop-place.invariant.noted cs premises goal choices are);
    }

pub returns-clause-list : goal.returns-clause-list
returns-clause-list c =
    subst (λ fs. Holds c.args.bank.now c.loop-place.listed.list (with_formulas [] (formulas_at c.args.bank.now fs)))
    (take_all c.loop-place.place c.args.fs.now c.loop-place-test.false) c.loop-place.invariant.list
