use Rattle.std.proofs.Common.{◌≡◌, true, Some, sym, subst, refl, ◌∙◌}
use Rattle.ss_search_clashes.specs.declared.signatures.Said.{Said}
use Rattle.ss_search_clashes.specs.Says.{ValueKey, Sayings, said_of, IsStep}
use Rattle.ss_search_clashes.proofs.Keys.{said_new, pushed_step}
use Rattle.ss_search_clashes.proofs.values.enter.Goals as goal

pub returns-clause-step : goal.returns-clause-step
returns-clause-step c =
    let said : Said = record { place = c.args.t.0; holds = true } in
    subst (λ n. IsStep c.args.entered.now c.insert.new.self (ValueKey n) said) c.class.ensures
    (subst (λ (gs : Sayings). IsStep c.args.entered.now gs (ValueKey c.class.result) said) (sym c.in_ok-insert.ensures) (pushed_step c.args.entered.now (ValueKey c.class.result) said))

pub returns-clause-entered : goal.returns-clause-entered
returns-clause-entered c = λ e.
    let said : Said = record { place = c.args.t.0; holds = true } in (
      said,
      subst (λ n. said_of c.insert.new.self (ValueKey n) ≡ Some said) c.class.ensures
          (subst (λ (gs : Sayings). said_of gs (ValueKey c.class.result) ≡ Some said) (sym c.in_ok-insert.ensures) (said_new c.args.entered.now (ValueKey c.class.result) said (sym c.find.ensures ∙ c.in_default.is))),
      refl,
    )
