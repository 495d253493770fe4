use Rattle.std.proofs.Common.{ap, ◌∙◌}
use Rattle.ss_core.specs.View as view
use Rattle.ss_terms.specs.Forms.{formula_at, formulas_at}
use Rattle.ss_rules_opened.specs.Choices.{choices_at}
use Rattle.ss_rules.proofs.form.begin.Goals as goal

pub returns-clause-noted : goal.returns-clause-noted
returns-clause-noted c =
    let a = c.args.bank.now in
    let b = c.start.new.bank in
    let started = c.in_ok-started.started in
    record {
      has_choices = c.in_ok-started.ensures.has_choices;
      come = c.in_ok-listed.ensures.noted (view.classes c.args.classes.now) (formulas_at a c.args.premises.now) (formula_at a c.args.goal) (choices_at b started.choices.items) (ap (formulas_at b) c.deref.ensures.value ∙ c.in_ok-started.ensures.opened);
      accepted = c.in_ok-started.ensures.accepted;
    }
