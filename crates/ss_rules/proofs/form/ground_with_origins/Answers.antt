use Rattle.ss_core.specs.View as view
use Rattle.ss_terms.specs.Forms.{formula_at, formulas_at}
use Rattle.ss_rules_occurring.proofs.Sought.{holds_itself}
use Rattle.ss_rules.proofs.Coming.{too_many, form_done}
use Rattle.ss_rules.proofs.GroundNoted.{grounded_later}
use Rattle.ss_rules.proofs.form.ground_with_origins.Goals as goal

pub go_on-requires-clause-list : goal.go_on-requires-clause-list
go_on-requires-clause-list c = holds_itself c.begin.new.bank c.in_ok-begun.begun.listed.list _ c.in_ok-begun.ensures.at

pub returns-then-not-few-clause-exact : goal.returns-then-not-few-clause-exact
returns-then-not-few-clause-exact c =
    too_many (view.classes c.args.context.now.classes.now) c.args.context.now.limit c.args.rounds (formulas_at c.args.bank.now c.args.premises.now) (formula_at c.args.bank.now c.args.goal) c.begin.new.bank c.go_on.new.bank c.in_ok-begun.begun.listed.list c.go_on.new.begun.listed.list c.in_ok-few.few
    c.in_ok-begun.ensures.at c.in_ok-few.ensures.done c.if-not-few.true

pub returns-clause-exact : goal.returns-clause-exact
returns-clause-exact c =
    form_done (view.classes c.args.context.now.classes.now) c.args.context.now.limit c.args.rounds (formulas_at c.args.bank.now c.args.premises.now) (formula_at c.args.bank.now c.args.goal) c.begin.new.bank c.go_on.new.bank c.in_ok-begun.begun.listed.list c.go_on.new.begun.listed.list c.in_ok-few.few
    c.in_ok-begun.ensures.at c.in_ok-few.ensures.done c.if-not-few.false

pub returns-clause-in_bank : goal.returns-clause-in_bank
returns-clause-in_bank c = c.in_ok-few.ensures.done.has.has

pub returns-clause-has_choices : goal.returns-clause-has_choices
returns-clause-has_choices c =
    (grounded_later (view.classes c.args.context.now.classes.now) (formulas_at c.args.bank.now c.args.premises.now) (formula_at c.args.bank.now c.args.goal) c.begin.new.bank c.go_on.new.bank _ _ _ _ c.in_ok-begun.begun.choices.items c.go_on.new.begun.choices.items c.go_on.ensures.grown c.go_on.ensures.choices c.in_ok-begun.ensures.noted c.in_ok-few.ensures.noted).has_choices

pub returns-clause-origins : goal.returns-clause-origins
returns-clause-origins c =
    (grounded_later (view.classes c.args.context.now.classes.now) (formulas_at c.args.bank.now c.args.premises.now) (formula_at c.args.bank.now c.args.goal) c.begin.new.bank c.go_on.new.bank _ _ _ _ c.in_ok-begun.begun.choices.items c.go_on.new.begun.choices.items c.go_on.ensures.grown c.go_on.ensures.choices c.in_ok-begun.ensures.noted c.in_ok-few.ensures.noted).come

pub returns-clause-accepted : goal.returns-clause-accepted
returns-clause-accepted c =
    (grounded_later (view.classes c.args.context.now.classes.now) (formulas_at c.args.bank.now c.args.premises.now) (formula_at c.args.bank.now c.args.goal) c.begin.new.bank c.go_on.new.bank _ _ _ _ c.in_ok-begun.begun.choices.items c.go_on.new.begun.choices.items c.go_on.ensures.grown c.go_on.ensures.choices c.in_ok-begun.ensures.noted c.in_ok-few.ensures.noted).accepted
