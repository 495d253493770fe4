use Rattle.std.proofs.Common.{subst, sym, ap, ◌∙◌}
use Rattle.ss_core.specs.View as view
use Rattle.ss_terms.specs.Forms.{formula_at, formulas_at}
use Rattle.ss_rules_occurring.specs.Found.{formulas_of}
use Rattle.ss_rules_opened.specs.Matches.{tuples_at, places, AreInstances}
use Rattle.ss_rules_opened.proofs.Noted.{ok_given}
use Rattle.ss_rules_opened.proofs.instances.add_at_places.Goals as goal

pub returns-clause-noted : goal.returns-clause-noted
returns-clause-noted c =
    let b = c.args.bank.now in
    ok_given c.add_instances.result (view.classes c.args.classes.now) b c.add_instances.new.bank (formulas_of b c.args.listed.now.list) (formulas_of c.add_instances.new.bank c.add_instances.new.listed.list) c.args.listed.now.origins.items c.add_instances.new.listed.origins.items
    (subst (AreInstances (view.classes c.args.classes.now) (formulas_of b c.args.listed.now.list) (formula_at b c.args.formula.now.whole) (formula_at b c.args.formula.now.body))
    (sym (ap (tuples_at b) c.deref-2.ensures.value ∙ c.in_ok-found.ensures.are ∙ ap (λ xs. places (formulas_at b xs) c.args.formula.now.sorts.now (formula_at b c.args.formula.now.body)) c.deref.ensures.value)))
    c.add_instances.ensures.noted
