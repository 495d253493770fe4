use Rattle.std.proofs.Common.{◌∙◌, [], ap, sym, subst}
use Rattle.ss_equality_rules.specs.Equal.{Equations, AreFormsOf}
use Rattle.ss_equality_rules.specs.Whole.{IsWhole}
use Rattle.ss_equality.proofs.Keeping.{begun}
use Rattle.ss_equality.proofs.congruence.Congruence.begin.Goals as goal

pub invariant_of-self : goal.invariant_of-self
invariant_of-self c = begun c.sign_first.new.classes.forms c.self.inside.stands.items c.sign_first.new.classes.log c.sign_first.new.signatures (ap (λ (v : Equations). v.merges) c.self.view_is ∙ c.requires)
    (subst (λ fs. IsWhole fs [] c.sign_first.new.classes.log c.sign_first.new.signatures) (sym c.in_ok-sign_first.ensures.forms) c.in_ok-sign_first.ensures.whole)

pub returns-clause-terms : goal.returns-clause-terms
returns-clause-terms c = subst (AreFormsOf c.args.bank.now) (sym c.in_ok-sign_first.ensures.forms) c.in_ok-enter_all.ensures.forms
