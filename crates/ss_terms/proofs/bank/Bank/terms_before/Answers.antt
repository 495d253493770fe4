use Rattle.std.proofs.Common.{◌≡◌, ◌+◌, ◌-◌, subst, arith}
use Rattle.ss_terms.specs.Forms.{AreNamed}
use Rattle.ss_terms.specs.Bank.{forms_of}
use Rattle.ss_terms.proofs.Fronts.{named_value}
use Rattle.ss_terms.proofs.bank.Bank.terms_before.Goals as goal

pub returns-else-formulas-eq0 : goal.returns-else-formulas-eq0
returns-else-formulas-eq0 c =
    let fs = c.self.inside.fields.items in
    let ts = c.self.inside.terms.entries in
    let es = c.self.inside.formulas.entries in
    let all : c.args.formulas - 1 + 1 ≡ c.args.formulas = omega (arith, c.if-formulas-eq0.false) in
    subst (λ b. AreNamed c.index.result.now.terms c.args.formulas b) c.self.view_is
    (subst (λ k. AreNamed c.index.result.now.terms k (forms_of fs ts es)) all
    (named_value fs ts es c.self.invariant (c.args.formulas - 1) c.index.result.now c.index.ensures))
