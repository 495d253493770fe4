use Rattle.std.proofs.Common.{◌≡◌, List, take, refl, sym, ◌∙◌, ap, subst}
use Rattle.ss_terms.specs.declared.forms.Term.{Term}
use Rattle.ss_terms.specs.declared.forms.Formula.{Formula}
use Rattle.ss_terms.specs.declared.bank.Beside.{Beside}
use Rattle.ss_terms.specs.declared.bank.BesideTerm.{BesideTerm}
use Rattle.ss_terms.specs.Forms.{IsClosed, IsGrown, front}
use Rattle.ss_terms.specs.Bank.{IsBank, forms_of}
use Rattle.ss_terms.proofs.Fronts.{front_is, IsGrown-front, IsBank-front}
use Rattle.ss_terms.proofs.bank.Bank.forget.Goals as goal

-- what holds of the first entries holds of what stays
kept : (P : List (Term × BesideTerm) → List (Formula × Beside) → Type 0) (ts us : List (Term × BesideTerm)) (es gs : List (Formula × Beside)) → us ≡ ts → gs ≡ es → P ts es → P us gs
kept P ts us es gs t e p = subst (λ l. P l gs) (sym t) (subst (λ l. P ts l) (sym e) p)

pub invariant_of-self : goal.invariant_of-self
invariant_of-self c =
    let fs = c.self.inside.fields.items in
    let ts = c.self.inside.terms.entries in
    let es = c.self.inside.formulas.entries in
    let m = c.args.mark.terms in
    let k = c.args.mark.formulas in
    kept (IsBank fs) (take m ts) c.truncate.new.self.entries (take k es) c.truncate-2.new.self.entries c.truncate.ensures.entries c.truncate-2.ensures.entries
    (IsBank-front fs ts es m k (subst (IsClosed m k) (sym c.self.view_is) (c.if-not-is_closed.ensures refl)) c.self.invariant)

pub returns-clause-forgotten : goal.returns-clause-forgotten
returns-clause-forgotten c = λ _.
    let fs = c.self.inside.fields.items in
    let ts = c.self.inside.terms.entries in
    let es = c.self.inside.formulas.entries in
    let m = c.args.mark.terms in
    let k = c.args.mark.formulas in
    kept (λ us gs. forms_of fs us gs ≡ front m k c.args.self.now) (take m ts) c.truncate.new.self.entries (take k es) c.truncate-2.new.self.entries c.truncate.ensures.entries c.truncate-2.ensures.entries
    (front_is fs ts es m k ∙ ap (front m k) c.self.view_is)

pub returns-clause-closed : goal.returns-clause-closed
returns-clause-closed c = λ _. c.if-not-is_closed.ensures refl

pub returns-clause-grown : goal.returns-clause-grown
returns-clause-grown c = λ marked g terms formulas.
    let fs = c.self.inside.fields.items in
    let ts = c.self.inside.terms.entries in
    let es = c.self.inside.formulas.entries in
    let m = c.args.mark.terms in
    let k = c.args.mark.formulas in
    kept (λ us gs. IsGrown marked (forms_of fs us gs)) (take m ts) c.truncate.new.self.entries (take k es) c.truncate-2.new.self.entries c.truncate.ensures.entries c.truncate-2.ensures.entries
    (IsGrown-front fs ts es m k (subst (IsClosed m k) (sym c.self.view_is) (c.if-not-is_closed.ensures refl)) marked (subst (IsGrown marked) (sym c.self.view_is) g) terms formulas)
