use Rattle.std.proofs.Common.{◌≡◌, subst, sym, refl}
use Rattle.ss_terms.specs.declared.forms.TermId.{TermId}
use Rattle.ss_terms.specs.Forms.{term_at, term_of, term_shape, IsGrown, HasTerm, HasArguments}
use Rattle.ss_terms.specs.Bank.{IsBank, IsBesideTerm, forms_of}
use Rattle.ss_terms.proofs.Banks.{IsBank-term, IsGrown-term, term_new, term_there}
use Rattle.ss_terms.proofs.bank.Bank.term.Goals as goal

pub returns-in-Some-clause-at : goal.returns-in-Some-clause-at
returns-in-Some-clause-at c =
    subst (λ b. HasTerm b (record { 0 = c.in-Some.number }) × (term_at b (record { 0 = c.in-Some.number }) ≡ term_of (term_at b) (term_shape c.args.node))) c.self.view_is
    (term_there c.self.inside.fields.items c.self.inside.terms.entries c.self.inside.formulas.entries c.self.invariant (record { 0 = c.in-Some.number }) (term_shape c.args.node) c.in-Some.ensures.found)

pub invariant_of-self-2 : goal.invariant_of-self-2
invariant_of-self-2 c =
    let fs = c.self.inside.fields.items in
    let es = c.self.inside.formulas.entries in
    subst (λ ts. IsBank fs ts es) (sym c.in_ok-number.ensures.added)
    (IsBank-term c.self.inside.fields.items c.self.inside.terms.entries c.self.inside.formulas.entries c.self.invariant (c.args.node, c.in_ok-beside.beside)
    (subst (λ b. HasArguments b (term_shape c.args.node)) (sym c.self.view_is) c.requires)
    (c.in_default.ensures.absent refl)
    (subst (λ b. IsBesideTerm b (term_of (term_at b) (term_shape c.args.node)) c.in_ok-beside.beside) (sym c.self.view_is) c.in_ok-beside.ensures))

pub returns-clause-at : goal.returns-clause-at
returns-clause-at c =
    let t : TermId = record { 0 = c.in_ok-number.number } in
    let fs = c.self.inside.fields.items in
    let es = c.self.inside.formulas.entries in
    subst (λ b. HasTerm (forms_of fs c.add_term.new.terms.entries es) t × (term_at (forms_of fs c.add_term.new.terms.entries es) t ≡ term_of (term_at b) (term_shape c.args.node))) c.self.view_is
    (subst (λ ts. HasTerm (forms_of fs ts es) t × (term_at (forms_of fs ts es) t ≡ term_of (term_at (forms_of fs c.self.inside.terms.entries es)) (term_shape c.args.node))) (sym c.in_ok-number.ensures.added)
    (term_new c.self.inside.fields.items c.self.inside.terms.entries c.self.inside.formulas.entries c.self.invariant (c.args.node, c.in_ok-beside.beside) t c.in_ok-number.ensures.number))

pub returns-clause-grown : goal.returns-clause-grown
returns-clause-grown c =
    let fs = c.self.inside.fields.items in
    let es = c.self.inside.formulas.entries in
    subst (λ b. IsGrown b (forms_of fs c.add_term.new.terms.entries es)) c.self.view_is
    (subst (λ ts. IsGrown (forms_of fs c.self.inside.terms.entries es) (forms_of fs ts es)) (sym c.in_ok-number.ensures.added)
    (IsGrown-term c.self.inside.fields.items c.self.inside.terms.entries c.self.inside.formulas.entries c.self.invariant (c.args.node, c.in_ok-beside.beside)))
