use Rattle.std.proofs.Common.{◌≡◌, List, [], length, subst, sym, refl}
use Rattle.ss_core.specs.Tree.{ClassTree}
use Rattle.ss_logic.specs.Formulas.{is_well_formed}
use Rattle.ss_terms.specs.declared.bank.Beside.{Beside}
use Rattle.ss_terms.specs.Forms.{pair_at, term_at, formula_at, formula_of, shape_of, IsGrown, HasParts, IsBankOf}
use Rattle.ss_terms.specs.Highest.{highest}
use Rattle.ss_terms.specs.Bank.{IsBank, forms_of}
use Rattle.ss_terms.proofs.Banks.{IsBank-pair, IsGrown-pair, pair_added, pair_built}
use Rattle.ss_terms.proofs.bank.Bank.pair.Goals as goal

pub returns-in-Some-clause-at : goal.returns-in-Some-clause-at
returns-in-Some-clause-at c =
    subst (λ b. pair_at b c.in-Some.number ≡ formula_of (term_at b) (formula_at b) (shape_of c.args.plain)) c.self.view_is
    (pair_built c.self.inside.fields.items c.self.inside.terms.entries c.self.inside.formulas.entries c.self.invariant c.in-Some.number (shape_of c.args.plain) c.in-Some.ensures.found)

pub invariant_of-self-2 : goal.invariant_of-self-2
invariant_of-self-2 c =
    let fs = c.self.inside.fields.items in
    let ts = c.self.inside.terms.entries in
    let es = c.self.inside.formulas.entries in
    let beside : Beside = record { negation = c.in_ok-negation.negation; is_well_formed = c.in_ok-is_well_formed.is_well_formed; highest = c.highest_of_form-highest.result; terms = c.term_count-terms.result } in
    subst (λ all. IsBank fs ts all) (sym c.in_ok-number.ensures.added)
    (IsBank-pair fs ts es c.self.invariant (c.args.plain, beside) c.requires.plain
    (subst (λ b. HasParts b (shape_of c.args.plain)) (sym c.self.view_is) c.requires.parts)
    (c.in_default.ensures.absent refl) c.in_ok-negation.ensures
    (subst (λ b. (cs : List ClassTree) → IsBankOf cs b → c.in_ok-is_well_formed.is_well_formed ≡ is_well_formed cs [] (formula_of (term_at b) (formula_at b) (shape_of c.args.plain))) (sym c.self.view_is) c.in_ok-is_well_formed.ensures)
    (subst (λ b. c.highest_of_form-highest.result ≡ highest (formula_of (term_at b) (formula_at b) (shape_of c.args.plain))) (sym c.self.view_is) c.highest_of_form-highest.ensures)
    (subst (λ b. c.term_count-terms.result ≡ length b.terms) (sym c.self.view_is) c.term_count-terms.ensures))

pub returns-clause-at : goal.returns-clause-at
returns-clause-at c =
    let fs = c.self.inside.fields.items in
    let ts = c.self.inside.terms.entries in
    let es = c.self.inside.formulas.entries in
    let beside : Beside = record { negation = c.in_ok-negation.negation; is_well_formed = c.in_ok-is_well_formed.is_well_formed; highest = c.highest_of_form-highest.result; terms = c.term_count-terms.result } in
    subst (λ b. pair_at (forms_of fs ts c.add_formula.new.formulas.entries) c.in_ok-number.number ≡ formula_of (term_at b) (formula_at b) (shape_of c.args.plain)) c.self.view_is
    (subst (λ all. pair_at (forms_of fs ts all) c.in_ok-number.number ≡ formula_of (term_at (forms_of fs ts es)) (formula_at (forms_of fs ts es)) (shape_of c.args.plain)) (sym c.in_ok-number.ensures.added)
    (pair_added fs ts es c.self.invariant (c.args.plain, beside) c.in_ok-number.number c.in_ok-number.ensures.number).1)

pub returns-clause-grown : goal.returns-clause-grown
returns-clause-grown c =
    let fs = c.self.inside.fields.items in
    let ts = c.self.inside.terms.entries in
    let es = c.self.inside.formulas.entries in
    let beside : Beside = record { negation = c.in_ok-negation.negation; is_well_formed = c.in_ok-is_well_formed.is_well_formed; highest = c.highest_of_form-highest.result; terms = c.term_count-terms.result } in
    subst (λ b. IsGrown b (forms_of fs ts c.add_formula.new.formulas.entries)) c.self.view_is
    (subst (λ all. IsGrown (forms_of fs ts es) (forms_of fs ts all)) (sym c.in_ok-number.ensures.added)
    (IsGrown-pair fs ts es c.self.invariant (c.args.plain, beside)))
