use Rattle.std.proofs.Common.{◌∙◌, length, subst, sym, arith}
use Rattle.ss_terms.specs.Forms.{HasTerms}
use Rattle.ss_terms.proofs.Trees.{AreTermsBelow-more}
use Rattle.ss_search_clashes.proofs.Arguments.{arguments_are, not_bound}
use Rattle.ss_search_clashes.proofs.needed.arguments.Goals as goal

pub returns-in-App-clause-there : goal.returns-in-App-clause-there
returns-in-App-clause-there c =
    let form = rw c.in-App.is at c.term_node.ensures in
    subst (HasTerms c.args.bank.now) (sym c.deref.ensures.value) (AreTermsBelow-more c.args.t (length c.args.bank.now.terms) (omega (arith, c.requires)) c.in-App.arguments.items form.below)

pub returns-in-App-clause-arguments : goal.returns-in-App-clause-arguments
returns-in-App-clause-arguments c = λ ts forms f xs at.
    let form = rw c.in-App.is at c.term_node.ensures in
    c.deref.ensures.value ∙ arguments_are c.args.bank.now c.numbers_are_apart.ensures ts forms c.args.t f c.in-App.field-0 xs c.in-App.arguments.items at
    (AreTermsBelow-more c.args.t (length c.args.bank.now.terms) (omega (arith, c.requires)) c.in-App.arguments.items form.below) form.built

pub returns-in-Bound-clause-arguments : goal.returns-in-Bound-clause-arguments
returns-in-Bound-clause-arguments c = λ ts forms f xs at.
    let form = rw c.in-Bound.is at c.term_node.ensures in
    absurd (not_bound c.args.bank.now c.numbers_are_apart.ensures ts forms c.args.t f xs c.in-Bound.field-0 at form.built)
