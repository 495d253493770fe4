use Rattle.std.proofs.Common.{◌≡◌, Some, ◌∙◌, ap, map}
use Rattle.ss_terms.specs.Forms.{formula_at, terms_at, predicate_of}
use Rattle.ss_search_models.specs.declared.signatures.Given.TheVariants as given
use Rattle.ss_search_models.specs.Candidates.{model_at, class_at}
use Rattle.ss_search_models.specs.Keys.{AtomKey, given_to}
use Rattle.ss_search_models.specs.Said.{IsAtomSaid}
use Rattle.ss_search_models.proofs.Said.{atom_said, if_agreed}
use Rattle.ss_search_models.proofs.agreeing.atom_agrees.Goals as goal

pub returns-in_ok-classes-in-Literal-clause-said : goal.returns-in_ok-classes-in-Literal-clause-said
returns-in_ok-classes-in-Literal-clause-said c =
    let b = c.args.bank.now in
    let m = model_at b c.args.candidate.now in
    if_agreed (given_to c.agrees.new.self (AtomKey (predicate_of c.in-Literal.predicate) c.in_ok-classes-in-Literal.classes.items) ≡ Some (given.Truth c.truth.result)) (IsAtomSaid c.agrees.new.self m (formula_at b c.args.f)) c.agrees.result
    (λ h. atom_said c.agrees.new.self m b c.args.f c.in-Literal.holds c.in-Literal.predicate c.in-Literal.arguments c.in_ok-classes-in-Literal.classes.items c.truth.result (rw c.in-Literal.is at c.formula_node.ensures)
    (c.in_ok-classes-in-Literal.ensures ∙ ap (λ xs. map (class_at b c.args.candidate.now) (terms_at b xs)) c.deref.ensures.value) c.truth.ensures h)
    c.agrees.ensures.given
