use Rattle.std.proofs.Common.{◌≡◌, Some, ◌∙◌, ap, map}
use Rattle.ss_terms.specs.Forms.{term_at, terms_at, symbol_of}
use Rattle.ss_search_models.specs.declared.signatures.Given.TheVariants as given
use Rattle.ss_search_models.specs.Candidates.{model_at, class_at}
use Rattle.ss_search_models.specs.Keys.{FunctionKey, given_to}
use Rattle.ss_search_models.specs.Said.{IsFunctionSaid}
use Rattle.ss_search_models.proofs.Said.{bound_said, function_said, arguments_there, if_agreed}
use Rattle.ss_search_models.proofs.agreeing.function_agrees.Goals as goal

pub returns-in-Bound-clause-said : goal.returns-in-Bound-clause-said
returns-in-Bound-clause-said c = λ h.
    bound_said c.args.signatures.now (model_at c.args.bank.now c.args.candidate.now) c.args.bank.now c.args.t c.in-Bound.field-0 (rw c.in-Bound.is at c.term_node.ensures)

pub classes_of-requires-clause-terms : goal.classes_of-requires-clause-terms
classes_of-requires-clause-terms c =
    arguments_there c.args.bank.now c.args.t c.in-App.symbol c.in-App.arguments c.deref.result.now c.requires.term (rw c.in-App.is at c.term_node.ensures) c.deref.ensures.value

pub returns-in_ok-classes-in-App-clause-said : goal.returns-in_ok-classes-in-App-clause-said
returns-in_ok-classes-in-App-clause-said c =
    let b = c.args.bank.now in
    let m = model_at b c.args.candidate.now in
    if_agreed (given_to c.agrees.new.self (FunctionKey (symbol_of c.in-App.symbol) c.in_ok-classes-in-App.classes.items) ≡ Some (given.Class c.class.result)) (IsFunctionSaid c.agrees.new.self m (term_at b c.args.t)) c.agrees.result
    (λ h. function_said c.agrees.new.self m b c.args.t c.in-App.symbol c.in-App.arguments c.in_ok-classes-in-App.classes.items c.class.result (rw c.in-App.is at c.term_node.ensures)
    (c.in_ok-classes-in-App.ensures ∙ ap (λ xs. map (class_at b c.args.candidate.now) (terms_at b xs)) c.deref.ensures.value) c.class.ensures h)
    c.agrees.ensures.given
