use Rattle.std.proofs.Common.{◌≡◌, true, arith, rules, sym, subst}
use Rattle.std.proofs.lemmas.Grind.{common_steps}
use Rattle.std.proofs.lemmas.List.{take_all}
use Rattle.std.specs.List.{AllByRecursion}
use Rattle.ss_terms.specs.declared.forms.TermId.{TermId}
use Rattle.ss_terms.specs.Forms.{term_at, terms_at, HasTerms}
use Rattle.ss_search_models.specs.Said.{IsFunctionSaid, are_functions_of_classes}
use Rattle.ss_terms.proofs.Tested.{AreTermsBelow-get}
use Rattle.ss_search_models.specs.Candidates.{model_at}
use Rattle.ss_search_models.proofs.Said.{all_more, function_kept, functions_said}
use Rattle.ss_search_models.proofs.agreeing.functions_agree.Goals as goal

pub function_agrees-requires-clause-term : goal.function_agrees-requires-clause-term
function_agrees-requires-clause-term c =
    AreTermsBelow-get _ c.deref-t-items.result.now c.loop-t.t-index (record { 0 = 0 }) (subst (HasTerms c.args.bank.now) (sym c.deref-t-items.ensures.value) c.requires.terms.has) c.loop-t-test.true

pub loop-t-preserved : goal.loop-t-preserved
loop-t-preserved c =
    let agreed : c.in_ok-function_agrees.field-0 ≡ true = first_of (search rules, grind (arith, common_steps)) in
    let b = c.args.bank.now in
    let m = model_at b c.args.candidate.now in
    all_more (λ (x : TermId). IsFunctionSaid c.loop-t.signatures m (term_at b x)) (λ (x : TermId). IsFunctionSaid c.function_agrees.new.signatures m (term_at b x))
    (λ (x : TermId) h. function_kept c.loop-t.signatures c.function_agrees.new.signatures m c.in_ok-function_agrees.ensures.kept (term_at b x) h)
    c.deref-t-items.result.now c.loop-t.t-index (record { 0 = 0 }) c.loop-t-test.true c.loop-t.invariant (c.in_ok-function_agrees.ensures.said agreed)

pub returns : goal.returns
returns c = λ e.
    let b = c.args.bank.now in
    let m = model_at b c.args.candidate.now in
    subst (λ xs. are_functions_of_classes m (terms_at b xs) ≡ true) c.deref-t-items.ensures.value
    (functions_said c.loop-t.signatures m b c.deref-t-items.result.now
    (subst (AllByRecursion (λ (x : TermId). IsFunctionSaid c.loop-t.signatures m (term_at b x))) (take_all c.loop-t.t-index c.deref-t-items.result.now c.loop-t-test.false) c.loop-t.invariant))
