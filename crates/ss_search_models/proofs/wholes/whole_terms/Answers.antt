use Rattle.std.proofs.Common.{◌≡◌, List, sym, ◌∙◌, subst}
use Rattle.std.specs.Prelude.{filter}
use Rattle.std.proofs.lemmas.List.{take_all}
use Rattle.ss_logic_countermodels.specs.Refuting.{is_whole}
use Rattle.ss_terms.specs.declared.forms.TermId.{TermId}
use Rattle.ss_terms.specs.Forms.{terms_at, HasTerms}
use Rattle.ss_terms.proofs.Tested.{AreTermsBelow-get}
use Rattle.ss_search_models.specs.Wholes.{wholes_at}
use Rattle.ss_search_models.proofs.Equalities.{whole_more}
use Rattle.ss_search_models.proofs.wholes.whole_terms.Goals as goal

pub add_whole-requires-clause-term : goal.add_whole-requires-clause-term
add_whole-requires-clause-term c =
    AreTermsBelow-get _ c.deref-t-items.result.now c.loop-t.t-index (record { 0 = 0 }) (subst (HasTerms c.args.bank.now) (sym c.deref-t-items.ensures.value) c.requires.terms.has) c.loop-t-test.true

pub loop-t-preserved : goal.loop-t-preserved
loop-t-preserved c = record {
  classed = c.in_ok-add_whole.ensures.classed;
  terms = λ cs of.
      whole_more c.args.bank.now (is_whole cs) c.deref-t-items.result.now c.loop-t.t-index (record { 0 = 0 }) (wholes_at c.args.bank.now c.loop-t.found.items) (wholes_at c.args.bank.now c.add_whole.new.found.items)
      c.loop-t-test.true (c.loop-t.invariant.terms cs of) (c.in_ok-add_whole.ensures.terms cs of);
}

pub returns-clause-terms : goal.returns-clause-terms
returns-clause-terms c = λ cs of.
    subst (λ (ts : List TermId). wholes_at c.args.bank.now c.loop-t.found.items ≡ filter (is_whole cs) (terms_at c.args.bank.now ts))
    (take_all c.loop-t.t-index c.deref-t-items.result.now c.loop-t-test.false ∙ c.deref-t-items.ensures.value) (c.loop-t.invariant.terms cs of)
