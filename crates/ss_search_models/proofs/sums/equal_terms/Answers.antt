use Rattle.std.proofs.Common.{◌≡◌, List, sym, ◌∙◌, ap, subst}
use Rattle.std.specs.Prelude.{filter}
use Rattle.std.proofs.lemmas.Result.{IfOk-weaker}
use Rattle.ss_linear.specs.Contradictions.{HasPairs, equalities_at}
use Rattle.ss_logic_countermodels.specs.Refuting.{is_whole, equalities}
use Rattle.ss_terms.specs.declared.forms.TermId.{TermId}
use Rattle.ss_rules_occurring.specs.Found.{terms_of}
use Rattle.ss_search_models.specs.declared.wholes.Whole.{Whole}
use Rattle.ss_search_models.specs.Candidates.{model_at}
use Rattle.ss_search_models.specs.Wholes.{wholes_at, AreClassed, pairs_in}
use Rattle.ss_search_models.proofs.Equalities.{equal_in, have_in}
use Rattle.ss_search_models.proofs.sums.equal_terms.Goals as goal

pub returns-clause-in_bank : goal.returns-clause-in_bank
returns-clause-in_bank c =
    let b = c.args.bank.now in
    let ws = c.as_slice-terms.result.now in
    let classed = subst (λ (us : List Whole). AreClassed b c.args.candidate.now us) (sym c.as_slice-terms.ensures.value) c.in_ok-found.ensures.classed in
    IfOk-weaker c.equal_pairs.result (λ v. v.items ≡ pairs_in ws) (λ v. HasPairs b v.items)
    (λ v e. subst (λ (ps : List (TermId × TermId)). HasPairs b ps) (sym e) (have_in b c.args.candidate.now ws classed)) c.equal_pairs.ensures

pub returns-clause-equal : goal.returns-clause-equal
returns-clause-equal c =
    let b = c.args.bank.now in
    let m = model_at b c.args.candidate.now in
    let ws = c.as_slice-terms.result.now in
    let classed = subst (λ (us : List Whole). AreClassed b c.args.candidate.now us) (sym c.as_slice-terms.ensures.value) c.in_ok-found.ensures.classed in
    λ cs of.
    IfOk-weaker c.equal_pairs.result (λ v. v.items ≡ pairs_in ws) (λ v. equalities_at b v.items ≡ equalities m (filter (is_whole cs) (terms_of b c.args.candidate.now.terms.now)))
    (λ v e. ap (equalities_at b) e ∙ equal_in b c.args.candidate.now ws classed ∙ ap (equalities m) (ap (wholes_at b) c.as_slice-terms.ensures.value ∙ c.in_ok-found.ensures.terms cs of)) c.equal_pairs.ensures
