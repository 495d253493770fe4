use Rattle.std.proofs.Common.{◌≡◌, List, sym, ◌∙◌, ap, subst}
use Rattle.std.specs.Prelude.{filter}
use Rattle.std.proofs.lemmas.Result.{IfOk-weaker}
use Rattle.ss_logic.specs.Formulas.{Formula}
use Rattle.ss_linear.specs.Contradictions.{HasPairs, equalities_at}
use Rattle.ss_linear.specs.Met.{Follow}
use Rattle.ss_logic_countermodels.specs.Refuting.{is_whole, equalities}
use Rattle.ss_terms.specs.declared.forms.TermId.{TermId}
use Rattle.ss_rules_occurring.specs.Found.{terms_of}
use Rattle.ss_search_models.specs.declared.wholes.Whole.{Whole}
use Rattle.ss_search_models.specs.Candidates.{model_at}
use Rattle.ss_search_models.specs.Wholes.{wholes_at, AreClassed, pairs_in, nexts_in}
use Rattle.ss_search_models.proofs.Equalities.{equal_in, have_nexts}
use Rattle.ss_search_models.proofs.Following.{follow_nexts}
use Rattle.ss_search_models.proofs.sums.next_terms.Goals as goal

pub returns-clause-in_bank : goal.returns-clause-in_bank
returns-clause-in_bank c =
    let b = c.args.bank.now in
    let ws = c.as_slice-terms.result.now in
    let classed = subst (λ (us : List Whole). AreClassed b c.args.candidate.now us) (sym c.as_slice-terms.ensures.value) c.in_ok-found.ensures.classed in
    IfOk-weaker c.next_pairs.result (λ v. v.items ≡ nexts_in ws) (λ v. HasPairs b v.items)
    (λ v e. subst (λ (ps : List (TermId × TermId)). HasPairs b ps) (sym e) (have_nexts b c.args.candidate.now ws classed)) c.next_pairs.ensures

pub returns-clause-follow : goal.returns-clause-follow
returns-clause-follow c =
    let b = c.args.bank.now in
    let m = model_at b c.args.candidate.now in
    let ws = c.as_slice-terms.result.now in
    let classed = subst (λ (us : List Whole). AreClassed b c.args.candidate.now us) (sym c.as_slice-terms.ensures.value) c.in_ok-found.ensures.classed in
    λ cs of.
    let es = equalities m (filter (is_whole cs) (terms_of b c.args.candidate.now.terms.now)) in
    let equal : equalities_at b (pairs_in ws) ≡ es = equal_in b c.args.candidate.now ws classed ∙ ap (equalities m) (ap (wholes_at b) c.as_slice-terms.ensures.value ∙ c.in_ok-found.ensures.terms cs of) in
    IfOk-weaker c.next_pairs.result (λ v. v.items ≡ nexts_in ws) (λ v. Follow cs es (equalities_at b v.items))
    (λ v e. subst (λ (ps : List (TermId × TermId)). Follow cs es (equalities_at b ps)) (sym e) (subst (λ (fs : List Formula). Follow cs fs (equalities_at b (nexts_in ws))) equal (follow_nexts cs b ws))) c.next_pairs.ensures
