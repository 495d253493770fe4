use Rattle.std.proofs.Common.{List, ◌++◌, refl, sym, ◌∙◌, ap, subst}
use Rattle.std.specs.Prelude.{filter}
use Rattle.ss_linear.specs.Contradictions.{HasPairs, equalities_at}
use Rattle.ss_linear_rules.specs.Two.{Two}
use Rattle.ss_logic_countermodels.specs.Refuting.{is_whole, equalities}
use Rattle.ss_terms.specs.declared.forms.TermId.{TermId}
use Rattle.ss_terms.specs.Forms.{formulas_at}
use Rattle.ss_rules_occurring.specs.Found.{terms_of}
use Rattle.ss_search_models.specs.Candidates.{model_at}
use Rattle.ss_search_models.proofs.Facts.{none_found, two_of}
use Rattle.ss_search_models.proofs.sums.are_unrefuted.Goals as goal

pub refute_with-requires-clause-terms : goal.refute_with-requires-clause-terms
refute_with-requires-clause-terms c = subst (λ (ps : List (TermId × TermId)). HasPairs c.args.bank.now ps) (sym c.as_slice-pairs.ensures.value) c.in_ok-equal.ensures.in_bank

pub returns : goal.returns
returns c = λ cs of none two.
    let b = c.args.bank.now in
    let m = model_at b c.args.candidate.now in
    let known = formulas_at b c.args.known.now in
    none_found c.in_ok-sums.sums c.is_none.result (Two cs (known ++ equalities_at b c.as_slice-pairs.result.now) → ⊥) c.is_none.ensures none (c.in_ok-sums.ensures.none cs of)
    (two_of cs known known (equalities_at b c.as_slice-pairs.result.now) (equalities m (filter (is_whole cs) (terms_of b c.args.candidate.now.terms.now)))
    refl (ap (equalities_at b) c.as_slice-pairs.ensures.value ∙ c.in_ok-equal.ensures.equal cs of) two)
