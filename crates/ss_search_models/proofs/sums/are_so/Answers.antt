use Rattle.std.proofs.Common.{◌≡◌, List, ◌++◌, true, sym, subst}
use Rattle.std.specs.Prelude.{filter}
use Rattle.std.proofs.lemmas.Result.{IfOk-weaker}
use Rattle.ss_linear.specs.Contradictions.{HasPairs, equalities_at}
use Rattle.ss_linear.specs.Met.{AreMet, Follow}
use Rattle.ss_linear_rules.specs.Two.{Two}
use Rattle.ss_logic_countermodels.specs.Refuting.{is_whole, equalities}
use Rattle.ss_terms.specs.declared.forms.TermId.{TermId}
use Rattle.ss_terms.specs.Forms.{formulas_at}
use Rattle.ss_rules_occurring.specs.Found.{terms_of}
use Rattle.ss_search_models.specs.Candidates.{model_at}
use Rattle.ss_search_models.proofs.Following.{so_no_two}
use Rattle.ss_search_models.proofs.sums.are_so.Goals as goal

pub are_met-requires-clause-terms : goal.are_met-requires-clause-terms
are_met-requires-clause-terms c = subst (λ (ps : List (TermId × TermId)). HasPairs c.args.bank.now ps) (sym c.as_slice-pairs.ensures.value) c.in_ok-next.ensures.in_bank

pub returns : goal.returns
returns c = λ cs of.
    let b = c.args.bank.now in
    let known = formulas_at b c.args.known.now in
    let es = equalities (model_at b c.args.candidate.now) (filter (is_whole cs) (terms_of b c.args.candidate.now.terms.now)) in
    let pairs = c.as_slice-pairs.result.now in
    let follow = subst (λ (ps : List (TermId × TermId)). Follow cs es (equalities_at b ps)) (sym c.as_slice-pairs.ensures.value) (c.in_ok-next.ensures.follow cs of) in
    IfOk-weaker c.are_met.result (λ r. r ≡ true → AreMet cs known (equalities_at b pairs)) (λ r. r ≡ true → Two cs (known ++ es) → ⊥)
    (λ r h yes two. so_no_two cs known es (equalities_at b pairs) follow (h yes) two) (c.are_met.ensures cs of)
