use Rattle.std.proofs.Common.{◌≡◌, true, sym, subst}
use Rattle.std.proofs.lemmas.Result.{IfOk-weaker}
use Rattle.ss_logic.specs.Occurring.{terms}
use Rattle.ss_terms.specs.Forms.{formulas_at}
use Rattle.ss_linear.specs.Contradictions.{HasPairs, equalities_at, Pairs}
use Rattle.ss_linear.specs.Met.{AreMet}
use Rattle.ss_search_clashes.specs.Numbered.{class_of}
use Rattle.ss_search_reached.specs.Following.{HasNoSum}
use Rattle.ss_search_reached.specs.Groups.{AreWholeLinks}
use Rattle.ss_search_reached.proofs.Sums.{seen_no_sum}
use Rattle.ss_search_reached.proofs.summing.numbers_are_seen.Goals as goal

pub are_met-requires-clause-terms : goal.are_met-requires-clause-terms
are_met-requires-clause-terms c = subst (HasPairs c.args.bank.now) (sym c.deref.ensures.value) c.in_ok-links.ensures.has

pub returns : goal.returns
returns c = λ cs of.
    let b = c.args.bank.now in
    let classes = c.args.classes.now in
    let known = formulas_at b c.args.known.now in
    let ps = c.deref.result.now in
    let links = subst (λ (qs : Pairs). AreWholeLinks cs b classes (terms known) qs) (sym c.deref.ensures.value) (c.in_ok-links.ensures.links cs of) in
    IfOk-weaker c.are_met.result (λ r. r ≡ true → AreMet cs known (equalities_at b ps)) (λ r. r ≡ true → HasNoSum cs (class_of b classes) known)
    (λ r h yes. seen_no_sum cs b classes c.args.known.now ps (c.classes_are_of_terms.ensures classes) links (h yes)) (c.are_met.ensures cs of)
