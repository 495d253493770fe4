use Rattle.std.proofs.Common.{◌∙◌, ap, sym, subst}
use Rattle.std.proofs.lemmas.Result.{IfOk-weaker}
use Rattle.ss_logic.specs.Occurring.{terms}
use Rattle.ss_terms.specs.Forms.{terms_at, formulas_at, HasTerms}
use Rattle.ss_linear.specs.Contradictions.{HasPairs}
use Rattle.ss_search_reached.specs.Groups.{AreOfOneClass, AreChained, AreWholeLinks}
use Rattle.ss_search_reached.proofs.Links.{chain_among}
use Rattle.ss_search_reached.proofs.Sums.{has_pairs, whole_links, of_one_class}
use Rattle.ss_search_reached.proofs.linking.whole_links.Goals as goal

pub returns-clause-has : goal.returns-clause-has
returns-clause-has c =
    let b = c.args.bank.now in
    let classes = c.args.classes.now in
    let ts = c.deref.result.now in
    IfOk-weaker c.chain.result (λ v. AreChained classes ts v.items) (λ v. HasPairs b v.items)
    (λ v h. has_pairs b classes ts v.items (subst (HasTerms b) (sym c.deref.ensures.value) c.in_ok-terms.ensures.has) (chain_among classes ts v.items h))
    c.chain.ensures

pub returns-clause-links : goal.returns-clause-links
returns-clause-links c = λ cs of.
    let b = c.args.bank.now in
    let classes = c.args.classes.now in
    let ts = c.deref.result.now in
    let xs = terms (formulas_at b c.args.fs.now) in
    IfOk-weaker c.chain.result (λ v. AreChained classes ts v.items) (λ v. AreWholeLinks cs b classes xs v.items)
    (λ v h. whole_links cs b classes xs ts v.items (subst (HasTerms b) (sym c.deref.ensures.value) c.in_ok-terms.ensures.has) (ap (terms_at b) c.deref.ensures.value ∙ c.in_ok-terms.ensures.whole cs of) h)
    c.chain.ensures

pub returns-clause-one_class : goal.returns-clause-one_class
returns-clause-one_class c =
    let classes = c.args.classes.now in
    let ts = c.deref.result.now in
    IfOk-weaker c.chain.result (λ v. AreChained classes ts v.items) (λ v. AreOfOneClass classes v.items) (λ v h. of_one_class classes ts v.items (chain_among classes ts v.items h)) c.chain.ensures
