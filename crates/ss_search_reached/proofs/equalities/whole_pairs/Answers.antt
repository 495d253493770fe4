use Rattle.std.proofs.Common.{◌∙◌, ap, sym, subst}
use Rattle.std.proofs.lemmas.Result.{IfOk-weaker}
use Rattle.ss_logic.specs.Occurring.{terms}
use Rattle.ss_terms.specs.Forms.{terms_at, formulas_at, HasTerms}
use Rattle.ss_linear.specs.Contradictions.{HasPairs}
use Rattle.ss_search_reached.specs.Groups.{ArePairs, AreOfOneClass, AreWholePairs}
use Rattle.ss_search_reached.proofs.Sums.{has_pairs, whole_pairs, of_one_class}
use Rattle.ss_search_reached.proofs.equalities.whole_pairs.Goals as goal

pub returns-clause-has : goal.returns-clause-has
returns-clause-has c =
    let b = c.args.bank.now in
    let ts = c.deref.result.now in
    IfOk-weaker c.pairs.result (λ v. ArePairs c.args.classes.now ts v.items) (λ v. HasPairs b v.items)
    (λ v h. has_pairs b c.args.classes.now ts v.items (subst (HasTerms b) (sym c.deref.ensures.value) c.in_ok-terms.ensures.has) h.only)
    c.pairs.ensures

pub returns-clause-pairs : goal.returns-clause-pairs
returns-clause-pairs c = λ cs of.
    let b = c.args.bank.now in
    let ts = c.deref.result.now in
    let xs = terms (formulas_at b c.args.fs.now) in
    IfOk-weaker c.pairs.result (λ v. ArePairs c.args.classes.now ts v.items) (λ v. AreWholePairs cs b c.args.classes.now xs v.items)
    (λ v h. whole_pairs cs b c.args.classes.now xs ts v.items (subst (HasTerms b) (sym c.deref.ensures.value) c.in_ok-terms.ensures.has) (ap (terms_at b) c.deref.ensures.value ∙ c.in_ok-terms.ensures.whole cs of) h)
    c.pairs.ensures

pub returns-clause-one_class : goal.returns-clause-one_class
returns-clause-one_class c =
    let ts = c.deref.result.now in
    IfOk-weaker c.pairs.result (λ v. ArePairs c.args.classes.now ts v.items) (λ v. AreOfOneClass c.args.classes.now v.items) (λ v h. of_one_class c.args.classes.now ts v.items h.only) c.pairs.ensures
