use Rattle.std.proofs.Common.{◌≡◌, ◌∙◌, ap, sym, subst}
use Rattle.std.specs.Prelude.{IfOk, filter}
use Rattle.ss_logic_countermodels.specs.Refuting.{is_whole}
use Rattle.ss_terms.specs.Forms.{terms_at, HasTerms}
use Rattle.ss_search_reached.proofs.basics.whole_terms.Goals as goal

pub whole-requires : goal.whole-requires
whole-requires c = subst (HasTerms c.args.bank.now) (sym c.deref.ensures.value) c.in_ok-terms.ensures.has

pub returns-clause-whole : goal.returns-clause-whole
returns-clause-whole c = λ cs of.
    subst (λ xs. IfOk c.whole.result (λ v. terms_at c.args.bank.now v.items ≡ filter (is_whole cs) xs)) (ap (terms_at c.args.bank.now) c.deref.ensures.value ∙ c.in_ok-terms.ensures.are) (c.whole.ensures.whole cs of)
