use Rattle.std.proofs.Common.{◌∙◌, ap, sym, subst, []}
use Rattle.std.specs.Prelude.{IfOk}
use Rattle.ss_logic.specs.Occurring.{with_terms_of_all}
use Rattle.ss_terms.specs.Forms.{formulas_at, HasFormulas}
use Rattle.ss_rules_occurring.specs.Found.{HoldsTerms}
use Rattle.ss_search_reached.proofs.basics.all_terms.Goals as goal

pub terms-requires : goal.terms-requires
terms-requires c = subst (HasFormulas c.args.bank.now) (sym c.deref.ensures.value) c.in_ok-atoms.ensures.has

pub returns : goal.returns
returns c =
    subst (λ fs. IfOk c.terms.result (λ found. HoldsTerms c.args.bank.now found (with_terms_of_all [] fs))) (ap (formulas_at c.args.bank.now) c.deref.ensures.value ∙ c.in_ok-atoms.ensures.are) c.terms.ensures
