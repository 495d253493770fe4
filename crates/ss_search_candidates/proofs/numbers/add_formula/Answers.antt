use Rattle.std.proofs.Common.{subst, sym, List}
use Rattle.ss_terms.specs.declared.forms.FormulaId.{FormulaId}
use Rattle.ss_terms.specs.Forms.{HasFormulas}
use Rattle.ss_search_state.proofs.Listing.{has_one_more}
use Rattle.ss_search_candidates.proofs.numbers.add_formula.Goals as goal

pub returns : goal.returns
returns c =
    subst (λ (fs : List FormulaId). HasFormulas c.args.bank.now fs) (sym c.in_ok-push.ensures.items)
    (has_one_more c.args.bank.now c.args.list.now.items (record { 0 = c.args.number }) c.requires (c.has_formula.ensures.0 c.if-not-has_formula.false))
