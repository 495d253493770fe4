use Rattle.std.proofs.Common.{sym, subst}
use Rattle.ss_terms.specs.Forms.{HasFormulas}
use Rattle.ss_search_state.proofs.Listing.{has_one_more}
use Rattle.ss_search_state.proofs.numbers.add_literal.Goals as goal

pub returns-in_ok-push-2 : goal.returns-in_ok-push-2
returns-in_ok-push-2 c =
    subst (HasFormulas c.args.bank.now) (sym c.in_ok-push.ensures.items)
    (has_one_more c.args.bank.now c.args.formulas.now.items _ c.requires (c.has_formula.ensures.0 c.if-has_formula.true))
