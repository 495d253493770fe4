use Rattle.std.proofs.Common.{◌≡◌, false, sym, ◌∙◌}
use Rattle.ss_terms.specs.Forms.{term_at}
use Rattle.ss_search_reached.specs.Known.{is_name}
use Rattle.ss_search_reached.proofs.Names.{below_next}
use Rattle.ss_search_reached.proofs.reached.first_name.Goals as goal

pub loop-number-preserved : goal.loop-number-preserved
loop-number-preserved c = below_next (λ t. is_name (term_at c.args.bank.now t) ≡ false) c.loop-number.number c.loop-number.invariant (sym c.is_name.ensures ∙ c.if-is_name.false)
