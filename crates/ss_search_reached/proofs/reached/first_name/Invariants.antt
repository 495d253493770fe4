use Rattle.std.proofs.Common.{◌≡◌, ◌<◌, false}
use Rattle.ss_terms.specs.declared.forms.TermId.{TermId}
use Rattle.ss_terms.specs.Forms.{term_at}
use Rattle.ss_search_reached.specs.Known.{is_name}
use Rattle.ss_search_reached.proofs.reached.first_name.Given as goal

abbrev pub invariant-loop-number : goal.invariant-loop-number
invariant-loop-number l = (t : TermId) → t.0 < l.number → is_name (term_at l.bank t) ≡ false
