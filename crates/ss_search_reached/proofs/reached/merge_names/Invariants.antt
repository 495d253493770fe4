use Rattle.std.proofs.Common.{◌≡◌, ◌<◌, true}
use Rattle.ss_terms.specs.declared.forms.TermId.{TermId}
use Rattle.ss_terms.specs.Forms.{term_at}
use Rattle.ss_equality_rules.specs.Equal.{IsEqual}
use Rattle.ss_search_reached.specs.Known.{is_name, AreOfNames}
use Rattle.ss_search_reached.proofs.reached.merge_names.Given as goal

abbrev pub invariant-loop-number : goal.invariant-loop-number
invariant-loop-number l = record {
  terms : l.congruence.terms ≡ l.initial.congruence.terms;
  named : (t : TermId) → t.0 < l.number → is_name (term_at l.bank t) ≡ true → IsEqual l.congruence.terms l.congruence.merges l.first.0 t.0;
  of_names : AreOfNames l.bank l.initial.congruence.merges → AreOfNames l.bank l.congruence.merges;
}
