use Rattle.std.proofs.Common.{◌≡◌, length}
use Rattle.ss_terms_puts.specs.Entries.{AreTermEntries}
use Rattle.ss_terms_puts.proofs.avoids_terms.term_entries.Given as goal

abbrev pub invariant-loop-n : goal.invariant-loop-n
invariant-loop-n l = record {
  entries : AreTermEntries l.bank l.constant.sort l.constant.number l.entries.items;
  count : length l.entries.items ≡ l.n;
}
