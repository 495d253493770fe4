use Rattle.std.proofs.Common.{◌≡◌, drop}
use Rattle.std.specs.List.{list_all}
use Rattle.ss_terms_puts.specs.Entries.{term_entry}
use Rattle.ss_terms_puts.proofs.avoids_terms.all_terms.Given as goal

abbrev pub invariant-loop-t : goal.invariant-loop-t
invariant-loop-t l = list_all (term_entry l.entries) (drop l.t-index l.ts) ≡ list_all (term_entry l.entries) l.ts
