use Rattle.std.proofs.Common.{◌≡◌, drop}
use Rattle.std.specs.List.{list_all}
use Rattle.ss_terms_puts.specs.Entries.{formula_entry}
use Rattle.ss_terms_puts.proofs.avoids_formulas.all_formulas.Given as goal

abbrev pub invariant-loop-f : goal.invariant-loop-f
invariant-loop-f l = list_all (formula_entry l.entries) (drop l.f-index l.fs) ≡ list_all (formula_entry l.entries) l.fs
