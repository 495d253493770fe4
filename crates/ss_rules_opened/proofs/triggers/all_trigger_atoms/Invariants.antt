use Rattle.std.proofs.Common.{◌≡◌, take}
use Rattle.std.specs.Prelude.{filter}
use Rattle.ss_logic.specs.Matching.{is_trigger_atom}
use Rattle.ss_terms.specs.Forms.{formulas_at, HasFormulas}
use Rattle.ss_rules_opened.proofs.triggers.all_trigger_atoms.Given as goal

abbrev pub invariant-loop-f : goal.invariant-loop-f
invariant-loop-f l = record {
  has : HasFormulas l.bank l.kept.items;
  are : formulas_at l.bank l.kept.items ≡ filter (is_trigger_atom l.count) (formulas_at l.bank (take l.f-index l.fs));
}
