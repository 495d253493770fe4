use Rattle.std.proofs.Common.{◌≡◌, take}
use Rattle.std.specs.Prelude.{filter}
use Rattle.ss_terms.specs.Forms.{formulas_at, HasFormulas}
use Rattle.ss_rules_asked.specs.Readings.{is_store_equation}
use Rattle.ss_rules_asked.proofs.gathered.store_equations.Given as goal

abbrev pub invariant-loop-f : goal.invariant-loop-f
invariant-loop-f l = record {
  has : HasFormulas l.bank l.equations.items;
  are : formulas_at l.bank l.equations.items ≡ filter is_store_equation (formulas_at l.bank (take l.f-index l.atoms));
}
