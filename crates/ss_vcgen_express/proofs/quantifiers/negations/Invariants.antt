use Rattle.std.proofs.Common.{◌≡◌, take, map}
use Rattle.ss_logic.specs.Formulas.{neg}
use Rattle.ss_terms.specs.Forms.{formulas_at, HasFormulas}
use Rattle.ss_vcgen_express.proofs.quantifiers.negations.Given as goal

abbrev pub invariant-loop-f : goal.invariant-loop-f
invariant-loop-f l = record {
  in_bank : HasFormulas l.bank l.made.items;
  done : formulas_at l.bank l.made.items ≡ map neg (formulas_at l.bank (take l.f-index l.fs));
}
