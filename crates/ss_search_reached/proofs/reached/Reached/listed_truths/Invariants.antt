use Rattle.std.proofs.Common.{◌≡◌, map, take}
use Rattle.std.specs.List.{Contains}
use Rattle.ss_bit_set.specs.Marked.{marked}
use Rattle.ss_terms.specs.declared.forms.FormulaId.{FormulaId}
use Rattle.ss_terms.specs.Forms.{formula_at}
use Rattle.ss_search_reached.specs.Models.{HasArguments}
use Rattle.ss_search_reached.proofs.reached.Reached.listed_truths.Given as goal

abbrev pub invariant-loop-f : goal.invariant-loop-f
invariant-loop-f l = record {
  truths : l.truths.items ≡ map (λ f. marked l.self.numbers f.0) (take l.f-index l.fs);
  arguments : (f : FormulaId) → Contains (take l.f-index l.fs) f → HasArguments l.bank (formula_at l.bank f);
}
