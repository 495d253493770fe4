use Rattle.std.proofs.Common.{◌≡◌, take, map}
use Rattle.ss_terms.specs.Forms.{HasFormulas, formulas_at, IsGrown}
use Rattle.ss_rules_basic.specs.Facts.{denied_at}
use Rattle.ss_rules_basic.proofs.sentences.negations.Given as goal

abbrev pub invariant-loop-fact : goal.invariant-loop-fact
invariant-loop-fact l = record {
  grown : IsGrown l.initial.b l.b;
  there : HasFormulas l.b l.made.items;
  made : formulas_at l.b l.made.items ≡ map (denied_at l.initial.b) (take l.fact-index l.facts);
}
