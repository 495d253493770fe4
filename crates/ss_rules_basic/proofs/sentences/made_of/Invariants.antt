use Rattle.std.proofs.Common.{◌≡◌, take, map}
use Rattle.ss_terms.specs.Forms.{HasFormulas, formulas_at, IsGrown}
use Rattle.ss_rules_basic.specs.Facts.{sentence_at}
use Rattle.ss_rules_basic.proofs.sentences.made_of.Given as goal

abbrev pub invariant-loop-sentence : goal.invariant-loop-sentence
invariant-loop-sentence l = record {
  grown : IsGrown l.initial.b l.b;
  there : HasFormulas l.b l.made.items;
  made : formulas_at l.b l.made.items ≡ map (sentence_at l.initial.b) (take l.sentence-index l.sentences);
}
