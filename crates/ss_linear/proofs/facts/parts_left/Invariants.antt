use Rattle.std.proofs.Common.{◌≡◌, take}
use Rattle.ss_terms.specs.Forms.{Forms}
use Rattle.ss_linear_sums.specs.Linear as linear
use Rattle.ss_linear_sums.specs.Linear.{HasParts}
use Rattle.ss_linear_rules.specs.Two as two
use Rattle.ss_linear.proofs.facts.parts_left.Given as goal

abbrev pub invariant-loop-part : goal.invariant-loop-part
invariant-loop-part l = record {
  left : (b : Forms) → linear.parts_at b l.left.items ≡ two.parts_left (linear.parts_at b (take l.part-index l.parts));
  has : (b : Forms) → HasParts b l.parts → HasParts b l.left.items;
}
