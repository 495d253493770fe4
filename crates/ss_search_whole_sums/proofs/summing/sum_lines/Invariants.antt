use Rattle.std.proofs.Common.{◌≡◌, map, take}
use Rattle.ss_terms.specs.Forms.{Forms}
use Rattle.ss_deriv.specs.Lines.{lines_of}
use Rattle.ss_linear.specs.Contradictions.{sums_of}
use Rattle.ss_search_whole_sums.specs.Summing.{sum_line}
use Rattle.ss_search_whole_sums.proofs.summing.sum_lines.Given as goal

abbrev pub invariant-loop-sum : goal.invariant-loop-sum
invariant-loop-sum l = (b : Forms) → lines_of b l.lines.items ≡ map (sum_line l.places l.known) (sums_of (take l.sum-index l.sums))
