use Rattle.std.proofs.Common.{take}
use Rattle.ss_linear.specs.Contradictions.{sums_of}
use Rattle.ss_search_whole_sums.specs.Contradicting.{AreWritten}
use Rattle.ss_search_whole_sums.proofs.contradicting.write_all.Given as goal

abbrev pub invariant-loop-equality : goal.invariant-loop-equality
invariant-loop-equality l = AreWritten l.context.bank.now l.context.congruence.now.merges l.context.count (sums_of l.sums) l.places (take l.equality-index l.equalities) l.written.places.items l.written.lines.items
