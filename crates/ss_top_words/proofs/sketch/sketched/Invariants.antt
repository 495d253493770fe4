use Rattle.std.proofs.Common.{◌≡◌, ◌≤◌, ◌+◌, length, map, Some, string_bytes}
use Rattle.ss_top_words.specs.Views.{IsSketchOf}
use Rattle.ss_top_words.specs.Words.{Reading, first_reading, read_all}
use Rattle.ss_top_words.proofs.sketch.sketched.Given as goal

-- some reading has been sketched, after which the words left are those that all are after the first
abbrev pub invariant-loop-rest : goal.invariant-loop-rest
invariant-loop-rest l = (r : Reading) × IsSketchOf l.sketch r × (read_all (Some r) (map string_bytes l.rest) ≡ read_all (Some first_reading) (map string_bytes l.fn.words)) × (l.sketch.count + length l.rest ≤ length l.fn.words)

abbrev pub decreases-loop-rest : goal.decreases-loop-rest
decreases-loop-rest l = length l.rest
