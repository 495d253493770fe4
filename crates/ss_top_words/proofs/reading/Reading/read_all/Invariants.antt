use Rattle.std.proofs.Common.{◌≡◌, length, map, Some, string_bytes}
use Rattle.ss_top_words.specs.Views.{reading_of}
use Rattle.ss_top_words.specs.Words.{read_all}
use Rattle.ss_top_words.proofs.reading.Reading.read_all.Given as goal

abbrev pub invariant-loop-rest : goal.invariant-loop-rest
invariant-loop-rest l = read_all (Some (reading_of l.self)) (map string_bytes l.rest) ≡ read_all (Some (reading_of l.fn.self)) (map string_bytes l.fn.words)

abbrev pub decreases-loop-rest : goal.decreases-loop-rest
decreases-loop-rest l = length l.rest
