use Rattle.std.proofs.Common.{◌≡◌, length, Some}
use Rattle.ss_top_words.specs.Views.{texts_of}
use Rattle.ss_top_words.specs.Words.{numbers_after}
use Rattle.ss_top_words.proofs.numbers.push_numbers.Given as goal

abbrev pub invariant-loop-rest : goal.invariant-loop-rest
invariant-loop-rest l = numbers_after (Some l.input.items) (texts_of l.rest) ≡ numbers_after (Some l.fn.input.items) (texts_of l.fn.words)

abbrev pub decreases-loop-rest : goal.decreases-loop-rest
decreases-loop-rest l = length l.rest
