use Rattle.std.proofs.Common.{refl, sym, ap, ◌∙◌}
use Rattle.ss_top_words.specs.Views.{options_of, taken_of}
use Rattle.ss_top_words.specs.Words.{taken, with_word}
use Rattle.ss_top_words.proofs.sketch.Sketch.read.Goals as goal

pub returns-in-TakenAs : goal.returns-in-TakenAs
returns-in-TakenAs c = λ r is. (
  record r { options = options_of c.in-TakenAs.options },
  ap (with_word r c.args.word.now) (ap (λ o. taken o c.args.word.now) (sym is.options) ∙ sym c.take.ensures ∙ ap taken_of c.in-TakenAs.is),
  record { options = refl; count = is.count; numbers = is.numbers },
)
