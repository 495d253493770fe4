use Rattle.std.proofs.Common.{sym, ap, ◌∙◌, subst, map, Some, string_bytes}
use Rattle.ss_top_words.specs.Views.{IsSketched}
use Rattle.ss_top_words.specs.Words.{read, read_all, first_reading}
use Rattle.ss_top_words.proofs.Sketches.{unsketched}
use Rattle.ss_top_words.proofs.sketch.sketched.Goals as goal

pub returns-in_err-sketch : goal.returns-in_err-sketch
returns-in_err-sketch c =
    let so_far = c.loop-rest.invariant in
    subst (λ o. IsSketched o (read_all (Some first_reading) (map string_bytes c.args.words.now))) (sym c.from_residual.ensures)
    (sym so_far.2 ∙ unsketched so_far.0 c.loop-rest.rest.now c.word-item.result c.word-item.is c.in-len1-up.len_at_least (ap (λ w. read so_far.0 w) (sym c.as_str.ensures.value) ∙ c.in_err-sketch.ensures so_far.0 so_far.1))
