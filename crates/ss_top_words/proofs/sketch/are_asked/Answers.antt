use Rattle.std.proofs.Common.{sym, ap, ◌∙◌, is_some}
use Rattle.std.specs.Prelude.{Some}
use Rattle.ss_top_words.specs.Words.{complete}
use Rattle.ss_top_words.proofs.sketch.are_asked.Goals as goal

pub returns-in-Some : goal.returns-in-Some
returns-in-Some c =
    let found = c.in-Some.ensures in
    c.asks.ensures found.0 found.2 ∙ ap (λ o. is_some (complete (Some c.args.command) o)) (sym found.1)
