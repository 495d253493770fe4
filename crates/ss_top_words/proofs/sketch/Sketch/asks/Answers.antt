use Rattle.std.proofs.Common.{ap, sym, ◌∙◌, ⊎_elim}
use Rattle.ss_top_words.specs.Words.{asked_by, of_file}
use Rattle.ss_top_words.proofs.Sketches.{asks_nothing, asks_file, asks_run}
use Rattle.ss_top_words.proofs.sketch.Sketch.asks.Goals as goal

pub returns-then-is_some : goal.returns-then-is_some
returns-then-is_some c = λ r is. asks_nothing c.args.command c.args.self r is (sym c.is_some.ensures ∙ c.if-is_some.true)

pub returns-in-Verify : goal.returns-in-Verify
returns-in-Verify c = λ r is. c.is_file_alone.ensures ∙ ⊎_elim
    (λ e. asks_file c.args.command c.args.self r (ap (λ k. asked_by k r) e ∙ ap (λ k. of_file k r r.positional) (sym e)) is (sym c.is_some.ensures ∙ c.if-is_some.false))
    (λ e. asks_file c.args.command c.args.self r (ap (λ k. asked_by k r) e ∙ ap (λ k. of_file k r r.positional) (sym e)) is (sym c.is_some.ensures ∙ c.if-is_some.false))
    c.in-Verify.is

pub returns-in-Run : goal.returns-in-Run
returns-in-Run c = λ r is. c.is_file_with_input.ensures ∙ ⊎_elim
    (λ e. asks_run c.args.command c.args.self r (ap (λ k. asked_by k r) e) is (sym c.is_some.ensures ∙ c.if-is_some.false))
    (λ e. asks_run c.args.command c.args.self r (ap (λ k. asked_by k r) e) is (sym c.is_some.ensures ∙ c.if-is_some.false))
    c.in-Run.is
