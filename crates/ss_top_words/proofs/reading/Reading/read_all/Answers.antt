use Rattle.std.proofs.Common.{sym, subst, ◌∙◌}
use Rattle.ss_top_words.specs.Views.{reading_of, IsRead}
use Rattle.ss_top_words.specs.Words.{read}
use Rattle.ss_top_words.proofs.Ends.{unread_first}
use Rattle.ss_top_words.proofs.reading.Reading.read_all.Goals as goal

pub returns-then-not-branch : goal.returns-then-not-branch
returns-then-not-branch c =
    let first = reading_of c.loop-rest.self in
    let now = reading_of c.read.new.self in
    sym c.loop-rest.invariant ∙ unread_first c.in_ok-read.field-0 now first c.loop-rest.rest.now c.word-item.result c.word-item.is c.in-len1-up.len_at_least c.if-not-branch.true (subst (λ w. IsRead c.in_ok-read.field-0 now (read first w)) c.as_str.ensures.value c.in_ok-read.ensures)
