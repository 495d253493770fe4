use Rattle.std.proofs.Common.{ap, ◌∙◌}
use Rattle.ss_journal.specs.Undo.{contents_of}
use Rattle.ss_journal.specs.Places.{at_place}
use Rattle.ss_journal.proofs.Running.{content_at_place}
use Rattle.ss_journal.proofs.journal.Journal.old_content.Goals as goal

pub returns : goal.returns
returns c =
    c.nth_content.ensures
    ∙ ap (λ xs. at_place xs c.content_place.result) c.contents.ensures
    ∙ ap (at_place (contents_of c.args.self.now)) c.content_place.ensures
    ∙ content_at_place (contents_of c.args.self.now) c.args.q
