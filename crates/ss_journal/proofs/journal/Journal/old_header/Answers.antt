use Rattle.std.proofs.Common.{ap, ◌∙◌}
use Rattle.ss_journal.specs.Undo.{headers_of}
use Rattle.ss_journal.specs.Places.{at_place}
use Rattle.ss_journal.proofs.Running.{header_at_place}
use Rattle.ss_journal.proofs.journal.Journal.old_header.Goals as goal

pub returns : goal.returns
returns c =
    c.nth_header.ensures
    ∙ ap (λ xs. at_place xs c.header_place.result) c.headers.ensures
    ∙ ap (at_place (headers_of c.args.self.now)) c.header_place.ensures
    ∙ header_at_place (headers_of c.args.self.now) c.args.q
