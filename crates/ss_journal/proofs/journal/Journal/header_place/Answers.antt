use Rattle.std.proofs.Common.{ap, ◌∙◌}
use Rattle.ss_journal.specs.Places.{place_of}
use Rattle.ss_journal.proofs.Running.{header_places}
use Rattle.ss_journal.proofs.journal.Journal.header_place.Goals as goal

pub returns-in-Some : goal.returns-in-Some
returns-in-Some c =
    let j = c.self.inside in
    c.first.ensures ∙ ap (λ ps. place_of ps c.args.q) (header_places j.marks.items c.deref.result.now j.headers.items j.contents.items j.header_places j.content_places c.args.self.now c.in-Some.mark.now c.self.invariant c.deref.ensures.value c.in-Some.ensures.value c.self.view_is)
