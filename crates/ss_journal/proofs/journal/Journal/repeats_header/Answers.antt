use Rattle.ss_journal.proofs.Running.{header_repeats}
use Rattle.ss_journal.proofs.journal.Journal.repeats_header.Goals as goal

pub returns-in-Some : goal.returns-in-Some
returns-in-Some c = λ before last is.
    let j = c.self.inside in
    header_repeats j.marks.items c.deref.result.now j.headers.items j.contents.items j.header_places j.content_places c.args.self.now c.in-Some.mark.now c.repeats.result before last c.self.invariant c.deref.ensures.value c.in-Some.ensures.value c.self.view_is c.repeats.ensures is
