use Rattle.std.proofs.Common.{◌∙◌}
use Rattle.ss_journal.proofs.Running.{content_logged}
use Rattle.ss_journal.proofs.journal.Journal.is_content_logged.Goals as goal

pub returns-in-Some : goal.returns-in-Some
returns-in-Some c =
    let j = c.self.inside in
    c.has.ensures ∙ content_logged j.marks.items c.deref.result.now j.headers.items j.contents.items j.header_places j.content_places c.args.self.now c.in-Some.mark.now c.args.q c.self.invariant c.deref.ensures.value c.in-Some.ensures.value c.self.view_is
