use Rattle.std.proofs.Common.{length, reverse, ap, ◌∙◌}
use Rattle.ss_journal.specs.Undo.{with_old_header}
use Rattle.ss_journal.specs.Marks.{segments}
use Rattle.ss_journal.proofs.Marks.{segments-header, within_pushed}
use Rattle.ss_journal.proofs.Running.{header_pushed}
use Rattle.ss_journal.proofs.journal.Journal.log_header.Goals as goal

pub invariant_of-self-in_default : goal.invariant_of-self-in_default
invariant_of-self-in_default c =
    let j = c.self.inside in
    record {
      within = within_pushed (reverse j.marks.items) j.headers.items c.push-2.new.self.items c.args.old (length j.contents.items) c.in_default.ensures.items c.self.invariant.within;
      headers = header_pushed j.headers.items c.push-2.new.self.items c.args.old j.header_places c.push.new.self c.in_default.ensures.items c.self.invariant.headers c.in_ok-push.ensures.pushed;
      contents = c.self.invariant.contents;
    }

pub returns-clause-logged : goal.returns-clause-logged
returns-clause-logged c =
    let j = c.self.inside in
    ap (λ xs. segments (reverse j.marks.items) xs j.contents.items) c.in_default.ensures.items
    ∙ segments-header (reverse j.marks.items) j.headers.items j.contents.items c.args.old c.self.invariant.within
    ∙ ap (with_old_header c.args.old) c.self.view_is
