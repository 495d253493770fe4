use Rattle.std.proofs.Common.{length, reverse, ap, ◌∙◌, ◌++◌, ◌∷◌, []}
use Rattle.ss_journal.specs.Shapes.{OldContent}
use Rattle.ss_journal.specs.Undo.{with_old_content}
use Rattle.ss_journal.specs.Marks.{segments}
use Rattle.ss_journal.proofs.Marks.{segments-content, within_pushed_too}
use Rattle.ss_journal.proofs.Running.{content_pushed}
use Rattle.ss_journal.proofs.journal.Journal.log_content.Goals as goal

pub invariant_of-self-in_default : goal.invariant_of-self-in_default
invariant_of-self-in_default c =
    let j = c.self.inside in
    record {
      within = within_pushed_too (reverse j.marks.items) j.contents.items c.push-2.new.self.items c.args.old (length j.headers.items) c.in_default.ensures.items c.self.invariant.within;
      contents = content_pushed j.contents.items c.push-2.new.self.items c.args.old j.content_places c.push.new.self c.in_default.ensures.items c.self.invariant.contents (c.in_ok-push.ensures.pushed ∙ ap (λ (o : OldContent). j.content_places ++ o.position ∷ []) c.old.view_is);
      headers = c.self.invariant.headers;
    }

pub returns-clause-logged : goal.returns-clause-logged
returns-clause-logged c =
    let j = c.self.inside in
    ap (λ xs. segments (reverse j.marks.items) j.headers.items xs) c.in_default.ensures.items
    ∙ segments-content (reverse j.marks.items) j.headers.items j.contents.items c.args.old c.self.invariant.within
    ∙ ap (with_old_content c.args.old) c.self.view_is
