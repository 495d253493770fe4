use Rattle.ss_journal.specs.Shapes.{OldContent}
use Rattle.ss_journal.proofs.Undo.{content_saved, content_there}
use Rattle.ss_journal.proofs.journal.Journal.save_content.Goals as goal

pub returns-clause-more : goal.returns-clause-more
returns-clause-more c =
    let o : OldContent = record { position = c.args.q; fields = c.in_ok-fields.fields.items; elements = c.in_ok-elements.elements.items } in
    content_saved c.args.store.now.objects c.args.self.now c.log_content.new.self o c.log_content.result
    (record { fields = c.in_ok-fields.ensures; elements = c.in_ok-elements.ensures })
    c.log_content.ensures.logged c.log_content.ensures.kept

pub returns-clause-saved : goal.returns-clause-saved
returns-clause-saved c =
    let o : OldContent = record { position = c.args.q; fields = c.in_ok-fields.fields.items; elements = c.in_ok-elements.elements.items } in
    content_there c.args.self.now c.log_content.new.self o c.log_content.result c.log_content.ensures.logged
