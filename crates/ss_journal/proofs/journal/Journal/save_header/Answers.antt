use Rattle.ss_journal.proofs.Undo.{header_saved, header_there}
use Rattle.ss_journal.proofs.journal.Journal.save_header.Goals as goal

pub returns-clause-more : goal.returns-clause-more
returns-clause-more c =
    header_saved c.args.store.now.objects c.args.self.now c.log_header.new.self c.header_at.result c.args.q c.log_header.result c.header_at.ensures.position c.header_at.ensures.header c.log_header.ensures.logged c.log_header.ensures.kept

pub returns-clause-saved : goal.returns-clause-saved
returns-clause-saved c =
    header_there c.args.self.now c.log_header.new.self c.header_at.result c.args.q c.log_header.result c.header_at.ensures.position c.log_header.ensures.logged
