use Rattle.ss_store_rules.proofs.Keeps.{Keeps-capture}
use Rattle.ss_store.proofs.store.Store.capture.Goals as goal

pub returns-clause-good : goal.returns-clause-good
returns-clause-good c cs x free =
    Keeps-capture cs c.args.self.now.objects c.capture_exactly.new.self.objects c.capture_exactly.result c.args.o c.args.t.0 c.args.e c.capture_exactly.ensures.change x free
