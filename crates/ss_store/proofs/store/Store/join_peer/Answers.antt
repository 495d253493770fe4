use Rattle.ss_store_rules.proofs.Keeps.{Keeps-join}
use Rattle.ss_store.proofs.store.Store.join_peer.Goals as goal

pub returns-clause-good : goal.returns-clause-good
returns-clause-good c cs x ex uncommitted =
    Keeps-join cs c.args.self.now.objects c.join_peer_exactly.new.self.objects c.join_peer_exactly.result c.args.o c.args.e c.join_peer_exactly.ensures.change x ex uncommitted
