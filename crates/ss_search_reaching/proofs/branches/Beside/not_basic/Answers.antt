use Rattle.ss_search_reaching.specs.Refuting.{bank_of}
use Rattle.ss_search_reaching.proofs.Guarding.{not_denied}
use Rattle.ss_search_reaching.proofs.branches.Beside.not_basic.Goals as goal

pub returns-clause-leads : goal.returns-clause-leads
returns-clause-leads c = λ ms cs premises goal shown is.
    absurd (not_denied (bank_of c.args.self.now.refuting) c.args.parts.0 c.args.parts.1 is.guarded.guard is.guarded.body is.guarded.cut c.requires is.guarded.is)
