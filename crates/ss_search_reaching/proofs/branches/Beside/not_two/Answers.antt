use Rattle.ss_search_reaching.specs.Refuting.{bank_of}
use Rattle.ss_search_reaching.proofs.Guarding.{no_guarded}
use Rattle.ss_search_reaching.proofs.branches.Beside.not_two.Goals as goal

pub returns-clause-leads : goal.returns-clause-leads
returns-clause-leads c = λ ms cs premises goal shown is. absurd (no_guarded (bank_of c.args.self.now.refuting) c.args.parts.now is.guarded.guard is.guarded.body c.requires is.guarded.is)
