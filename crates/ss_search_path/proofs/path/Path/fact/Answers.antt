use Rattle.std.proofs.Common.{refl}
use Rattle.ss_search_path.proofs.Going.{goes_by_fact}
use Rattle.ss_search_path.proofs.path.Path.fact.Goals as goal

pub returns-clause-goes_on : goal.returns-clause-goes_on
returns-clause-goes_on c = λ cs premises goal makes. goes_by_fact cs premises goal c.args.bank.now _ _ c.args.line c.args.f c.in_ok-push.ensures.items refl c.in_ok-push-2.ensures.items makes
