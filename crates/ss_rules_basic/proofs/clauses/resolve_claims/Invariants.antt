use Rattle.std.proofs.Common.{◌≡◌, take, map}
use Rattle.ss_rules_basic.specs.Plans.{fact_of}
use Rattle.ss_rules_basic.proofs.clauses.resolve_claims.Given as goal

abbrev pub invariant-loop-claim : goal.invariant-loop-claim
invariant-loop-claim l = l.facts.items ≡ map (fact_of l.made) (take l.claim-index l.claims)
