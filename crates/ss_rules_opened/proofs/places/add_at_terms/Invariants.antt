use Rattle.std.proofs.Common.{◌++◌, take}
use Rattle.std.specs.Prelude.{filter_map, flat_map}
use Rattle.ss_logic.specs.Matching.{match_term}
use Rattle.ss_terms.specs.Forms.{terms_at}
use Rattle.ss_rules_opened.specs.Matches.{tuples_at, AreTuples}
use Rattle.ss_rules_opened.proofs.places.add_at_terms.Given as goal

abbrev pub invariant-loop-t : goal.invariant-loop-t
invariant-loop-t l = AreTuples l.context.bank.now l.tuples.items (tuples_at l.context.bank.now l.initial.tuples.items ++ flat_map (λ t. filter_map (λ p. match_term l.context.count p t) (terms_at l.context.bank.now l.patterns)) (terms_at l.context.bank.now (take l.t-index l.ts)))
