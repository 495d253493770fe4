use Rattle.std.proofs.Common.{◌++◌, take}
use Rattle.std.specs.Prelude.{filter_map}
use Rattle.ss_logic.specs.Matching.{match_term}
use Rattle.ss_terms.specs.Forms.{term_at, terms_at}
use Rattle.ss_rules_opened.specs.Matches.{tuples_at, AreTuples}
use Rattle.ss_rules_opened.proofs.places.add_at_term.Given as goal

abbrev pub invariant-loop-p : goal.invariant-loop-p
invariant-loop-p l = AreTuples l.context.bank.now l.tuples.items (tuples_at l.context.bank.now l.initial.tuples.items ++ filter_map (λ p. match_term l.context.count p (term_at l.context.bank.now l.t)) (terms_at l.context.bank.now (take l.p-index l.patterns)))
