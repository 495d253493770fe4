use Rattle.ss_logic.specs.Matching.{match_term}
use Rattle.ss_terms.specs.Forms.{term_at}
use Rattle.ss_terms.proofs.Tested.{AreTermsBelow-get}
use Rattle.ss_rules_opened.specs.Matches.{tuples_at}
use Rattle.ss_rules_opened.proofs.Placed.{pattern_next}
use Rattle.ss_rules_opened.proofs.places.add_at_term.Goals as goal

pub match_term-requires-clause-pattern : goal.match_term-requires-clause-pattern
match_term-requires-clause-pattern c = AreTermsBelow-get _ c.args.patterns.now c.loop-p.p-index (record { 0 = 0 }) c.requires.patterns c.loop-p-test.true

pub loop-p-preserved : goal.loop-p-preserved
loop-p-preserved c =
    pattern_next (term_at c.args.context.now.bank.now) (λ p. match_term c.args.context.now.count p (term_at c.args.context.now.bank.now c.args.t)) (tuples_at c.args.context.now.bank.now c.args.tuples.now.items) c.args.patterns.now c.loop-p.p-index (record { 0 = 0 })
    c.args.context.now.bank.now c.loop-p.tuples.items c.add_tuple.new.tuples.items c.in_ok-found.found c.loop-p-test.true c.loop-p.invariant c.in_ok-found.ensures c.in_ok-add_tuple.ensures
