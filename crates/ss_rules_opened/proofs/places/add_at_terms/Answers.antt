use Rattle.std.specs.Prelude.{filter_map}
use Rattle.ss_logic.specs.Matching.{match_term}
use Rattle.ss_terms.specs.Forms.{term_at, terms_at}
use Rattle.ss_terms.proofs.Tested.{AreTermsBelow-get}
use Rattle.ss_rules_opened.specs.Matches.{tuples_at}
use Rattle.ss_rules_opened.proofs.Placed.{place_next}
use Rattle.ss_rules_opened.proofs.places.add_at_terms.Goals as goal

pub add_at_term-requires-clause-term : goal.add_at_term-requires-clause-term
add_at_term-requires-clause-term c = AreTermsBelow-get _ c.args.ts.now c.loop-t.t-index (record { 0 = 0 }) c.requires.terms c.loop-t-test.true

pub loop-t-preserved : goal.loop-t-preserved
loop-t-preserved c =
    place_next (term_at c.args.context.now.bank.now) (λ t. filter_map (λ p. match_term c.args.context.now.count p t) (terms_at c.args.context.now.bank.now c.args.patterns.now)) (tuples_at c.args.context.now.bank.now c.args.tuples.now.items) c.args.ts.now c.loop-t.t-index (record { 0 = 0 })
    c.args.context.now.bank.now c.loop-t.tuples.items c.add_at_term.new.tuples.items c.loop-t-test.true c.loop-t.invariant c.in_ok-add_at_term.ensures
