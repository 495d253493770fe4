use Rattle.ss_logic.specs.Matching.{match_atom}
use Rattle.ss_terms.specs.Forms.{formula_at}
use Rattle.ss_terms.proofs.Tested.{AreBelow-get}
use Rattle.ss_rules_opened.specs.Matches.{tuples_at}
use Rattle.ss_rules_opened.proofs.Placed.{pattern_next}
use Rattle.ss_rules_opened.proofs.places.add_at_atom.Goals as goal

pub match_atom-requires-clause-pattern : goal.match_atom-requires-clause-pattern
match_atom-requires-clause-pattern c = AreBelow-get _ c.args.patterns.now c.loop-p.p-index (record { 0 = 0 }) c.requires.patterns c.loop-p-test.true

pub loop-p-preserved : goal.loop-p-preserved
loop-p-preserved c =
    pattern_next (formula_at c.args.context.now.bank.now) (λ p. match_atom c.args.context.now.count p (formula_at c.args.context.now.bank.now c.args.f)) (tuples_at c.args.context.now.bank.now c.args.tuples.now.items) c.args.patterns.now c.loop-p.p-index (record { 0 = 0 })
    c.args.context.now.bank.now c.loop-p.tuples.items c.add_tuple.new.tuples.items c.in_ok-found.found c.loop-p-test.true c.loop-p.invariant c.in_ok-found.ensures c.in_ok-add_tuple.ensures
