use Rattle.std.specs.Prelude.{filter_map}
use Rattle.ss_logic.specs.Matching.{match_atom}
use Rattle.ss_terms.specs.Forms.{formula_at, formulas_at}
use Rattle.ss_terms.proofs.Tested.{AreBelow-get}
use Rattle.ss_rules_opened.specs.Matches.{tuples_at}
use Rattle.ss_rules_opened.proofs.Placed.{place_next}
use Rattle.ss_rules_opened.proofs.places.add_at_atoms.Goals as goal

pub add_at_atom-requires-clause-formula : goal.add_at_atom-requires-clause-formula
add_at_atom-requires-clause-formula c = AreBelow-get _ c.args.fs.now c.loop-f.f-index (record { 0 = 0 }) c.requires.formulas c.loop-f-test.true

pub loop-f-preserved : goal.loop-f-preserved
loop-f-preserved c =
    place_next (formula_at c.args.context.now.bank.now) (λ f. filter_map (λ p. match_atom c.args.context.now.count p f) (formulas_at c.args.context.now.bank.now c.args.patterns.now)) (tuples_at c.args.context.now.bank.now c.args.tuples.now.items) c.args.fs.now c.loop-f.f-index (record { 0 = 0 })
    c.args.context.now.bank.now c.loop-f.tuples.items c.add_at_atom.new.tuples.items c.loop-f-test.true c.loop-f.invariant c.in_ok-add_at_atom.ensures
