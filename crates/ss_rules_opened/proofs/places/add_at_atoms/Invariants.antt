use Rattle.std.proofs.Common.{◌++◌, take}
use Rattle.std.specs.Prelude.{filter_map, flat_map}
use Rattle.ss_logic.specs.Matching.{match_atom}
use Rattle.ss_terms.specs.Forms.{formulas_at}
use Rattle.ss_rules_opened.specs.Matches.{tuples_at, AreTuples}
use Rattle.ss_rules_opened.proofs.places.add_at_atoms.Given as goal

abbrev pub invariant-loop-f : goal.invariant-loop-f
invariant-loop-f l = AreTuples l.context.bank.now l.tuples.items (tuples_at l.context.bank.now l.initial.tuples.items ++ flat_map (λ f. filter_map (λ p. match_atom l.context.count p f) (formulas_at l.context.bank.now l.patterns)) (formulas_at l.context.bank.now (take l.f-index l.fs)))
