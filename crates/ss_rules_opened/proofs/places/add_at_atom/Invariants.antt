use Rattle.std.proofs.Common.{◌++◌, take}
use Rattle.std.specs.Prelude.{filter_map}
use Rattle.ss_logic.specs.Matching.{match_atom}
use Rattle.ss_terms.specs.Forms.{formula_at, formulas_at}
use Rattle.ss_rules_opened.specs.Matches.{tuples_at, AreTuples}
use Rattle.ss_rules_opened.proofs.places.add_at_atom.Given as goal

abbrev pub invariant-loop-p : goal.invariant-loop-p
invariant-loop-p l = AreTuples l.context.bank.now l.tuples.items (tuples_at l.context.bank.now l.initial.tuples.items ++ filter_map (λ p. match_atom l.context.count p (formula_at l.context.bank.now l.f)) (formulas_at l.context.bank.now (take l.p-index l.patterns)))
