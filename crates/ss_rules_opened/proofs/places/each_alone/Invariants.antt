use Rattle.std.proofs.Common.{[], ◌∷◌, map, take}
use Rattle.ss_terms.specs.Forms.{terms_at}
use Rattle.ss_rules_opened.specs.Matches.{AreTuples}
use Rattle.ss_rules_opened.proofs.places.each_alone.Given as goal

abbrev pub invariant-loop-t : goal.invariant-loop-t
invariant-loop-t l = AreTuples l.bank l.tuples.items (map (λ t. t ∷ []) (terms_at l.bank (take l.t-index l.ts)))
