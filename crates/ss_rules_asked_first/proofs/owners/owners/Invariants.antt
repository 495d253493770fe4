use Rattle.std.proofs.Common.{take}
use Rattle.std.specs.Prelude.{filter_map}
use Rattle.ss_logic.specs.Asked as spec
use Rattle.ss_terms.specs.Forms.{terms_at}
use Rattle.ss_rules_asked_first.specs.Good.{AreOwners}
use Rattle.ss_rules_asked_first.proofs.owners.owners.Given as goal

abbrev pub invariant-loop-t : goal.invariant-loop-t
invariant-loop-t l = AreOwners l.bank l.owners.items (filter_map spec.pair_parts (terms_at l.bank (take l.t-index l.terms)))
