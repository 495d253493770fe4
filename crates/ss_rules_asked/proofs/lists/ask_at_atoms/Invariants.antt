use Rattle.std.proofs.Common.{◌++◌, take}
use Rattle.std.specs.Prelude.{flat_map}
use Rattle.ss_terms.specs.Forms.{formulas_at}
use Rattle.ss_rules_asked.specs.Numbers.{asked_in, Asks}
use Rattle.ss_rules_asked.specs.Sentences.{at_atom}
use Rattle.ss_rules_asked.proofs.lists.ask_at_atoms.Given as goal

abbrev pub invariant-loop-f : goal.invariant-loop-f
invariant-loop-f l = Asks l.bank l.asked.items (asked_in l.bank l.initial.asked.items ++ flat_map (at_atom l.bank l.sentence) (formulas_at l.bank (take l.f-index l.atoms)))
