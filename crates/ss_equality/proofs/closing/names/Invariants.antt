use Rattle.std.proofs.Common.{◌≡◌, map, take}
use Rattle.ss_equality_rules.specs.Names.{named}
use Rattle.ss_equality.proofs.closing.names.Given as goal

abbrev pub invariant-loop-term : goal.invariant-loop-term
invariant-loop-term l = l.names.items ≡ map (named l.classes.log) (take l.term-index l.terms)
