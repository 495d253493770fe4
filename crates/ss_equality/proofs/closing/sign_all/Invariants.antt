use Rattle.std.proofs.Common.{drop}
use Rattle.ss_equality_rules.specs.Whole.{Begins, Goes}
use Rattle.ss_equality.proofs.closing.sign_all.Given as goal

abbrev pub invariant-loop-term : goal.invariant-loop-term
invariant-loop-term l =
    (Begins l.initial.signatures l.signatures)
    × (Goes l.classes l.classes l.initial.signatures l.signatures l.initial.pending.items l.pending.items l.terms (drop l.term-index l.terms))
