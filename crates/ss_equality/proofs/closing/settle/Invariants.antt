use Rattle.std.proofs.Common.{◌≡◌, []}
use Rattle.ss_equality_rules.specs.Whole.{Begins, Goes}
use Rattle.ss_equality.proofs.closing.settle.Given as goal

abbrev pub invariant-loop : goal.invariant-loop
invariant-loop l =
    (l.classes.forms ≡ l.initial.classes.forms)
    × (Begins l.initial.classes.log l.classes.log)
    × (Begins l.initial.signatures l.signatures)
    × (Goes l.initial.classes l.classes l.initial.signatures l.signatures l.initial.pending.items l.pending.items [] [])
