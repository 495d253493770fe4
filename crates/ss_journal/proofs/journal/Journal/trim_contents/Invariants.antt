use Rattle.ss_journal.specs.Saved.{AreSame}
use Rattle.ss_journal.proofs.journal.Journal.trim_contents.Given as goal

abbrev pub invariant-loop-i : goal.invariant-loop-i
invariant-loop-i l = AreSame l.fn.self l.self
