use Rattle.std.proofs.Common.{◌≡◌, ◌++◌, map}
use Rattle.ss_core.specs.View.{local_of}
use Rattle.ss_machine_rules.specs.Frame.{captured_among}
use Rattle.ss_machine_stores.proofs.Gathered.{captured_after}
use Rattle.ss_machine_stores.proofs.named.captured_among.Given as goal

abbrev pub invariant-loop-i : goal.invariant-loop-i
invariant-loop-i l = l.captured.items ++ captured_after l.params l.values l.i ≡ captured_among (map local_of l.params) l.values
