use Rattle.std.proofs.Common.{◌≡◌}
use Rattle.ss_core.specs.View as view
use Rattle.ss_store_rules.specs.Values.{setting, at_entry, value_of}
use Rattle.ss_machine_rules.specs.Frame as frame
use Rattle.ss_machine_stores.proofs.Gathered.{named_upto}
use Rattle.ss_machine_stores.proofs.named.all_named.Given as goal

abbrev pub invariant-loop-term : goal.invariant-loop-term
invariant-loop-term l = l.all.items ≡ named_upto (λ n. frame.named_by n (frame.defined_value (value_of (frame.subject_of n) (at_entry (setting (view.classes l.c.classes) l.now.objects l.entry l.locals))))) l.terms l.term-index
