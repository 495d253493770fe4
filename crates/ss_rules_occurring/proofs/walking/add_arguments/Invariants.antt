use Rattle.std.proofs.Common.{◌≡◌}
use Rattle.ss_logic.specs.Terms.{terms_from}
use Rattle.ss_logic.specs.Occurring.{with_arguments}
use Rattle.ss_terms.specs.Forms.{terms_at, HasTerms}
use Rattle.ss_rules_occurring.specs.Found.{terms_of, HasFoundTerms}
use Rattle.ss_rules_occurring.specs.Stack.{awaited, stack_size}
use Rattle.ss_rules_occurring.proofs.walking.add_arguments.Given as goal

abbrev pub invariant-loop-t : goal.invariant-loop-t
invariant-loop-t l = record {
  found : HasFoundTerms l.bank l.found;
  stack : HasTerms l.bank l.stack.items;
  awaited : awaited l.bank l.found l.stack.items ≡ with_arguments (terms_of l.bank l.fn.found) (terms_from (terms_at l.bank l.ts));
}

abbrev pub decreases-loop-t : goal.decreases-loop-t
decreases-loop-t l = stack_size l.bank l.stack.items
