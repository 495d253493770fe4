use Rattle.std.proofs.Common.{◌≡◌, ◌++◌, map, take, drop}
use Rattle.ss_typed.specs.Tree.{ExprTree, arguments}
use Rattle.ss_typed.specs.View.{expr, grouped}
use Rattle.ss_typed.specs.Parts.{step_after}
use Rattle.ss_owners_rules.specs.Admissible.{inadmissible_each}
use Rattle.ss_owners.specs.Reads.{links_reads, Leads}
use Rattle.ss_owners.proofs.reads.+reads.Given as goal

abbrev pub invariant-find_in_links-loop-link : goal.invariant-find_in_links-loop-link
invariant-find_in_links-loop-link l = l.found.items ++ links_reads l.marks (drop l.link-index l.links) ≡ l.fn.found.items ++ links_reads l.marks l.links

abbrev pub invariant-find_in_steps-loop-step : goal.invariant-find_in_steps-loop-step
invariant-find_in_steps-loop-step l =
    Leads l.marks l.start l.fn.found.items l.fn.first l.found.items l.head (λ (e : ExprTree). grouped l.place e (map step_after (take l.step-index l.steps)))

abbrev pub invariant-find_in_each-loop-e : goal.invariant-find_in_each-loop-e
invariant-find_in_each-loop-e l = l.found.items ++ inadmissible_each l.marks (arguments (map expr (drop l.e-index l.list))) ≡ l.fn.found.items ++ inadmissible_each l.marks (arguments (map expr l.list))
