use Rattle.std.proofs.Common.{◌≡◌, ◌++◌, map, take, drop}
use Rattle.ss_typed.specs.Tree.{ExprTree, arguments}
use Rattle.ss_typed.specs.View.{grouped, expr}
use Rattle.ss_nonnull_rules.specs.Faults.{handed}
use Rattle.ss_typed.specs.Parts.{link_after, step_after}
use Rattle.ss_nonnull_seen.specs.Called.{called_types}
use Rattle.ss_nonnull_seen.specs.Codes.{path_of, context_of, seen_of}
use Rattle.ss_nonnull_seen.specs.Seen.{Leads}
use Rattle.ss_nonnull.proofs.expr.+expr.Given as goal

abbrev pub invariant-check_links-loop-link : goal.invariant-check_links-loop-link
invariant-check_links-loop-link l =
    Leads (context_of l.context) (path_of l.known) l.fn.found.items (seen_of l.fn.first) l.found.items (seen_of l.head)
    (λ (e : ExprTree). grouped l.place e (map link_after (take l.link-index l.links)))

abbrev pub invariant-check_steps-loop-step : goal.invariant-check_steps-loop-step
invariant-check_steps-loop-step l =
    Leads (context_of l.context) (path_of l.known) l.fn.found.items (seen_of l.fn.first) l.found.items (seen_of l.head)
    (λ (e : ExprTree). grouped l.place e (map step_after (take l.step-index l.steps)))

abbrev pub invariant-check_arguments-loop-i : goal.invariant-check_arguments-loop-i
invariant-check_arguments-loop-i l =
    l.found.items ++ handed (context_of l.context) (path_of l.known) (arguments (map expr (drop l.i l.list))) (drop l.i (called_types l.entered))
    ≡ l.fn.found.items ++ handed (context_of l.context) (path_of l.known) (arguments (map expr l.list)) (called_types l.entered)
