use Rattle.std.proofs.Common.{◌≡◌, ◌++◌, drop, map}
use Rattle.ss_report_names.specs.Contexts.{classes_of, names_in}
use Rattle.ss_report_core.specs.Afters.{link_after, step_after, links_text, steps_text}
use Rattle.ss_report_core.proofs.exprs.+expr.Given as goal

abbrev pub invariant-push_links-loop-link : goal.invariant-push_links-loop-link
invariant-push_links-loop-link l =
    let cs = classes_of l.context.program.now in
    let names = names_in l.context in
    l.out.items ++ links_text cs names (map link_after (drop l.link-index l.links)) ≡ l.fn.out.items ++ links_text cs names (map link_after l.links)

abbrev pub invariant-push_steps-loop-step : goal.invariant-push_steps-loop-step
invariant-push_steps-loop-step l =
    let cs = classes_of l.context.program.now in
    let names = names_in l.context in
    l.out.items ++ steps_text cs names (map step_after (drop l.step-index l.steps)) ≡ l.fn.out.items ++ steps_text cs names (map step_after l.steps)
