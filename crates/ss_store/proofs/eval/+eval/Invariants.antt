use Rattle.std.proofs.Common.{◌≡◌, drop, map}
use Rattle.std.specs.Int.{int_gap}
use Rattle.ss_core.specs.View as view
use Rattle.ss_store_rules.specs.Values.{quantified}
use Rattle.ss_store.specs.Contexts.{setting_of}
use Rattle.ss_store.specs.Grouped.{link_after, step_after}
use Rattle.ss_store.proofs.Groups.{Leads}
use Rattle.ss_store.proofs.Members.{continued, member_of}
use Rattle.ss_store.proofs.eval.+eval.Given as goal

abbrev pub invariant-eval_links-loop-link : goal.invariant-eval_links-loop-link
invariant-eval_links-loop-link g l = Leads (setting_of g.B.Before.told l.context) l.place l.value (map link_after (drop l.link-index l.links)) l.fn.first (map link_after l.links)

abbrev pub invariant-eval_steps-loop-step : goal.invariant-eval_steps-loop-step
invariant-eval_steps-loop-step g l = Leads (setting_of g.B.Before.told l.context) l.place l.value (map step_after (drop l.step-index l.steps)) l.fn.first (map step_after l.steps)

abbrev pub invariant-eval_members-loop-i : goal.invariant-eval_members-loop-i
invariant-eval_members-loop-i g l =
    let c = setting_of g.B.Before.told l.context in
    let e = view.expr l.member in
    continued l.quantifier (member_of c e) (int_gap l.i l.high) l.i l.holds ≡ quantified l.quantifier (member_of c e) (int_gap l.low l.high) l.low
