use Rattle.std.proofs.Common.{pos, ◌+ℤ◌, ◌+◌, map, drop, sym, ap, ◌∙◌}
use Rattle.std.proofs.lemmas.Result.{err_from_is_err_and}
use Rattle.ss_core.specs.View.{expr}
use Rattle.ss_store_rules.specs.Values.{value_of, joined}
use Rattle.ss_store.specs.Contexts.{setting_of}
use Rattle.ss_store.specs.Grouped.{link_after, step_after}
use Rattle.ss_store.proofs.Groups.{chain_strict, path_strict, map_drop, leads_on, link_ends, step_ends, leads_home}
use Rattle.ss_store.proofs.Members.{member_of, gap_above, no_gap, next_is, next_member, failed_member, last_member, bounds_are}
use mir.Syntax.{w32}
use mir.Val.{to_z, of_z}
use borrow.Author.Rules.{sfits_back}
use Rattle.std.proofs.Math.Facts.{sfits_to_z}
use Rattle.ss_store.proofs.eval.+eval.Goals as goal

pub eval-returns-in_err-value-in-Chain : goal.eval-returns-in_err-value-in-Chain
eval-returns-in_err-value-in-Chain g t c =
    let a = c.in-Chain in
    let s = setting_of g.B.Before.told c.args.context.now in
    let p = err_from_is_err_and c.from_residual-in_err-value-in-Chain.result c.from_residual-in_err-value-in-Chain.ensures.1 in
    rw (p.1, p.2)
    (sym (ap (λ e. value_of (expr e) s) a.is
    ∙ chain_strict s a.place a.first a.links c.in_err-value-in-Chain.field-0.0
    (sym (c.eval-in-Chain.ensures ∙ ap (λ e. value_of (expr e) s) c.deref-in-Chain.ensures) ∙ c.in_err-value-in-Chain.was)))

pub eval-returns-in_err-value-in-Path : goal.eval-returns-in_err-value-in-Path
eval-returns-in_err-value-in-Path g t c =
    let a = c.in-Path in
    let s = setting_of g.B.Before.told c.args.context.now in
    let p = err_from_is_err_and c.from_residual-in_err-value-in-Path.result c.from_residual-in_err-value-in-Path.ensures.1 in
    rw (p.1, p.2)
    (sym (ap (λ e. value_of (expr e) s) a.is
    ∙ path_strict s a.place a.first a.steps c.in_err-value-in-Path.field-0.0
    (sym (c.eval-in-Path.ensures ∙ ap (λ e. value_of (expr e) s) c.deref-in-Path.ensures) ∙ c.in_err-value-in-Path.was)))

pub eval_links-returns-in_err-value : goal.eval_links-returns-in_err-value
eval_links-returns-in_err-value g t c =
    let s = setting_of g.B.Before.told c.args.context.now in
    let p = err_from_is_err_and c.from_residual.result c.from_residual.ensures.1 in
    let v = c.loop-link.value in
    let i = c.loop-link.link-index in
    let all = c.args.links.now in
    let x = c.link-item.result in
    rw (p.1, p.2)
    (link_ends s c.args.place v c.in_err-value.field-0.0 (link_after x) (map link_after (drop i all)) (drop (i + 1) all) c.args.first (map link_after all)
    (map_drop link_after all i x c.loop-link-test.true c.link-item.is)
    (λ e h. sym c.in_err-value.was ∙ c.eval_link.ensures e h)
    c.loop-link.invariant)

pub eval_links-loop-link-preserved : goal.eval_links-loop-link-preserved
eval_links-loop-link-preserved g t c =
    let s = setting_of g.B.Before.told c.args.context.now in
    let i = c.loop-link.link-index in
    let all = c.args.links.now in
    let x = c.link-item.result in
    leads_on s c.args.place c.loop-link.value c.in_ok-value.value (link_after x) (map link_after (drop i all)) (map link_after (drop (i + 1) all)) c.args.first (map link_after all)
    (map_drop link_after all i x c.loop-link-test.true c.link-item.is)
    (λ e h. sym c.in_ok-value.was ∙ c.eval_link.ensures e h)
    c.loop-link.invariant

pub eval_links-returns : goal.eval_links-returns
eval_links-returns g t c =
    leads_home link_after c.args.links.now c.loop-link.link-index (setting_of g.B.Before.told c.args.context.now) c.args.place c.loop-link.value c.args.first
    (map link_after c.args.links.now) c.loop-link-test.false c.loop-link.invariant

pub eval_steps-returns-in_err-value : goal.eval_steps-returns-in_err-value
eval_steps-returns-in_err-value g t c =
    let s = setting_of g.B.Before.told c.args.context.now in
    let p = err_from_is_err_and c.from_residual.result c.from_residual.ensures.1 in
    let v = c.loop-step.value in
    let i = c.loop-step.step-index in
    let all = c.args.steps.now in
    let x = c.step-item.result in
    rw (p.1, p.2)
    (step_ends s c.args.place v c.in_err-value.field-0.0 (step_after x) (map step_after (drop i all)) (drop (i + 1) all) c.args.first (map step_after all)
    (map_drop step_after all i x c.loop-step-test.true c.step-item.is)
    (λ e h. sym c.in_err-value.was ∙ c.eval_step.ensures e h)
    c.loop-step.invariant)

pub eval_steps-loop-step-preserved : goal.eval_steps-loop-step-preserved
eval_steps-loop-step-preserved g t c =
    let s = setting_of g.B.Before.told c.args.context.now in
    let i = c.loop-step.step-index in
    let all = c.args.steps.now in
    let x = c.step-item.result in
    leads_on s c.args.place c.loop-step.value c.in_ok-value.value (step_after x) (map step_after (drop i all)) (map step_after (drop (i + 1) all)) c.args.first (map step_after all)
    (map_drop step_after all i x c.loop-step-test.true c.step-item.is)
    (λ e h. sym c.in_ok-value.was ∙ c.eval_step.ensures e h)
    c.loop-step.invariant

pub eval_steps-returns : goal.eval_steps-returns
eval_steps-returns g t c =
    leads_home step_after c.args.steps.now c.loop-step.step-index (setting_of g.B.Before.told c.args.context.now) c.args.place c.loop-step.value c.args.first
    (map step_after c.args.steps.now) c.loop-step-test.false c.loop-step.invariant

pub eval_members-returns-in_err-value : goal.eval_members-returns-in_err-value
eval_members-returns-in_err-value g t c =
    let f = member_of (setting_of g.B.Before.told c.args.context.now) (expr c.args.member.now) in
    let q = c.args.quantifier in
    let i = to_z w32 c.loop-i.i-bits in
    let high = to_z w32 (of_z w32 c.args.high) in
    let p = err_from_is_err_and c.from_residual.result c.from_residual.ensures.1 in
    rw (p.1, p.2)
    (failed_member q f i high c.loop-i.holds c.in_err-value.field-0.0 _ (gap_above i high c.loop-i-test.true) (sym c.eval_member.ensures ∙ c.in_err-value.was) c.loop-i.invariant
    ∙ bounds_are q f c.args.low c.args.high c.ranges.low c.ranges.high)

pub eval_members-loop-i-preserved : goal.eval_members-loop-i-preserved
eval_members-loop-i-preserved g t c =
    let f = member_of (setting_of g.B.Before.told c.args.context.now) (expr c.args.member.now) in
    let q = c.args.quantifier in
    let i = to_z w32 c.loop-i.i-bits in
    let high = to_z w32 (of_z w32 c.args.high) in
    next_member q f i (to_z w32 (of_z w32 (i +ℤ pos 1))) high c.loop-i.holds c.joined-holds.result c.in_ok-value.value _
    (gap_above i high c.loop-i-test.true)
    (next_is i high (sfits_to_z c.loop-i.auto.i-fits) (sfits_back w32 c.args.high c.ranges.high) c.loop-i-test.true)
    (sym c.eval_member.ensures ∙ c.in_ok-value.was)
    (c.joined-holds.ensures ∙ ap (λ b. joined q c.loop-i.holds b) c.as_bool.ensures)
    c.loop-i.invariant

pub eval_members-returns : goal.eval_members-returns
eval_members-returns g t c =
    let f = member_of (setting_of g.B.Before.told c.args.context.now) (expr c.args.member.now) in
    let q = c.args.quantifier in
    let i = to_z w32 c.loop-i.i-bits in
    let high = to_z w32 (of_z w32 c.args.high) in
    last_member q f i high c.loop-i.holds _ (no_gap i high c.loop-i-test.false) c.loop-i.invariant ∙ bounds_are q f c.args.low c.args.high c.ranges.low c.ranges.high
