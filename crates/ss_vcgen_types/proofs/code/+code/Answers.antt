use Rattle.std.proofs.Common.{sym, ap, ◌∙◌, take}
use Rattle.std.specs.Prelude.{◌&&◌}
use Rattle.ss_core.specs.View as view
use Rattle.ss_core.specs.Parts.{chain_front, path_front}
use Rattle.ss_store_rules.specs.Locals.{everywhere}
use Rattle.ss_store_rules.specs.Types.{is_allowed, in_code}
use Rattle.ss_vcgen_types.proofs.Grouping.{front_next, front_whole, path_next, path_whole}
use Rattle.ss_vcgen_types.proofs.Ending.{chain_ends, path_ends, code_links, code_steps, and_false, and_true}
use Rattle.ss_vcgen_types.proofs.code.+code.Goals as goal

pub are_code-returns-then-not-link_is_code : goal.are_code-returns-then-not-link_is_code
are_code-returns-then-not-link_is_code t c = λ p e.
    let i = c.loop-link.link-index in
    let all = c.args.links.now in
    let b = view.body c.args.body.now in
    let is = everywhere (is_allowed b in_code) in
    let front = chain_front p e (take i all) in
    chain_ends is (code_links b) p e all i c.link-item.result c.loop-link-test.true c.link-item.is
    (c.link_is_code.ensures p front ∙ ap (λ x. is front && x) c.if-not-link_is_code.true ∙ and_false (is front))
    ∙ sym (and_false (is e))

pub are_code-loop-link-preserved : goal.are_code-loop-link-preserved
are_code-loop-link-preserved t c = λ p e.
    let i = c.loop-link.link-index in
    let all = c.args.links.now in
    let b = view.body c.args.body.now in
    let is = everywhere (is_allowed b in_code) in
    let front = chain_front p e (take i all) in
    ap is (front_next p e all i c.link-item.result c.loop-link-test.true c.link-item.is)
    ∙ c.link_is_code.ensures p front
    ∙ ap (λ x. is front && x) c.if-not-link_is_code.false
    ∙ and_true (is front)
    ∙ c.loop-link.invariant p e

pub are_code-returns : goal.are_code-returns
are_code-returns t c = λ p e.
    let b = view.body c.args.body.now in
    let is = everywhere (is_allowed b in_code) in
    sym (ap is (front_whole p e c.args.links.now c.loop-link.link-index c.loop-link-test.false)) ∙ c.loop-link.invariant p e ∙ sym (and_true (is e))

pub steps_are_code-returns-then-not-step_is_code : goal.steps_are_code-returns-then-not-step_is_code
steps_are_code-returns-then-not-step_is_code t c = λ p e.
    let i = c.loop-step.step-index in
    let all = c.args.steps.now in
    let b = view.body c.args.body.now in
    let is = everywhere (is_allowed b in_code) in
    let front = path_front p e (take i all) in
    path_ends is (code_steps b) p e all i c.step-item.result c.loop-step-test.true c.step-item.is
    (c.step_is_code.ensures p front ∙ ap (λ x. is front && x) c.if-not-step_is_code.true ∙ and_false (is front))
    ∙ sym (and_false (is e))

pub steps_are_code-loop-step-preserved : goal.steps_are_code-loop-step-preserved
steps_are_code-loop-step-preserved t c = λ p e.
    let i = c.loop-step.step-index in
    let all = c.args.steps.now in
    let b = view.body c.args.body.now in
    let is = everywhere (is_allowed b in_code) in
    let front = path_front p e (take i all) in
    ap is (path_next p e all i c.step-item.result c.loop-step-test.true c.step-item.is)
    ∙ c.step_is_code.ensures p front
    ∙ ap (λ x. is front && x) c.if-not-step_is_code.false
    ∙ and_true (is front)
    ∙ c.loop-step.invariant p e

pub steps_are_code-returns : goal.steps_are_code-returns
steps_are_code-returns t c = λ p e.
    let b = view.body c.args.body.now in
    let is = everywhere (is_allowed b in_code) in
    sym (ap is (path_whole p e c.args.steps.now c.loop-step.step-index c.loop-step-test.false)) ∙ c.loop-step.invariant p e ∙ sym (and_true (is e))
