use Rattle.std.proofs.Common.{sym, ap, ◌∙◌, take}
use Rattle.std.specs.Prelude.{◌&&◌}
use Rattle.ss_core.specs.Parts.{chain_front}
use Rattle.ss_store_rules.specs.NonNull.{is_this_object}
use Rattle.ss_vcgen_types.proofs.Grouping.{front_next, front_whole}
use Rattle.ss_vcgen_types.proofs.Ending.{chain_ends, this_links}
use Rattle.ss_vcgen_known.proofs.never_null.are_casts.Goals as goal

pub returns-then-not-is_cast : goal.returns-then-not-is_cast
returns-then-not-is_cast c = λ p e.
    let i = c.loop-link.link-index in
    let all = c.args.links.now in
    let front = chain_front p e (take i all) in
    chain_ends is_this_object this_links p e all i c.link-item.result c.loop-link-test.true c.link-item.is
    (c.is_cast.ensures p front ∙ ap (λ b. b && is_this_object front) c.if-not-is_cast.true)

pub loop-link-preserved : goal.loop-link-preserved
loop-link-preserved c = λ p e.
    let i = c.loop-link.link-index in
    let all = c.args.links.now in
    let front = chain_front p e (take i all) in
    ap is_this_object (front_next p e all i c.link-item.result c.loop-link-test.true c.link-item.is)
    ∙ c.is_cast.ensures p front
    ∙ ap (λ b. b && is_this_object front) c.if-not-is_cast.false
    ∙ c.loop-link.invariant p e

pub returns : goal.returns
returns c = λ p e. sym (ap is_this_object (front_whole p e c.args.links.now c.loop-link.link-index c.loop-link-test.false)) ∙ c.loop-link.invariant p e
