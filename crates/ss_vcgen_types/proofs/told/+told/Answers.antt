use Rattle.std.proofs.Common.{[], ◌++◌, take, sym, ap, ◌∙◌}
use Rattle.ss_core.specs.View.{expr}
use Rattle.ss_core.specs.Parts.{link_after, chain_front}
use Rattle.ss_vcgen_types.specs.Told.{local_of, told_by}
use Rattle.ss_vcgen_types.proofs.Grouping.{path_is, path_some, front_next, front_whole}
use Rattle.ss_vcgen_types.proofs.Telling.{step_tells, append_none, tell_next, no_local_after}
use Rattle.ss_vcgen_types.proofs.told.+told.Goals as goal

pub tell-returns-else-is_empty : goal.tell-returns-else-is_empty
tell-returns-else-is_empty t c =
    let a = c.in-Path in
    append_none c.args.found.now.items _
    (ap (λ e. told_by (expr e) c.args.outcome) a.is ∙ ap (λ e. told_by e c.args.outcome) (path_is a.field-0 a.first a.steps)
    ∙ path_some (λ e. told_by e c.args.outcome) [] (step_tells c.args.outcome) a.field-0 (expr a.first.value) a.steps.items a.steps.len a.steps.ok.0 c.if-is_empty.ensures)

pub tell_links-loop-link-init : goal.tell_links-loop-link-init
tell_links-loop-link-init t c = λ p e before m l h. (h, l)

pub tell_links-loop-link-preserved : goal.tell_links-loop-link-preserved
tell_links-loop-link-preserved t c = λ p e before m l h.
    let i = c.loop-link.link-index in
    let all = c.args.links.now in
    let x = c.link-item.result in
    let v = c.args.outcome in
    let front = chain_front p e (take i all) in
    let next = front_next p e all i x c.loop-link-test.true c.link-item.is in (
      tell_next before c.loop-link.found.items c.tell_link.new.found.items (told_by front v) (told_by (link_after x p front) v) c.args.mark m
          (c.loop-link.invariant p e before m l h).0
          (c.in_ok-tell_link.ensures p front (c.loop-link.invariant p e before m l h).1)
          ∙ ap (λ e. before ++ told_by e v) (sym next),
      sym (ap local_of next ∙ no_local_after x p front),
    )

pub tell_links-returns : goal.tell_links-returns
tell_links-returns t c = λ p e before m l h.
    (c.loop-link.invariant p e before m l h).0
    ∙ ap (λ e. before ++ told_by e c.args.outcome) (front_whole p e c.args.links.now c.loop-link.link-index c.loop-link-test.false)
