use Rattle.std.proofs.Common.{map, sym, ap, ◌∙◌}
use Rattle.ss_core.specs.View.{exprs, exposed_tree}
use Rattle.ss_terms.specs.Forms.{Forms}
use Rattle.ss_vcgen_heaps.specs.Positions.{Guard, if_reached}
use Rattle.ss_vcgen_builder.specs.Builder.{guard_of, position_at, walk_at}
use Rattle.ss_vcgen_statements.proofs.Going.{here}
use Rattle.ss_vcgen_statements.proofs.Steps.{so, stays}
use Rattle.ss_vcgen_bodies.specs.Words.{head_checked, turned}
use Rattle.ss_vcgen_bodies.proofs.Arms.{arm, is_reached, never}
use Rattle.ss_vcgen_bodies.proofs.heads.turn.Goals as goal

pub returns-then-is_never : goal.returns-then-is_never
returns-then-is_never c =
    let s = c.args.builder.now in
    let F0 = λ (b : Forms). position_at b s in
    let asked = exprs c.args.asked.now in
    let exposes = map exposed_tree c.args.exposes.now in
    so s s F0 (λ b. turned (walk_at b c.args.walk.now) c.args.at asked exposes (F0 b))
    (λ b k. sym (ap (λ (g : Guard). if_reached g (head_checked (walk_at b c.args.walk.now) c.args.at asked exposes (F0 b)) (F0 b)) (never (guard_of s.guard) (sym c.is_never.ensures ∙ c.if-is_never.true)))) (stays s c.requires.fine)

pub returns-else-is_never : goal.returns-else-is_never
returns-else-is_never c =
    let s = c.args.builder.now in
    let F0 = λ (b : Forms). position_at b s in
    let asked = exprs c.args.asked.now in
    let exposes = map exposed_tree c.args.exposes.now in
    let checked = λ (b : Forms). head_checked (walk_at b c.args.walk.now) c.args.at asked exposes (F0 b) in
    arm c.check_head.result s c.check_head.new.builder checked (λ b. turned (walk_at b c.args.walk.now) c.args.at asked exposes (F0 b))
    (λ b. sym (here (guard_of s.guard) (checked b) (F0 b) (is_reached (guard_of s.guard) (sym c.is_never.ensures ∙ c.if-is_never.false)))) c.check_head.ensures
