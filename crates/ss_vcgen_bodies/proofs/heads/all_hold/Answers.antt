use Rattle.std.proofs.Common.{◌+◌, List, map, drop, ap}
use Rattle.std.proofs.lemmas.List.{drop_all}
use Rattle.ss_core.specs.declared.expr.Expr.{Expr}
use Rattle.ss_core.specs.View.{expr, exprs}
use Rattle.ss_vcgen_heaps.specs.Positions as position
use Rattle.ss_vcgen_builder.specs.Builder.{position_at, walk_at}
use Rattle.ss_vcgen_builder.proofs.Builds.{IsWalk-grown}
use Rattle.ss_vcgen_statements.proofs.Evaluated.{drop_next}
use Rattle.ss_vcgen_bodies.proofs.Making.{no_formula_made, formula_on, formulas_made, formula_before}
use Rattle.ss_vcgen_bodies.proofs.heads.all_hold.Goals as goal

pub loop-e-init : goal.loop-e-init
loop-e-init c = no_formula_made c.args.builder.now c.new-made.result.items c.requires.fine c.new-made.ensures.items (λ b. map (position.holds_at (walk_at b c.args.walk.now) (position_at b c.args.builder.now)) (exprs c.args.es.now))

pub holds_at-requires-clause-walk : goal.holds_at-requires-clause-walk
holds_at-requires-clause-walk c = IsWalk-grown c.args.builder.now.bank c.loop-e.builder.bank c.loop-e.invariant.stays.grown c.args.walk.now c.requires.walk

pub loop-e-preserved : goal.loop-e-preserved
loop-e-preserved c =
    let s = c.args.builder.now in
    let t = c.loop-e.builder in
    let u = c.holds_at.new.builder in
    let es = c.args.es.now in
    let i = c.loop-e.e-index in
    let e = c.e-item.result in
    let m = c.loop-e.invariant in
    let q = c.in_ok-f.ensures.stays in
    formula_on s t u c.loop-e.made.items c.push.new.self.items c.in_ok-f.f (λ b. position.holds_at (walk_at b c.args.walk.now) (position_at b s) (expr e)) (λ b. map (position.holds_at (walk_at b c.args.walk.now) (position_at b s)) (exprs (drop i es)))
    (λ b. map (position.holds_at (walk_at b c.args.walk.now) (position_at b s)) (exprs (drop (i + 1) es))) (λ b. map (position.holds_at (walk_at b c.args.walk.now) (position_at b s)) (exprs es))
    m q (formula_before s t m.stays u.bank q.grown c.in_ok-f.f (λ b k. position.holds_at (walk_at b c.args.walk.now) k (expr e)) c.in_ok-f.ensures.at) c.in_ok-push.ensures.items
    (λ b k. ap (λ (xs : List Expr). map (position.holds_at (walk_at b c.args.walk.now) (position_at b s)) (exprs xs)) (drop_next es i e c.loop-e-test.true c.e-item.is))

pub returns-clause-at : goal.returns-clause-at
returns-clause-at c =
    let s = c.args.builder.now in
    let es = c.args.es.now in
    let i = c.loop-e.e-index in
    formulas_made s c.loop-e.builder c.loop-e.made.items (λ b. map (position.holds_at (walk_at b c.args.walk.now) (position_at b s)) (exprs (drop i es))) (λ b. map (position.holds_at (walk_at b c.args.walk.now) (position_at b s)) (exprs es)) c.loop-e.invariant
    (λ b. ap (λ (xs : List Expr). map (position.holds_at (walk_at b c.args.walk.now) (position_at b s)) (exprs xs)) (drop_all i es c.loop-e-test.false))

pub returns-clause-stays : goal.returns-clause-stays
returns-clause-stays c = c.loop-e.invariant.stays
