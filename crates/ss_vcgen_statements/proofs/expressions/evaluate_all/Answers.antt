use Rattle.std.proofs.Common.{◌+◌, drop, List, ap}
use Rattle.std.proofs.lemmas.List.{drop_all}
use Rattle.ss_core.specs.declared.expr.Expr.{Expr}
use Rattle.ss_core.specs.View.{expr, exprs}
use Rattle.ss_vcgen_heaps.specs.Positions as positions
use Rattle.ss_vcgen_builder.specs.Builder.{position_at, walk_at}
use Rattle.ss_vcgen_builder.proofs.Builds.{going_start, going_on, going_end, IsWalk-grown}
use Rattle.ss_vcgen_statements.proofs.Evaluated.{drop_next}
use Rattle.ss_vcgen_statements.proofs.expressions.evaluate_all.Goals as goal

pub loop-e-init : goal.loop-e-init
loop-e-init c = going_start c.args.builder.now (λ b k. positions.evaluate_all (walk_at b c.args.walk.now) (exprs c.args.es.now) k) c.requires.fine

pub evaluated-requires-clause-walk : goal.evaluated-requires-clause-walk
evaluated-requires-clause-walk c = IsWalk-grown c.args.builder.now.bank c.loop-e.builder.bank c.loop-e.invariant.grown c.args.walk.now c.requires.walk

pub loop-e-preserved : goal.loop-e-preserved
loop-e-preserved c =
    let es = c.args.es.now in
    let i = c.loop-e.e-index in
    let e = c.e-item.result in
    going_on c.args.builder.now c.loop-e.builder c.evaluated.new.builder (λ b k. positions.evaluate_all (walk_at b c.args.walk.now) (exprs (drop i es)) k) (λ b k. positions.evaluate (walk_at b c.args.walk.now) (expr e) k)
    (λ b k. positions.evaluate_all (walk_at b c.args.walk.now) (exprs (drop (i + 1) es)) k) (λ b. positions.evaluate_all (walk_at b c.args.walk.now) (exprs es) (position_at b c.args.builder.now)) c.loop-e.invariant c.in_ok-evaluated.ensures
    (λ b k. ap (λ (xs : List Expr). positions.evaluate_all (walk_at b c.args.walk.now) (exprs xs) k) (drop_next es i e c.loop-e-test.true c.e-item.is))

pub returns : goal.returns
returns c =
    let es = c.args.es.now in
    let i = c.loop-e.e-index in
    going_end c.args.builder.now c.loop-e.builder (λ b k. positions.evaluate_all (walk_at b c.args.walk.now) (exprs (drop i es)) k) (λ b. positions.evaluate_all (walk_at b c.args.walk.now) (exprs es) (position_at b c.args.builder.now)) c.loop-e.invariant
    (λ b k. ap (λ (xs : List Expr). positions.evaluate_all (walk_at b c.args.walk.now) (exprs xs) k) (drop_all i es c.loop-e-test.false))
