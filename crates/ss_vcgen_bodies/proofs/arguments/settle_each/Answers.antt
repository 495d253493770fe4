use Rattle.std.proofs.Common.{◌+◌, drop}
use Rattle.ss_core.specs.View.{expr, exprs}
use Rattle.ss_terms.specs.Forms.{Forms}
use Rattle.ss_vcgen_builder.specs.Builder.{walk_at}
use Rattle.ss_vcgen_builder.proofs.Builds.{IsWalk-grown}
use Rattle.ss_vcgen_bodies.proofs.Settling.{none_settled, settled_on, all_settled, settled_ones, rest_at, none_left}
use Rattle.ss_vcgen_bodies.proofs.arguments.settle_each.Goals as goal

pub loop-e-init : goal.loop-e-init
loop-e-init c = rw c.new-terms.ensures.items (none_settled c.args.builder.now (λ b. walk_at b c.args.walk.now) (exprs c.args.es.now) c.requires.fine)

pub settle_one-requires-clause-walk : goal.settle_one-requires-clause-walk
settle_one-requires-clause-walk c = IsWalk-grown c.args.builder.now.bank c.loop-e.builder.bank c.loop-e.invariant.along.grown c.args.walk.now c.requires.walk

pub loop-e-preserved : goal.loop-e-preserved
loop-e-preserved c =
    let s = c.args.builder.now in
    let w = λ (b : Forms). walk_at b c.args.walk.now in
    let es = c.args.es.now in
    let before = rw (rest_at es c.loop-e.e-index c.e-item.result c.loop-e-test.true c.e-item.is) at c.loop-e.invariant in
    settled_on s w (exprs es) c.loop-e.builder c.settle_one.new.builder c.loop-e.terms.items c.push.new.self.items c.in_ok-t.t (expr c.e-item.result) (exprs (drop (c.loop-e.e-index + 1) es))
    before c.in_ok-t.ensures.becomes c.in_ok-t.ensures.at c.in_ok-push.ensures.items

pub returns-clause-at : goal.returns-clause-at
returns-clause-at c =
    settled_ones c.args.builder.now (λ b. walk_at b c.args.walk.now) (exprs c.args.es.now) c.loop-e.builder c.loop-e.terms.items (rw (none_left c.loop-e.e-index c.args.es.now c.loop-e-test.false) at c.loop-e.invariant)

pub returns-clause-becomes : goal.returns-clause-becomes
returns-clause-becomes c =
    all_settled c.args.builder.now (λ b. walk_at b c.args.walk.now) (exprs c.args.es.now) c.loop-e.builder c.loop-e.terms.items (rw (none_left c.loop-e.e-index c.args.es.now c.loop-e-test.false) at c.loop-e.invariant)
