use Rattle.std.proofs.Common.{ap, ◌∙◌}
use Rattle.ss_core.specs.View.{exprs}
use Rattle.ss_terms.specs.Forms.{Forms}
use Rattle.ss_terms.proofs.Grown.{IsGrown-then}
use Rattle.ss_vcgen_heaps.specs.Positions.{evaluate_all}
use Rattle.ss_vcgen_heaps.specs.Obligations.{settle_all, arguments_settled}
use Rattle.ss_vcgen_builder.specs.Builder.{position_at, walk_at}
use Rattle.ss_vcgen_builder.proofs.Builds.{IsWalk-grown}
use Rattle.ss_vcgen_statements.proofs.Steps.{then}
use Rattle.ss_vcgen_bodies.proofs.arguments.settle_list.Goals as goal

pub settle_each-requires-clause-walk : goal.settle_each-requires-clause-walk
settle_each-requires-clause-walk c = IsWalk-grown c.args.builder.now.bank c.evaluate_all.new.builder.bank c.in_ok-evaluate_all.ensures.grown c.args.walk.now c.requires.walk

pub returns-clause-becomes : goal.returns-clause-becomes
returns-clause-becomes c =
    let s = c.args.builder.now in
    let w = λ (b : Forms). walk_at b c.args.walk.now in
    let es = exprs c.args.es.now in
    then s c.evaluate_all.new.builder c.settle_each.new.builder (λ b. evaluate_all (w b) es (position_at b s)) (λ b k. settle_all (w b) es k) c.in_ok-evaluate_all.ensures c.in_ok-terms.ensures.becomes

pub returns-clause-at : goal.returns-clause-at
returns-clause-at c =
    let t1 = c.evaluate_all.new.builder in
    let t2 = c.settle_each.new.builder in
    let w = λ (b : Forms). walk_at b c.args.walk.now in
    record {
      has = c.in_ok-terms.ensures.at.has;
      are = λ b k. c.in_ok-terms.ensures.at.are b k ∙ ap (arguments_settled (w b) (exprs c.args.es.now)) (c.in_ok-evaluate_all.ensures.is b (IsGrown-then t1.bank t2.bank b c.in_ok-terms.ensures.becomes.grown k));
    }
