use Rattle.std.proofs.Common.{ap, ◌∙◌}
use Rattle.ss_core.specs.View.{expr}
use Rattle.ss_terms.specs.Forms.{Forms}
use Rattle.ss_terms.proofs.Grown.{IsGrown-then}
use Rattle.ss_vcgen_heaps.specs.Positions.{Position, evaluate, meant_at}
use Rattle.ss_vcgen_builder.specs.Builder.{position_at, walk_at}
use Rattle.ss_vcgen_builder.proofs.Builds.{IsWalk-grown}
use Rattle.ss_vcgen_statements.proofs.Evaluated.{IsMeant-grown}
use Rattle.ss_vcgen_statements.proofs.InContexts.{evaluate_alike, meant_alike}
use Rattle.ss_vcgen_statements.proofs.Steps.{then}
use Rattle.ss_vcgen.proofs.changes.evaluate_two.Goals as goal

pub evaluate-requires-2-clause-walk : goal.evaluate-requires-2-clause-walk
evaluate-requires-2-clause-walk c = IsWalk-grown c.args.builder.now.bank c.evaluate.new.builder.bank c.in_ok-one.ensures.becomes.grown c.args.walk.now c.requires.walk

pub returns-clause-first : goal.returns-clause-first
returns-clause-first c =
    IsMeant-grown c.evaluate.new.builder.bank c.evaluate-2.new.builder.bank c.in_ok-other.ensures.becomes.grown c.in_ok-one.one (λ (b : Forms). meant_at (walk_at b c.args.walk.now) (expr c.args.first.now) (position_at b c.args.builder.now)) c.in_ok-one.ensures.at

pub returns-clause-second : goal.returns-clause-second
returns-clause-second c =
    let s = c.args.builder.now in
    let w = λ (b : Forms). walk_at b c.args.walk.now in
    let t1 = c.evaluate.new.builder in
    let t2 = c.evaluate-2.new.builder in
    let e = expr c.args.first.now in
    let n = expr c.args.second.now in
    record {
      has = c.in_ok-other.ensures.at.has;
      is = λ b k.
          c.in_ok-other.ensures.at.is b k
          ∙ ap (λ (k : Position). meant_at (w b) n k) (c.in_ok-one.ensures.becomes.is b (IsGrown-then t1.bank t2.bank b c.in_ok-other.ensures.becomes.grown k))
          ∙ meant_alike (w b) n (evaluate (w b) e (position_at b s)) (position_at b s) (evaluate_alike (w b) e (position_at b s));
    }

pub returns-clause-becomes : goal.returns-clause-becomes
returns-clause-becomes c =
    let s = c.args.builder.now in
    then s c.evaluate.new.builder c.evaluate-2.new.builder (λ (b : Forms). evaluate (walk_at b c.args.walk.now) (expr c.args.first.now) (position_at b s)) (λ b k. evaluate (walk_at b c.args.walk.now) (expr c.args.second.now) k)
    c.in_ok-one.ensures.becomes c.in_ok-other.ensures.becomes
