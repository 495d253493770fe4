use Rattle.std.proofs.Common.{ap, ◌∙◌}
use Rattle.ss_core.specs.View.{expr}
use Rattle.ss_logic.specs.Express.{said}
use Rattle.ss_terms.specs.Forms.{Forms}
use Rattle.ss_terms.proofs.Grown.{IsGrown-then}
use Rattle.ss_vcgen_heaps.specs.Positions.{evaluate}
use Rattle.ss_vcgen_builder.specs.Builder.{position_at, walk_at}
use Rattle.ss_vcgen_statements.proofs.Steps.{then}
use Rattle.ss_vcgen_bodies.proofs.sides.tested.Goals as goal

pub returns-clause-at : goal.returns-clause-at
returns-clause-at c =
    let t1 = c.evaluate.new.builder in
    let t2 = c.truth.new.builder in
    record {
      has = c.in_ok-f.ensures.at.has;
      is = λ b k. c.in_ok-f.ensures.at.is b k ∙ ap said (c.in_ok-meant.ensures.at.is b (IsGrown-then t1.bank t2.bank b c.in_ok-f.ensures.stays.grown k));
    }

pub returns-clause-becomes : goal.returns-clause-becomes
returns-clause-becomes c =
    then c.args.builder.now c.evaluate.new.builder c.truth.new.builder (λ (b : Forms). evaluate (walk_at b c.args.walk.now) (expr c.args.e.now) (position_at b c.args.builder.now)) (λ b k. k) c.in_ok-meant.ensures.becomes c.in_ok-f.ensures.stays
