use Rattle.std.proofs.Common.{map}
use Rattle.ss_core.specs.View.{exprs, exposed_tree, stmt_of}
use Rattle.ss_terms.specs.Forms.{Forms}
use Rattle.ss_vcgen_builder.specs.Builder.{position_at, walk_at}
use Rattle.ss_vcgen_builder.proofs.Builds.{IsWalk-grown}
use Rattle.ss_vcgen_statements.proofs.Steps.{then}
use Rattle.ss_vcgen_bodies.specs.Words.{head_checked, head_reached}
use Rattle.ss_vcgen_bodies.proofs.heads.enter_loop.Goals as goal

pub head_reached-requires-clause-walk : goal.head_reached-requires-clause-walk
head_reached-requires-clause-walk c = IsWalk-grown c.args.builder.now.bank c.check_head.new.builder.bank c.in_ok-check_head.ensures.grown c.args.walk.now c.requires.walk

pub returns : goal.returns
returns c =
    let w = λ (b : Forms). walk_at b c.args.walk.now in
    let asked = exprs c.args.asked.now in
    let exposes = map exposed_tree c.args.exposes.now in
    then c.args.builder.now c.check_head.new.builder c.head_reached.new.builder (λ b. head_checked (w b) c.args.at asked exposes (position_at b c.args.builder.now)) (λ b k. head_reached (w b) (stmt_of c.args.stmt.now) asked exposes k)
    c.in_ok-check_head.ensures c.in_ok-head_reached.ensures
