use Rattle.std.proofs.Common.{map}
use Rattle.ss_core.specs.View.{exprs, exposed_tree}
use Rattle.ss_terms.specs.Forms.{Forms}
use Rattle.ss_vcgen_builder.specs.Builder.{position_at, walk_at, at_spot}
use Rattle.ss_vcgen_builder.proofs.Builds.{HasSpot-grown}
use Rattle.ss_vcgen_statements.proofs.Steps.{then}
use Rattle.ss_vcgen_bodies.specs.Words.{turned}
use Rattle.ss_vcgen_bodies.proofs.heads.leave_loop.Goals as goal

pub go_to-requires-clause-spot : goal.go_to-requires-clause-spot
go_to-requires-clause-spot c = HasSpot-grown c.args.builder.now.bank c.turn.new.builder.bank c.in_ok-turn.ensures.grown c.args.spot c.requires.spot

pub returns : goal.returns
returns c =
    let w = λ (b : Forms). walk_at b c.args.walk.now in
    then c.args.builder.now c.turn.new.builder c.go_to.new.self (λ b. turned (w b) c.args.at (exprs c.args.asked.now) (map exposed_tree c.args.exposes.now) (position_at b c.args.builder.now)) (λ b k. at_spot b c.args.spot k)
    c.in_ok-turn.ensures c.go_to.ensures.becomes
