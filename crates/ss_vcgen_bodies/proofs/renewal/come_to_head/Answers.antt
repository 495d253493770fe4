use Rattle.std.proofs.Common.{ap}
use Rattle.ss_core.specs.View.{stmt_of}
use Rattle.ss_store_rules.specs.NonNull.{Known}
use Rattle.ss_terms.specs.Forms.{Forms}
use Rattle.ss_vcgen_heaps.specs.Obligations as spec
use Rattle.ss_vcgen_known.specs.Views.{known_of}
use Rattle.ss_vcgen_builder.specs.Builder.{position_at, walk_at}
use Rattle.ss_vcgen_statements.proofs.Steps.{then, so}
use Rattle.ss_vcgen_bodies.specs.Words.{come_to_head}
use Rattle.ss_vcgen_bodies.proofs.renewal.come_to_head.Goals as goal

pub returns : goal.returns
returns c =
    let s = c.args.builder.now in
    let st = stmt_of c.args.stmt.now in
    let F0 = λ (b : Forms). position_at b s in
    let t1 = c.renew.new.builder in
    let t2 = c.set_known.new.self in
    let F1 = λ (b : Forms). spec.renewed (walk_at b c.args.walk.now) st (F0 b) in
    let n = known_of c.in_ok-known.known in
    so s t2 (λ b. record (F1 b) { known = n }) (λ b. come_to_head (walk_at b c.args.walk.now) st (F0 b)) (λ b k. ap (λ (m : Known). record (F1 b) { known = m }) c.in_ok-known.ensures)
    (then s t1 t2 F1 (λ b k. record k { known = n }) c.in_ok-renew.ensures c.set_known.ensures)
