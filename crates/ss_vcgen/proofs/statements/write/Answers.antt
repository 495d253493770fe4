use Rattle.std.proofs.Common.{ap}
use Rattle.ss_core.specs.View.{expr, stmt_of}
use Rattle.ss_store_rules.specs.NonNull.{Known}
use Rattle.ss_terms.specs.Forms.{Forms}
use Rattle.ss_vcgen_heaps.specs.Obligations as spec
use Rattle.ss_vcgen_known.specs.Views.{known_of}
use Rattle.ss_vcgen_builder.specs.Builder.{position_at, walk_at}
use Rattle.ss_vcgen_statements.proofs.Steps.{then, so}
use Rattle.ss_vcgen.specs.Behind.{written}
use Rattle.ss_vcgen.proofs.statements.write.Goals as goal

pub returns : goal.returns
returns c =
    let s = c.args.builder.now in
    let w = λ (b : Forms). walk_at b c.args.walk.now in
    let F0 = λ (b : Forms). position_at b s in
    let t1 = c.write_field.new.builder in
    let t2 = c.set_known.new.self in
    let F1 = λ (b : Forms). written (w b) c.args.target.now.place (expr c.args.target.now.object.now) c.args.target.now.field.0 c.args.target.now.mark c.args.target.now.class.0 (expr c.args.value.now) (F0 b) in
    let n = known_of c.in_ok-known.known in
    so s t2 (λ b. record (F1 b) { known = n }) (λ b. spec.with_known (w b) (stmt_of c.args.stmt.now) (F0 b).known (F1 b)) (λ b k. ap (λ (m : Known). record (F1 b) { known = m }) c.in_ok-known.ensures)
    (then s t1 t2 F1 (λ b k. record k { known = n }) c.in_ok-write_field.ensures c.set_known.ensures)
