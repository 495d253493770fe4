use Rattle.std.proofs.Common.{ap, ◌++◌, ◌∙◌}
use Rattle.ss_core.specs.declared.names.Place.{Place}
use Rattle.ss_core.specs.View.{callee_tree, exprs, stmt_of}
use Rattle.ss_store_rules.specs.Locals.{receiver}
use Rattle.ss_store_rules.specs.NonNull.{Known}
use Rattle.ss_terms.specs.Forms.{Forms}
use Rattle.ss_vcgen_heaps.specs.Obligations as spec
use Rattle.ss_vcgen_known.specs.Views.{known_of}
use Rattle.ss_vcgen_builder.specs.Builder.{position_at, walk_at}
use Rattle.ss_vcgen_statements.proofs.Steps.{then, so}
use Rattle.ss_vcgen.specs.Behind.{place_of}
use Rattle.ss_vcgen.proofs.statements.call.Goals as goal

pub returns : goal.returns
returns c =
    let s = c.args.builder.now in
    let w = λ (b : Forms). walk_at b c.args.walk.now in
    let T = stmt_of c.args.stmt.now in
    let F0 = λ (b : Forms). position_at b s in
    let t1 = c.call_with.new.builder in
    let t2 = c.set_known.new.self in
    let made = λ (b : Forms) (p : Place). spec.call_with (w b) p c.args.x (callee_tree c.args.callee.now) (receiver (callee_tree c.args.callee.now) ++ exprs c.args.es.now) (F0 b) in
    let F1 = λ (b : Forms). made b c.place_of.result in
    let n = known_of c.in_ok-known.known in
    so s t2 (λ b. record (F1 b) { known = n }) (λ b. spec.with_known (w b) T (F0 b).known (made b (place_of T)))
    (λ b k. ap (λ (m : Known). record (F1 b) { known = m }) c.in_ok-known.ensures ∙ ap (λ (p : Place). spec.with_known (w b) T (F0 b).known (made b p)) c.place_of.ensures)
    (then s t1 t2 F1 (λ b k. record k { known = n }) c.in_ok-call_with.ensures c.set_known.ensures)
