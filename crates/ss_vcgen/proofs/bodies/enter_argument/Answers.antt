use Rattle.std.proofs.Common.{[], ◌∷◌, ◌++◌, Some, ap}
use Rattle.ss_logic.specs.declared.Sort.{Sort}
use Rattle.ss_terms.specs.Forms.{Forms}
use Rattle.ss_vcgen_heaps.specs.Positions.{new_term, with_new}
use Rattle.ss_vcgen_builder.specs.Builder.{position_at}
use Rattle.ss_vcgen_statements.proofs.Steps.{so, then_term}
use Rattle.ss_vcgen.specs.Bodies.{argument_entered}
use Rattle.ss_vcgen.proofs.bodies.enter_argument.Goals as goal

pub returns : goal.returns
returns c =
    let s = c.args.builder.now in
    let F0 = λ (b : Forms). position_at b s in
    let o = c.element_sort.result in
    let t1 = c.new_term.new.self in
    let t2 = c.add_local.new.self in
    let at = λ (o : Sort) (b : Forms). record (with_new o (F0 b)) { locals = (F0 b).locals ++ Some (new_term o (F0 b)) ∷ [] } in
    so s t2 (at o) (λ b. argument_entered c.args.ty (F0 b)) (λ b k. ap (λ (o : Sort). at o b) c.element_sort.ensures)
    (then_term s t1 t2 (λ b. with_new o (F0 b)) c.in_ok-t.ensures.becomes c.in_ok-t.t (λ b. new_term o (F0 b)) (λ b x k. record k { locals = k.locals ++ Some x ∷ [] }) c.in_ok-t.ensures.at c.in_ok-add_local.ensures)

pub add_local-requires-clause-local : goal.add_local-requires-clause-local
add_local-requires-clause-local c = c.in_ok-t.ensures.at.has
