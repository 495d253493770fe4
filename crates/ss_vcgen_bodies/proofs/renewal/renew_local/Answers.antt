use Rattle.std.proofs.Common.{Some, ap}
use Rattle.ss_logic.specs.declared.Sort.{Sort}
use Rattle.ss_terms.specs.Forms.{Forms}
use Rattle.ss_vcgen_heaps.specs.Positions.{new_term, set_local, with_new}
use Rattle.ss_vcgen_builder.specs.Builder.{position_at}
use Rattle.ss_vcgen_statements.proofs.Steps.{so, then_term}
use Rattle.ss_logic.specs.Express.{element_sort}
use Rattle.ss_vcgen_bodies.proofs.renewal.renew_local.Goals as goal

pub returns : goal.returns
returns c =
    let s = c.args.builder.now in
    let x = c.args.x in
    let F0 = λ (b : Forms). position_at b s in
    let o = c.element_sort.result in
    let t1 = c.new_term.new.self in
    let t2 = c.set_local.new.self in
    let at = λ (o : Sort) (b : Forms). set_local x (new_term o (F0 b)) (with_new o (F0 b)) in
    so s t2 (at o) (at (element_sort (Some c.args.ty))) (λ b k. ap (λ (o : Sort). at o b) c.element_sort.ensures)
    (then_term s t1 t2 (λ b. with_new o (F0 b)) c.in_ok-t.ensures.becomes c.in_ok-t.t (λ b. new_term o (F0 b)) (λ b t k. set_local x t k) c.in_ok-t.ensures.at c.set_local.ensures)
