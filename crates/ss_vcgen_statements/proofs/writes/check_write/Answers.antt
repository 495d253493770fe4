use Rattle.ss_terms.specs.Forms.{Forms, term_at}
use Rattle.ss_core.specs.declared.names.Kind.TheVariants as kind
use Rattle.ss_vcgen_builder.specs.Builder.{position_at, walk_at}
use Rattle.ss_vcgen_builder.proofs.Builds.{IsWalk-grown}
use Rattle.ss_vcgen_statements.proofs.Steps.{then, then_formula, formula_later}
use Rattle.ss_core.specs.View.{expr}
use Rattle.ss_logic.specs.Formulas.{neg}
use Rattle.ss_logic.specs.Shapes.{class_term, level_of, sub_atom}
use Rattle.ss_vcgen_heaps.specs.Positions.{check}
use Rattle.ss_vcgen_heaps.specs.Obligations.{check_not_null, check_owners}
use Rattle.ss_vcgen_statements.proofs.writes.check_write.Goals as goal

pub check_not_null-requires-clause-walk : goal.check_not_null-requires-clause-walk
check_not_null-requires-clause-walk c =
    let s = c.args.builder.now in
    let w = λ (b : Forms). walk_at b c.args.walk.now in
    let F0 = λ (b : Forms). position_at b s in
    let t1 = c.deny.new.builder in
    let e1 = c.in_ok-unpacked.ensures.stays in
    let g1 = e1.grown in
    let p1 = e1 in
    IsWalk-grown s.bank t1.bank g1 c.args.walk.now c.requires.walk

pub returns : goal.returns
returns c =
    let s = c.args.builder.now in
    let w = λ (b : Forms). walk_at b c.args.walk.now in
    let F0 = λ (b : Forms). position_at b s in
    let t1 = c.deny.new.builder in
    let e1 = c.in_ok-unpacked.ensures.stays in
    let g1 = e1.grown in
    let p1 = e1 in
    let t2 = c.check_not_null.new.builder in
    let e2 = c.in_ok-check_not_null.ensures in
    let g2 = e2.grown in
    let F2 = λ (b : Forms). check_not_null (w b) c.args.target.now.place (expr c.args.target.now.object.now) (term_at b c.args.o) (F0 b) in
    let p2 = then s t1 t2 F0 (λ b k. check_not_null (w b) c.args.target.now.place (expr c.args.target.now.object.now) (term_at b c.args.o) k) p1 e2 in
    let t3 = c.check.new.self in
    let e3 = c.in_ok-check.ensures in
    let g3 = e3.grown in
    let F3 = λ (b : Forms). check (w b) kind.WriteLevel c.args.target.now.place (neg (sub_atom (level_of (term_at b s.store) (term_at b c.args.o)) (class_term c.args.target.now.class.0))) (F2 b) in
    let p3 = then_formula s t2 t3 F2 p2 c.in_ok-unpacked.unpacked (λ b. neg (sub_atom (level_of (term_at b s.store) (term_at b c.args.o)) (class_term c.args.target.now.class.0))) (λ b f k. check (w b) kind.WriteLevel c.args.target.now.place f k) (formula_later t1.bank t2.bank g2 c.in_ok-unpacked.unpacked (λ b. neg (sub_atom (level_of (term_at b s.store) (term_at b c.args.o)) (class_term c.args.target.now.class.0))) c.in_ok-unpacked.ensures.at) e3 in
    let t4 = c.check_owners.new.builder in
    let e4 = c.in_ok-check_owners.ensures in
    let g4 = e4.grown in
    let F4 = λ (b : Forms). check_owners c.args.target.now.mark (w b) c.args.target.now.place (term_at b c.args.o) c.args.target.now.class.0 (term_at b c.args.v) (F3 b) in
    let p4 = then s t3 t4 F3 (λ b k. check_owners c.args.target.now.mark (w b) c.args.target.now.place (term_at b c.args.o) c.args.target.now.class.0 (term_at b c.args.v) k) p3 e4 in
    p4
