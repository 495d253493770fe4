use Rattle.ss_terms.specs.Forms.{Forms, term_at}
use Rattle.ss_terms.proofs.Grown.{IsGrown-then}
use Rattle.ss_core.specs.declared.names.Kind.TheVariants as kind
use Rattle.ss_vcgen_builder.specs.Builder.{position_at, walk_at}
use Rattle.ss_vcgen_builder.proofs.Builds.{IsWalk-grown}
use Rattle.ss_vcgen_statements.proofs.Steps.{then, then_formula, formula_later}
use Rattle.ss_core.specs.View.{expr}
use Rattle.ss_logic.specs.Formulas.{neg}
use Rattle.ss_logic.specs.Shapes.{committed}
use Rattle.ss_vcgen_heaps.specs.Positions.{check}
use Rattle.ss_vcgen_heaps.specs.Obligations.{check_not_null, is_index}
use Rattle.ss_vcgen_statements.proofs.writes.check_element.Goals as goal

pub check_not_null-requires-clause-walk : goal.check_not_null-requires-clause-walk
check_not_null-requires-clause-walk c =
    let s = c.args.builder.now in
    let w = λ (b : Forms). walk_at b c.args.walk.now in
    let F0 = λ (b : Forms). position_at b s in
    let t1 = c.say.new.builder in
    let e1 = c.in_ok-there.ensures.stays in
    let g1 = e1.grown in
    let p1 = e1 in
    let t2 = c.deny.new.builder in
    let e2 = c.in_ok-free.ensures.stays in
    let g2 = e2.grown in
    let p2 = then s t1 t2 F0 (λ b k. k) p1 e2 in
    let g0_2 = IsGrown-then s.bank t1.bank t2.bank g1 g2 in
    IsWalk-grown s.bank t2.bank g0_2 c.args.walk.now c.requires.walk

pub returns : goal.returns
returns c =
    let s = c.args.builder.now in
    let w = λ (b : Forms). walk_at b c.args.walk.now in
    let F0 = λ (b : Forms). position_at b s in
    let t1 = c.say.new.builder in
    let e1 = c.in_ok-there.ensures.stays in
    let g1 = e1.grown in
    let p1 = e1 in
    let t2 = c.deny.new.builder in
    let e2 = c.in_ok-free.ensures.stays in
    let g2 = e2.grown in
    let p2 = then s t1 t2 F0 (λ b k. k) p1 e2 in
    let g0_2 = IsGrown-then s.bank t1.bank t2.bank g1 g2 in
    let t3 = c.check_not_null.new.builder in
    let e3 = c.in_ok-check_not_null.ensures in
    let g3 = e3.grown in
    let F3 = λ (b : Forms). check_not_null (w b) c.args.target.now.place (expr c.args.target.now.array.now) (term_at b c.args.a) (F0 b) in
    let p3 = then s t2 t3 F0 (λ b k. check_not_null (w b) c.args.target.now.place (expr c.args.target.now.array.now) (term_at b c.args.a) k) p2 e3 in
    let g1_3 = IsGrown-then t1.bank t2.bank t3.bank g2 g3 in
    let t4 = c.check.new.self in
    let e4 = c.in_ok-check.ensures in
    let g4 = e4.grown in
    let F4 = λ (b : Forms). check (w b) kind.Index c.args.target.now.place (is_index (term_at b c.args.a) (term_at b c.args.i)) (F3 b) in
    let p4 = then_formula s t3 t4 F3 p3 c.in_ok-there.there (λ b. is_index (term_at b c.args.a) (term_at b c.args.i)) (λ b f k. check (w b) kind.Index c.args.target.now.place f k) (formula_later t1.bank t3.bank g1_3 c.in_ok-there.there (λ b. is_index (term_at b c.args.a) (term_at b c.args.i)) c.in_ok-there.ensures.at) e4 in
    let g2_4 = IsGrown-then t2.bank t3.bank t4.bank g3 g4 in
    let t5 = c.check-2.new.self in
    let e5 = c.in_ok-check-2.ensures in
    let g5 = e5.grown in
    let F5 = λ (b : Forms). check (w b) kind.WriteCommitted c.args.target.now.place (neg (committed (term_at b s.store) (term_at b c.args.a))) (F4 b) in
    let p5 = then_formula s t4 t5 F4 p4 c.in_ok-free.free (λ b. neg (committed (term_at b s.store) (term_at b c.args.a))) (λ b f k. check (w b) kind.WriteCommitted c.args.target.now.place f k) (formula_later t2.bank t4.bank g2_4 c.in_ok-free.free (λ b. neg (committed (term_at b s.store) (term_at b c.args.a))) c.in_ok-free.ensures.at) e5 in
    p5
