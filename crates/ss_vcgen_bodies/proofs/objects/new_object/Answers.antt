use Rattle.std.proofs.Common.{[], ◌∷◌, ap}
use Rattle.ss_terms.specs.Forms.{Forms, term_at}
use Rattle.ss_terms.proofs.Grown.{IsGrown-then}
use Rattle.ss_vcgen_builder.specs.Builder.{position_at}
use Rattle.ss_vcgen_statements.proofs.Steps.{then, so, then_formula, then_term, formula_later, term_later}
use Rattle.ss_logic.specs.Shapes.{class_term, next_of, equal}
use Rattle.ss_logic.specs.Shapes as shape
use Rattle.ss_logic.specs.Terms.{New, app}
use Rattle.ss_vcgen_heaps.specs.Positions.{assume, with_store}
use Rattle.ss_vcgen_bodies.specs.CallWords.{object_there}
use Rattle.ss_vcgen_bodies.proofs.objects.new_object.Goals as goal

pub returns-clause-becomes : goal.returns-clause-becomes
returns-clause-becomes c =
    let s = c.args.builder.now in
    let F0 = λ (b : Forms). position_at b s in
    let t1 = c.applied.new.builder in
    let e1 = c.in_ok-o.ensures.stays in
    let g1 = e1.grown in
    let p1 = e1 in
    let t2 = c.class_said.new.builder in
    let e2 = c.in_ok-typed.ensures.stays in
    let g2 = e2.grown in
    let p2 = then s t1 t2 F0 (λ b k. k) p1 e2 in
    let t3 = c.applied-2.new.builder in
    let e3 = c.in_ok-there.ensures.stays in
    let g3 = e3.grown in
    let p3 = then s t2 t3 F0 (λ b k. k) p2 e3 in
    let t4 = c.assume.new.self in
    let e4 = c.in_ok-assume.ensures in
    let g4 = e4.grown in
    let F4 = λ (b : Forms). assume (equal (shape.type_of (term_at b c.in_ok-o.o)) (class_term c.args.class.0)) (F0 b) in
    let p4 = then_formula s t3 t4 F0 p3 c.in_ok-typed.typed (λ b. equal (shape.type_of (term_at b c.in_ok-o.o)) (class_term c.args.class.0)) (λ b f k. assume f k) (formula_later t2.bank t3.bank g3 c.in_ok-typed.typed (λ b. equal (shape.type_of (term_at b c.in_ok-o.o)) (class_term c.args.class.0)) c.in_ok-typed.ensures.at) e4 in
    let t5 = c.with_store.new.self in
    let e5 = c.in_ok-with_store.ensures in
    let g5 = e5.grown in
    let F5 = λ (b : Forms). with_store (app (New c.args.class.0) ((term_at b s.store) ∷ [])) (F4 b) in
    let p5 = then_term s t4 t5 F4 p4 c.in_ok-there.there (λ b. app (New c.args.class.0) ((term_at b s.store) ∷ [])) (λ b f k. with_store f k) (term_later t3.bank t4.bank g4 c.in_ok-there.there (λ b. app (New c.args.class.0) ((term_at b s.store) ∷ [])) c.in_ok-there.ensures.at) e5 in
    let g1_3 = IsGrown-then t1.bank t2.bank t3.bank g2 g3 in
    let g1_4 = IsGrown-then t1.bank t3.bank t4.bank g1_3 g4 in
    let g1_5 = IsGrown-then t1.bank t4.bank t5.bank g1_4 g5 in
    so s t5 F5 (λ b. object_there c.args.class.0 (F0 b))
    (λ b k. ap (λ o. with_store (app (New c.args.class.0) ((term_at b s.store) ∷ [])) (assume (equal (shape.type_of o) (class_term c.args.class.0)) (F0 b))) (c.in_ok-o.ensures.at.is b (IsGrown-then t1.bank t5.bank b g1_5 k))) p5

pub returns-clause-at : goal.returns-clause-at
returns-clause-at c =
    let s = c.args.builder.now in
    let F0 = λ (b : Forms). position_at b s in
    let t1 = c.applied.new.builder in
    let e1 = c.in_ok-o.ensures.stays in
    let g1 = e1.grown in
    let p1 = e1 in
    let t2 = c.class_said.new.builder in
    let e2 = c.in_ok-typed.ensures.stays in
    let g2 = e2.grown in
    let p2 = then s t1 t2 F0 (λ b k. k) p1 e2 in
    let t3 = c.applied-2.new.builder in
    let e3 = c.in_ok-there.ensures.stays in
    let g3 = e3.grown in
    let p3 = then s t2 t3 F0 (λ b k. k) p2 e3 in
    let t4 = c.assume.new.self in
    let e4 = c.in_ok-assume.ensures in
    let g4 = e4.grown in
    let F4 = λ (b : Forms). assume (equal (shape.type_of (term_at b c.in_ok-o.o)) (class_term c.args.class.0)) (F0 b) in
    let p4 = then_formula s t3 t4 F0 p3 c.in_ok-typed.typed (λ b. equal (shape.type_of (term_at b c.in_ok-o.o)) (class_term c.args.class.0)) (λ b f k. assume f k) (formula_later t2.bank t3.bank g3 c.in_ok-typed.typed (λ b. equal (shape.type_of (term_at b c.in_ok-o.o)) (class_term c.args.class.0)) c.in_ok-typed.ensures.at) e4 in
    let t5 = c.with_store.new.self in
    let e5 = c.in_ok-with_store.ensures in
    let g5 = e5.grown in
    let F5 = λ (b : Forms). with_store (app (New c.args.class.0) ((term_at b s.store) ∷ [])) (F4 b) in
    let p5 = then_term s t4 t5 F4 p4 c.in_ok-there.there (λ b. app (New c.args.class.0) ((term_at b s.store) ∷ [])) (λ b f k. with_store f k) (term_later t3.bank t4.bank g4 c.in_ok-there.there (λ b. app (New c.args.class.0) ((term_at b s.store) ∷ [])) c.in_ok-there.ensures.at) e5 in
    let g1_3 = IsGrown-then t1.bank t2.bank t3.bank g2 g3 in
    let g1_4 = IsGrown-then t1.bank t3.bank t4.bank g1_3 g4 in
    let g1_5 = IsGrown-then t1.bank t4.bank t5.bank g1_4 g5 in
    term_later t1.bank t5.bank g1_5 c.in_ok-o.o (λ b. next_of (term_at b s.store)) c.in_ok-o.ensures.at
