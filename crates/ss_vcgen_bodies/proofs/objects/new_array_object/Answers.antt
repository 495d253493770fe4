use Rattle.std.proofs.Common.{[], ◌∷◌, ap}
use Rattle.ss_terms.specs.Forms.{Forms, term_at}
use Rattle.ss_terms.proofs.Grown.{IsGrown-then}
use Rattle.ss_vcgen_builder.specs.Builder.{position_at}
use Rattle.ss_vcgen_statements.proofs.Steps.{then, so, then_formulas, then_term, formula_later, term_later, no_formulas, formula_more}
use Rattle.ss_logic.specs.Shapes.{class_term, next_of, equal}
use Rattle.ss_logic.specs.Shapes as shape
use Rattle.ss_logic.specs.Terms.{NewArray, Length, app}
use Rattle.ss_vcgen_heaps.specs.Positions.{assume_all, with_store}
use Rattle.ss_vcgen_bodies.specs.CallWords.{array_there}
use Rattle.ss_vcgen_bodies.proofs.objects.new_array_object.Goals as goal

pub assume_all-requires-clause-formulas : goal.assume_all-requires-clause-formulas
assume_all-requires-clause-formulas c =
    let s = c.args.builder.now in
    let F0 = λ (b : Forms). position_at b s in
    let t1 = c.applied.new.builder in
    let e1 = c.in_ok-o.ensures.stays in
    let g1 = e1.grown in
    let p1 = e1 in
    let t2 = c.class_said.new.builder in
    let e2 = c.in_ok-typed.ensures.stays in
    let g2 = e2.grown in
    let p2 = then s t1 t2 F0 (λ b k. k) p1 e2 in
    let t3 = c.length_said.new.builder in
    let e3 = c.in_ok-length.ensures.stays in
    let g3 = e3.grown in
    let p3 = then s t2 t3 F0 (λ b k. k) p2 e3 in
    let t4 = c.applied-2.new.builder in
    let e4 = c.in_ok-there.ensures.stays in
    let g4 = e4.grown in
    let p4 = then s t3 t4 F0 (λ b k. k) p3 e4 in
    let g2_4 = IsGrown-then t2.bank t3.bank t4.bank g3 g4 in
    (formula_more t4.bank c.in_ok-typed.typed (c.in_ok-length.length ∷ []) (λ b. equal (shape.type_of (term_at b c.in_ok-o.o)) (class_term c.args.class.0)) (λ b. equal (app Length ((term_at b c.in_ok-o.o) ∷ [])) (term_at b c.args.n) ∷ []) (formula_later t2.bank t4.bank g2_4 c.in_ok-typed.typed (λ b. equal (shape.type_of (term_at b c.in_ok-o.o)) (class_term c.args.class.0)) c.in_ok-typed.ensures.at) (formula_more t4.bank c.in_ok-length.length ([]) (λ b. equal (app Length ((term_at b c.in_ok-o.o) ∷ [])) (term_at b c.args.n)) (λ b. []) (formula_later t3.bank t4.bank g4 c.in_ok-length.length (λ b. equal (app Length ((term_at b c.in_ok-o.o) ∷ [])) (term_at b c.args.n)) c.in_ok-length.ensures.at) (no_formulas t4.bank))).has

pub returns-clause-becomes : goal.returns-clause-becomes
returns-clause-becomes c =
    let s = c.args.builder.now in
    let F0 = λ (b : Forms). position_at b s in
    let t1 = c.applied.new.builder in
    let e1 = c.in_ok-o.ensures.stays in
    let g1 = e1.grown in
    let p1 = e1 in
    let t2 = c.class_said.new.builder in
    let e2 = c.in_ok-typed.ensures.stays in
    let g2 = e2.grown in
    let p2 = then s t1 t2 F0 (λ b k. k) p1 e2 in
    let t3 = c.length_said.new.builder in
    let e3 = c.in_ok-length.ensures.stays in
    let g3 = e3.grown in
    let p3 = then s t2 t3 F0 (λ b k. k) p2 e3 in
    let t4 = c.applied-2.new.builder in
    let e4 = c.in_ok-there.ensures.stays in
    let g4 = e4.grown in
    let p4 = then s t3 t4 F0 (λ b k. k) p3 e4 in
    let g2_4 = IsGrown-then t2.bank t3.bank t4.bank g3 g4 in
    let t5 = c.assume_all.new.self in
    let e5 = c.in_ok-assume_all.ensures in
    let g5 = e5.grown in
    let F5 = λ (b : Forms). assume_all (equal (shape.type_of (term_at b c.in_ok-o.o)) (class_term c.args.class.0) ∷ equal (app Length ((term_at b c.in_ok-o.o) ∷ [])) (term_at b c.args.n) ∷ []) (F0 b) in
    let p5 = then_formulas s t4 t5 F0 p4 (c.in_ok-typed.typed ∷ c.in_ok-length.length ∷ []) (λ b. equal (shape.type_of (term_at b c.in_ok-o.o)) (class_term c.args.class.0) ∷ equal (app Length ((term_at b c.in_ok-o.o) ∷ [])) (term_at b c.args.n) ∷ []) (λ b f k. assume_all f k) (formula_more t4.bank c.in_ok-typed.typed (c.in_ok-length.length ∷ []) (λ b. equal (shape.type_of (term_at b c.in_ok-o.o)) (class_term c.args.class.0)) (λ b. equal (app Length ((term_at b c.in_ok-o.o) ∷ [])) (term_at b c.args.n) ∷ []) (formula_later t2.bank t4.bank g2_4 c.in_ok-typed.typed (λ b. equal (shape.type_of (term_at b c.in_ok-o.o)) (class_term c.args.class.0)) c.in_ok-typed.ensures.at) (formula_more t4.bank c.in_ok-length.length ([]) (λ b. equal (app Length ((term_at b c.in_ok-o.o) ∷ [])) (term_at b c.args.n)) (λ b. []) (formula_later t3.bank t4.bank g4 c.in_ok-length.length (λ b. equal (app Length ((term_at b c.in_ok-o.o) ∷ [])) (term_at b c.args.n)) c.in_ok-length.ensures.at) (no_formulas t4.bank))) e5 in
    let t6 = c.with_store.new.self in
    let e6 = c.in_ok-with_store.ensures in
    let g6 = e6.grown in
    let F6 = λ (b : Forms). with_store (app (NewArray c.args.class.0) ((term_at b s.store) ∷ (term_at b c.args.n) ∷ [])) (F5 b) in
    let p6 = then_term s t5 t6 F5 p5 c.in_ok-there.there (λ b. app (NewArray c.args.class.0) ((term_at b s.store) ∷ (term_at b c.args.n) ∷ [])) (λ b f k. with_store f k) (term_later t4.bank t5.bank g5 c.in_ok-there.there (λ b. app (NewArray c.args.class.0) ((term_at b s.store) ∷ (term_at b c.args.n) ∷ [])) c.in_ok-there.ensures.at) e6 in
    let g1_3 = IsGrown-then t1.bank t2.bank t3.bank g2 g3 in
    let g1_4 = IsGrown-then t1.bank t3.bank t4.bank g1_3 g4 in
    let g1_5 = IsGrown-then t1.bank t4.bank t5.bank g1_4 g5 in
    let g1_6 = IsGrown-then t1.bank t5.bank t6.bank g1_5 g6 in
    so s t6 F6 (λ b. array_there c.args.class.0 (term_at b c.args.n) (F0 b))
    (λ b k. ap (λ o. with_store (app (NewArray c.args.class.0) ((term_at b s.store) ∷ (term_at b c.args.n) ∷ [])) (assume_all (equal (shape.type_of o) (class_term c.args.class.0) ∷ equal (app Length (o ∷ [])) (term_at b c.args.n) ∷ []) (F0 b))) (c.in_ok-o.ensures.at.is b (IsGrown-then t1.bank t6.bank b g1_6 k))) p6

pub returns-clause-at : goal.returns-clause-at
returns-clause-at c =
    let s = c.args.builder.now in
    let F0 = λ (b : Forms). position_at b s in
    let t1 = c.applied.new.builder in
    let e1 = c.in_ok-o.ensures.stays in
    let g1 = e1.grown in
    let p1 = e1 in
    let t2 = c.class_said.new.builder in
    let e2 = c.in_ok-typed.ensures.stays in
    let g2 = e2.grown in
    let p2 = then s t1 t2 F0 (λ b k. k) p1 e2 in
    let t3 = c.length_said.new.builder in
    let e3 = c.in_ok-length.ensures.stays in
    let g3 = e3.grown in
    let p3 = then s t2 t3 F0 (λ b k. k) p2 e3 in
    let t4 = c.applied-2.new.builder in
    let e4 = c.in_ok-there.ensures.stays in
    let g4 = e4.grown in
    let p4 = then s t3 t4 F0 (λ b k. k) p3 e4 in
    let g2_4 = IsGrown-then t2.bank t3.bank t4.bank g3 g4 in
    let t5 = c.assume_all.new.self in
    let e5 = c.in_ok-assume_all.ensures in
    let g5 = e5.grown in
    let F5 = λ (b : Forms). assume_all (equal (shape.type_of (term_at b c.in_ok-o.o)) (class_term c.args.class.0) ∷ equal (app Length ((term_at b c.in_ok-o.o) ∷ [])) (term_at b c.args.n) ∷ []) (F0 b) in
    let p5 = then_formulas s t4 t5 F0 p4 (c.in_ok-typed.typed ∷ c.in_ok-length.length ∷ []) (λ b. equal (shape.type_of (term_at b c.in_ok-o.o)) (class_term c.args.class.0) ∷ equal (app Length ((term_at b c.in_ok-o.o) ∷ [])) (term_at b c.args.n) ∷ []) (λ b f k. assume_all f k) (formula_more t4.bank c.in_ok-typed.typed (c.in_ok-length.length ∷ []) (λ b. equal (shape.type_of (term_at b c.in_ok-o.o)) (class_term c.args.class.0)) (λ b. equal (app Length ((term_at b c.in_ok-o.o) ∷ [])) (term_at b c.args.n) ∷ []) (formula_later t2.bank t4.bank g2_4 c.in_ok-typed.typed (λ b. equal (shape.type_of (term_at b c.in_ok-o.o)) (class_term c.args.class.0)) c.in_ok-typed.ensures.at) (formula_more t4.bank c.in_ok-length.length ([]) (λ b. equal (app Length ((term_at b c.in_ok-o.o) ∷ [])) (term_at b c.args.n)) (λ b. []) (formula_later t3.bank t4.bank g4 c.in_ok-length.length (λ b. equal (app Length ((term_at b c.in_ok-o.o) ∷ [])) (term_at b c.args.n)) c.in_ok-length.ensures.at) (no_formulas t4.bank))) e5 in
    let t6 = c.with_store.new.self in
    let e6 = c.in_ok-with_store.ensures in
    let g6 = e6.grown in
    let F6 = λ (b : Forms). with_store (app (NewArray c.args.class.0) ((term_at b s.store) ∷ (term_at b c.args.n) ∷ [])) (F5 b) in
    let p6 = then_term s t5 t6 F5 p5 c.in_ok-there.there (λ b. app (NewArray c.args.class.0) ((term_at b s.store) ∷ (term_at b c.args.n) ∷ [])) (λ b f k. with_store f k) (term_later t4.bank t5.bank g5 c.in_ok-there.there (λ b. app (NewArray c.args.class.0) ((term_at b s.store) ∷ (term_at b c.args.n) ∷ [])) c.in_ok-there.ensures.at) e6 in
    let g1_3 = IsGrown-then t1.bank t2.bank t3.bank g2 g3 in
    let g1_4 = IsGrown-then t1.bank t3.bank t4.bank g1_3 g4 in
    let g1_5 = IsGrown-then t1.bank t4.bank t5.bank g1_4 g5 in
    let g1_6 = IsGrown-then t1.bank t5.bank t6.bank g1_5 g6 in
    term_later t1.bank t6.bank g1_6 c.in_ok-o.o (λ b. next_of (term_at b s.store)) c.in_ok-o.ensures.at
