use Rattle.std.proofs.Common.{[], ◌∷◌}
use Rattle.ss_terms.specs.Forms.{Forms, term_at}
use Rattle.ss_terms.proofs.Grown.{IsGrown-then}
use Rattle.ss_vcgen_builder.specs.Builder.{position_at}
use Rattle.ss_vcgen_statements.proofs.Steps.{then, formula_later, no_formulas, formula_more, formula_of}
use Rattle.ss_logic.specs.Shapes.{null_term, owner_of, equal, committed, group}
use Rattle.ss_logic.specs.Express.{and_of, or_of}
use Rattle.ss_logic.specs.Formulas.{neg}
use Rattle.ss_vcgen_statements.proofs.writes.may_be_joined.Goals as goal

pub one_of-requires-clause-formulas : goal.one_of-requires-clause-formulas
one_of-requires-clause-formulas c =
    let s = c.args.builder.now in
    let F0 = λ (b : Forms). position_at b s in
    let t1 = c.is_null.new.builder in
    let e1 = c.in_ok-null.ensures.stays in
    let g1 = e1.grown in
    let p1 = e1 in
    let t2 = c.say.new.builder in
    let e2 = c.in_ok-same.ensures.stays in
    let g2 = e2.grown in
    let p2 = then s t1 t2 F0 (λ b k. k) p1 e2 in
    let t3 = c.say-2.new.builder in
    let e3 = c.in_ok-group.ensures.stays in
    let g3 = e3.grown in
    let p3 = then s t2 t3 F0 (λ b k. k) p2 e3 in
    let t4 = c.may_be_taken.new.builder in
    let e4 = c.in_ok-taken.ensures.stays in
    let g4 = e4.grown in
    let p4 = then s t3 t4 F0 (λ b k. k) p3 e4 in
    let g2_4 = IsGrown-then t2.bank t3.bank t4.bank g3 g4 in
    let g1_3 = IsGrown-then t1.bank t2.bank t3.bank g2 g3 in
    let g1_4 = IsGrown-then t1.bank t3.bank t4.bank g1_3 g4 in
    (formula_more t4.bank c.in_ok-null.null (c.in_ok-same.same ∷ c.in_ok-group.group ∷ c.in_ok-taken.taken ∷ []) (λ b. equal (term_at b c.args.v) null_term) (λ b. equal (owner_of (term_at b s.store) (term_at b c.args.o)) (owner_of (term_at b s.store) (term_at b c.args.v)) ∷ group (owner_of (term_at b s.store) (term_at b c.args.v)) ∷ and_of (group (owner_of (term_at b s.store) (term_at b c.args.o)) ∷ neg (committed (term_at b s.store) (term_at b c.args.v)) ∷ []) ∷ []) (formula_later t1.bank t4.bank g1_4 c.in_ok-null.null (λ b. equal (term_at b c.args.v) null_term) c.in_ok-null.ensures.at) (formula_more t4.bank c.in_ok-same.same (c.in_ok-group.group ∷ c.in_ok-taken.taken ∷ []) (λ b. equal (owner_of (term_at b s.store) (term_at b c.args.o)) (owner_of (term_at b s.store) (term_at b c.args.v))) (λ b. group (owner_of (term_at b s.store) (term_at b c.args.v)) ∷ and_of (group (owner_of (term_at b s.store) (term_at b c.args.o)) ∷ neg (committed (term_at b s.store) (term_at b c.args.v)) ∷ []) ∷ []) (formula_later t2.bank t4.bank g2_4 c.in_ok-same.same (λ b. equal (owner_of (term_at b s.store) (term_at b c.args.o)) (owner_of (term_at b s.store) (term_at b c.args.v))) c.in_ok-same.ensures.at) (formula_more t4.bank c.in_ok-group.group (c.in_ok-taken.taken ∷ []) (λ b. group (owner_of (term_at b s.store) (term_at b c.args.v))) (λ b. and_of (group (owner_of (term_at b s.store) (term_at b c.args.o)) ∷ neg (committed (term_at b s.store) (term_at b c.args.v)) ∷ []) ∷ []) (formula_later t3.bank t4.bank g4 c.in_ok-group.group (λ b. group (owner_of (term_at b s.store) (term_at b c.args.v))) c.in_ok-group.ensures.at) (formula_more t4.bank c.in_ok-taken.taken ([]) (λ b. and_of (group (owner_of (term_at b s.store) (term_at b c.args.o)) ∷ neg (committed (term_at b s.store) (term_at b c.args.v)) ∷ [])) (λ b. []) c.in_ok-taken.ensures.at (no_formulas t4.bank))))).has

pub returns-clause-stays : goal.returns-clause-stays
returns-clause-stays c =
    let s = c.args.builder.now in
    let F0 = λ (b : Forms). position_at b s in
    let t1 = c.is_null.new.builder in
    let e1 = c.in_ok-null.ensures.stays in
    let g1 = e1.grown in
    let p1 = e1 in
    let t2 = c.say.new.builder in
    let e2 = c.in_ok-same.ensures.stays in
    let g2 = e2.grown in
    let p2 = then s t1 t2 F0 (λ b k. k) p1 e2 in
    let t3 = c.say-2.new.builder in
    let e3 = c.in_ok-group.ensures.stays in
    let g3 = e3.grown in
    let p3 = then s t2 t3 F0 (λ b k. k) p2 e3 in
    let t4 = c.may_be_taken.new.builder in
    let e4 = c.in_ok-taken.ensures.stays in
    let g4 = e4.grown in
    let p4 = then s t3 t4 F0 (λ b k. k) p3 e4 in
    let g2_4 = IsGrown-then t2.bank t3.bank t4.bank g3 g4 in
    let g1_3 = IsGrown-then t1.bank t2.bank t3.bank g2 g3 in
    let g1_4 = IsGrown-then t1.bank t3.bank t4.bank g1_3 g4 in
    let t5 = c.one_of.new.builder in
    let e5 = c.in_ok-f.ensures.stays in
    let g5 = e5.grown in
    let p5 = then s t4 t5 F0 (λ b k. k) p4 e5 in
    p5

pub returns-clause-at : goal.returns-clause-at
returns-clause-at c =
    let s = c.args.builder.now in
    let F0 = λ (b : Forms). position_at b s in
    let t1 = c.is_null.new.builder in
    let e1 = c.in_ok-null.ensures.stays in
    let g1 = e1.grown in
    let p1 = e1 in
    let t2 = c.say.new.builder in
    let e2 = c.in_ok-same.ensures.stays in
    let g2 = e2.grown in
    let p2 = then s t1 t2 F0 (λ b k. k) p1 e2 in
    let t3 = c.say-2.new.builder in
    let e3 = c.in_ok-group.ensures.stays in
    let g3 = e3.grown in
    let p3 = then s t2 t3 F0 (λ b k. k) p2 e3 in
    let t4 = c.may_be_taken.new.builder in
    let e4 = c.in_ok-taken.ensures.stays in
    let g4 = e4.grown in
    let p4 = then s t3 t4 F0 (λ b k. k) p3 e4 in
    let g2_4 = IsGrown-then t2.bank t3.bank t4.bank g3 g4 in
    let g1_3 = IsGrown-then t1.bank t2.bank t3.bank g2 g3 in
    let g1_4 = IsGrown-then t1.bank t3.bank t4.bank g1_3 g4 in
    let t5 = c.one_of.new.builder in
    let e5 = c.in_ok-f.ensures.stays in
    let g5 = e5.grown in
    let p5 = then s t4 t5 F0 (λ b k. k) p4 e5 in
    formula_of t4.bank t5.bank c.in_ok-f.f (c.in_ok-null.null ∷ c.in_ok-same.same ∷ c.in_ok-group.group ∷ c.in_ok-taken.taken ∷ []) or_of (λ b. equal (term_at b c.args.v) null_term ∷ equal (owner_of (term_at b s.store) (term_at b c.args.o)) (owner_of (term_at b s.store) (term_at b c.args.v)) ∷ group (owner_of (term_at b s.store) (term_at b c.args.v)) ∷ and_of (group (owner_of (term_at b s.store) (term_at b c.args.o)) ∷ neg (committed (term_at b s.store) (term_at b c.args.v)) ∷ []) ∷ []) g5 (formula_more t4.bank c.in_ok-null.null (c.in_ok-same.same ∷ c.in_ok-group.group ∷ c.in_ok-taken.taken ∷ []) (λ b. equal (term_at b c.args.v) null_term) (λ b. equal (owner_of (term_at b s.store) (term_at b c.args.o)) (owner_of (term_at b s.store) (term_at b c.args.v)) ∷ group (owner_of (term_at b s.store) (term_at b c.args.v)) ∷ and_of (group (owner_of (term_at b s.store) (term_at b c.args.o)) ∷ neg (committed (term_at b s.store) (term_at b c.args.v)) ∷ []) ∷ []) (formula_later t1.bank t4.bank g1_4 c.in_ok-null.null (λ b. equal (term_at b c.args.v) null_term) c.in_ok-null.ensures.at) (formula_more t4.bank c.in_ok-same.same (c.in_ok-group.group ∷ c.in_ok-taken.taken ∷ []) (λ b. equal (owner_of (term_at b s.store) (term_at b c.args.o)) (owner_of (term_at b s.store) (term_at b c.args.v))) (λ b. group (owner_of (term_at b s.store) (term_at b c.args.v)) ∷ and_of (group (owner_of (term_at b s.store) (term_at b c.args.o)) ∷ neg (committed (term_at b s.store) (term_at b c.args.v)) ∷ []) ∷ []) (formula_later t2.bank t4.bank g2_4 c.in_ok-same.same (λ b. equal (owner_of (term_at b s.store) (term_at b c.args.o)) (owner_of (term_at b s.store) (term_at b c.args.v))) c.in_ok-same.ensures.at) (formula_more t4.bank c.in_ok-group.group (c.in_ok-taken.taken ∷ []) (λ b. group (owner_of (term_at b s.store) (term_at b c.args.v))) (λ b. and_of (group (owner_of (term_at b s.store) (term_at b c.args.o)) ∷ neg (committed (term_at b s.store) (term_at b c.args.v)) ∷ []) ∷ []) (formula_later t3.bank t4.bank g4 c.in_ok-group.group (λ b. group (owner_of (term_at b s.store) (term_at b c.args.v))) c.in_ok-group.ensures.at) (formula_more t4.bank c.in_ok-taken.taken ([]) (λ b. and_of (group (owner_of (term_at b s.store) (term_at b c.args.o)) ∷ neg (committed (term_at b s.store) (term_at b c.args.v)) ∷ [])) (λ b. []) c.in_ok-taken.ensures.at (no_formulas t4.bank))))) c.in_ok-f.ensures.at
