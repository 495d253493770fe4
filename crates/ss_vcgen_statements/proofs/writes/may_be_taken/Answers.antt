use Rattle.std.proofs.Common.{[], ◌∷◌}
use Rattle.ss_terms.specs.Forms.{Forms, term_at}
use Rattle.ss_vcgen_builder.specs.Builder.{position_at}
use Rattle.ss_vcgen_statements.proofs.Steps.{then, formula_later, no_formulas, formula_more, formula_of}
use Rattle.ss_logic.specs.Shapes.{owner_of, committed, group}
use Rattle.ss_logic.specs.Express.{and_of}
use Rattle.ss_logic.specs.Formulas.{neg}
use Rattle.ss_vcgen_statements.proofs.writes.may_be_taken.Goals as goal

pub each_of-requires-clause-formulas : goal.each_of-requires-clause-formulas
each_of-requires-clause-formulas c =
    let s = c.args.builder.now in
    let F0 = λ (b : Forms). position_at b s in
    let t1 = c.say.new.builder in
    let e1 = c.in_ok-group.ensures.stays in
    let g1 = e1.grown in
    let p1 = e1 in
    let t2 = c.deny.new.builder in
    let e2 = c.in_ok-free.ensures.stays in
    let g2 = e2.grown in
    let p2 = then s t1 t2 F0 (λ b k. k) p1 e2 in
    (formula_more t2.bank c.in_ok-group.group (c.in_ok-free.free ∷ []) (λ b. group (owner_of (term_at b c.args.store) (term_at b c.args.o))) (λ b. neg (committed (term_at b c.args.store) (term_at b c.args.v)) ∷ []) (formula_later t1.bank t2.bank g2 c.in_ok-group.group (λ b. group (owner_of (term_at b c.args.store) (term_at b c.args.o))) c.in_ok-group.ensures.at) (formula_more t2.bank c.in_ok-free.free ([]) (λ b. neg (committed (term_at b c.args.store) (term_at b c.args.v))) (λ b. []) c.in_ok-free.ensures.at (no_formulas t2.bank))).has

pub returns-clause-stays : goal.returns-clause-stays
returns-clause-stays c =
    let s = c.args.builder.now in
    let F0 = λ (b : Forms). position_at b s in
    let t1 = c.say.new.builder in
    let e1 = c.in_ok-group.ensures.stays in
    let g1 = e1.grown in
    let p1 = e1 in
    let t2 = c.deny.new.builder in
    let e2 = c.in_ok-free.ensures.stays in
    let g2 = e2.grown in
    let p2 = then s t1 t2 F0 (λ b k. k) p1 e2 in
    let t3 = c.each_of.new.builder in
    let e3 = c.in_ok-f.ensures.stays in
    let g3 = e3.grown in
    let p3 = then s t2 t3 F0 (λ b k. k) p2 e3 in
    p3

pub returns-clause-at : goal.returns-clause-at
returns-clause-at c =
    let s = c.args.builder.now in
    let F0 = λ (b : Forms). position_at b s in
    let t1 = c.say.new.builder in
    let e1 = c.in_ok-group.ensures.stays in
    let g1 = e1.grown in
    let p1 = e1 in
    let t2 = c.deny.new.builder in
    let e2 = c.in_ok-free.ensures.stays in
    let g2 = e2.grown in
    let p2 = then s t1 t2 F0 (λ b k. k) p1 e2 in
    let t3 = c.each_of.new.builder in
    let e3 = c.in_ok-f.ensures.stays in
    let g3 = e3.grown in
    let p3 = then s t2 t3 F0 (λ b k. k) p2 e3 in
    formula_of t2.bank t3.bank c.in_ok-f.f (c.in_ok-group.group ∷ c.in_ok-free.free ∷ []) and_of (λ b. group (owner_of (term_at b c.args.store) (term_at b c.args.o)) ∷ neg (committed (term_at b c.args.store) (term_at b c.args.v)) ∷ []) g3 (formula_more t2.bank c.in_ok-group.group (c.in_ok-free.free ∷ []) (λ b. group (owner_of (term_at b c.args.store) (term_at b c.args.o))) (λ b. neg (committed (term_at b c.args.store) (term_at b c.args.v)) ∷ []) (formula_later t1.bank t2.bank g2 c.in_ok-group.group (λ b. group (owner_of (term_at b c.args.store) (term_at b c.args.o))) c.in_ok-group.ensures.at) (formula_more t2.bank c.in_ok-free.free ([]) (λ b. neg (committed (term_at b c.args.store) (term_at b c.args.v))) (λ b. []) c.in_ok-free.ensures.at (no_formulas t2.bank))) c.in_ok-f.ensures.at
