use Rattle.std.proofs.Common.{ap}
use Rattle.ss_terms.specs.Forms.{Forms, term_at, terms_at}
use Rattle.ss_terms.proofs.Grown.{IsGrown-then, HasTerms-grown, HasFormulas-grown}
use Rattle.ss_vcgen_builder.specs.Builder.{position_at, walk_at}
use Rattle.ss_vcgen_builder.proofs.Builds.{IsWalk-grown}
use Rattle.ss_vcgen_statements.proofs.Steps.{then, so, then_formula, then_formulas, formula_later, formulas_later}
use Rattle.ss_core.specs.View.{classes}
use Rattle.ss_vcgen_heaps.specs.Positions.{good, assume, assume_all}
use Rattle.ss_vcgen_heaps.specs.Contracts.{conditions, contract_context}
use Rattle.ss_vcgen_contracts.specs.Views.{contract_of, ones_at}
use Rattle.ss_vcgen_bodies.specs.CallWords.{result_said, promises_assumed}
use Rattle.ss_vcgen_bodies.proofs.Returning.{ones_of}
use Rattle.ss_vcgen_bodies.proofs.calls.assume_promises.Goals as goal

pub assume_all-requires-clause-formulas : goal.assume_all-requires-clause-formulas
assume_all-requires-clause-formulas c =
    let s = c.args.builder.now in
    let w = λ (b : Forms). walk_at b c.args.walk.now in
    let F0 = λ (b : Forms). position_at b s in
    let t1 = c.good.new.builder in
    let e1 = c.in_ok-is_good.ensures.stays in
    let g1 = e1.grown in
    let p1 = e1 in
    let t2 = c.exit_said.new.builder in
    let e2 = c.in_ok-said.ensures.stays in
    let g2 = e2.grown in
    let p2 = then s t1 t2 F0 (λ b k. k) p1 e2 in
    let g0_2 = IsGrown-then s.bank t1.bank t2.bank g1 g2 in
    let t3 = c.result_said.new.builder in
    let e3 = c.in_ok-typed.ensures.stays in
    let g3 = e3.grown in
    let p3 = then s t2 t3 F0 (λ b k. k) p2 e3 in
    let g1_3 = IsGrown-then t1.bank t2.bank t3.bank g2 g3 in
    let t4 = c.assume.new.self in
    let e4 = c.in_ok-assume.ensures in
    let g4 = e4.grown in
    let F4 = λ (b : Forms). assume (good (term_at b s.store)) (F0 b) in
    let p4 = then_formula s t3 t4 F0 p3 c.in_ok-is_good.is_good (λ b. good (term_at b s.store)) (λ b f k. assume f k) (formula_later t1.bank t3.bank g1_3 c.in_ok-is_good.is_good (λ b. good (term_at b s.store)) c.in_ok-is_good.ensures.at) e4 in
    let g2_4 = IsGrown-then t2.bank t3.bank t4.bank g3 g4 in
    rw c.deref.ensures.value (HasFormulas-grown t2.bank t4.bank g2_4 c.in_ok-said.said.items c.in_ok-said.ensures.at.has)

pub assume_all-requires-2-clause-formulas : goal.assume_all-requires-2-clause-formulas
assume_all-requires-2-clause-formulas c =
    let s = c.args.builder.now in
    let w = λ (b : Forms). walk_at b c.args.walk.now in
    let F0 = λ (b : Forms). position_at b s in
    let t1 = c.good.new.builder in
    let e1 = c.in_ok-is_good.ensures.stays in
    let g1 = e1.grown in
    let p1 = e1 in
    let t2 = c.exit_said.new.builder in
    let e2 = c.in_ok-said.ensures.stays in
    let g2 = e2.grown in
    let p2 = then s t1 t2 F0 (λ b k. k) p1 e2 in
    let g0_2 = IsGrown-then s.bank t1.bank t2.bank g1 g2 in
    let t3 = c.result_said.new.builder in
    let e3 = c.in_ok-typed.ensures.stays in
    let g3 = e3.grown in
    let p3 = then s t2 t3 F0 (λ b k. k) p2 e3 in
    let g1_3 = IsGrown-then t1.bank t2.bank t3.bank g2 g3 in
    let t4 = c.assume.new.self in
    let e4 = c.in_ok-assume.ensures in
    let g4 = e4.grown in
    let F4 = λ (b : Forms). assume (good (term_at b s.store)) (F0 b) in
    let p4 = then_formula s t3 t4 F0 p3 c.in_ok-is_good.is_good (λ b. good (term_at b s.store)) (λ b f k. assume f k) (formula_later t1.bank t3.bank g1_3 c.in_ok-is_good.is_good (λ b. good (term_at b s.store)) c.in_ok-is_good.ensures.at) e4 in
    let g2_4 = IsGrown-then t2.bank t3.bank t4.bank g3 g4 in
    let t5 = c.assume_all.new.self in
    let e5 = c.in_ok-assume_all.ensures in
    let g5 = e5.grown in
    let F5 = λ (b : Forms). assume_all (conditions (contract_of c.args.callee).exit (contract_context (classes c.args.walk.now.core.now.classes) (contract_of c.args.callee) (term_at b s.store) (term_at b c.args.before) (ones_at b c.args.arguments.now) (ones_at b c.args.results.now))) (F4 b) in
    let p5 = then_formulas s t4 t5 F4 p4 c.deref.result.now (λ b. conditions (contract_of c.args.callee).exit (contract_context (classes c.args.walk.now.core.now.classes) (contract_of c.args.callee) (term_at b s.store) (term_at b c.args.before) (ones_at b c.args.arguments.now) (ones_at b c.args.results.now))) (λ b f k. assume_all f k) (formulas_later t2.bank t4.bank g2_4 c.deref.result.now (λ b. conditions (contract_of c.args.callee).exit (contract_context (classes c.args.walk.now.core.now.classes) (contract_of c.args.callee) (term_at b s.store) (term_at b c.args.before) (ones_at b c.args.arguments.now) (ones_at b c.args.results.now))) (rw c.deref.ensures.value c.in_ok-said.ensures.at)) e5 in
    let g3_5 = IsGrown-then t3.bank t4.bank t5.bank g4 g5 in
    rw c.deref-2.ensures.value (HasFormulas-grown t3.bank t5.bank g3_5 c.in_ok-typed.typed.items c.in_ok-typed.ensures.at.has)

pub exit_said-requires-clause-walk : goal.exit_said-requires-clause-walk
exit_said-requires-clause-walk c =
    let s = c.args.builder.now in
    let w = λ (b : Forms). walk_at b c.args.walk.now in
    let F0 = λ (b : Forms). position_at b s in
    let t1 = c.good.new.builder in
    let e1 = c.in_ok-is_good.ensures.stays in
    let g1 = e1.grown in
    let p1 = e1 in
    IsWalk-grown s.bank t1.bank g1 c.args.walk.now c.requires.walk

pub exit_said-requires-clause-arguments : goal.exit_said-requires-clause-arguments
exit_said-requires-clause-arguments c =
    let s = c.args.builder.now in
    let w = λ (b : Forms). walk_at b c.args.walk.now in
    let F0 = λ (b : Forms). position_at b s in
    let t1 = c.good.new.builder in
    let e1 = c.in_ok-is_good.ensures.stays in
    let g1 = e1.grown in
    let p1 = e1 in
    HasTerms-grown s.bank t1.bank g1 c.args.arguments.now c.requires.arguments

pub exit_said-requires-clause-results : goal.exit_said-requires-clause-results
exit_said-requires-clause-results c =
    let s = c.args.builder.now in
    let w = λ (b : Forms). walk_at b c.args.walk.now in
    let F0 = λ (b : Forms). position_at b s in
    let t1 = c.good.new.builder in
    let e1 = c.in_ok-is_good.ensures.stays in
    let g1 = e1.grown in
    let p1 = e1 in
    HasTerms-grown s.bank t1.bank g1 c.args.results.now c.requires.results

pub result_said-requires-clause-results : goal.result_said-requires-clause-results
result_said-requires-clause-results c =
    let s = c.args.builder.now in
    let w = λ (b : Forms). walk_at b c.args.walk.now in
    let F0 = λ (b : Forms). position_at b s in
    let t1 = c.good.new.builder in
    let e1 = c.in_ok-is_good.ensures.stays in
    let g1 = e1.grown in
    let p1 = e1 in
    let t2 = c.exit_said.new.builder in
    let e2 = c.in_ok-said.ensures.stays in
    let g2 = e2.grown in
    let p2 = then s t1 t2 F0 (λ b k. k) p1 e2 in
    let g0_2 = IsGrown-then s.bank t1.bank t2.bank g1 g2 in
    HasTerms-grown s.bank t2.bank g0_2 c.args.results.now c.requires.results

pub returns : goal.returns
returns c =
    let s = c.args.builder.now in
    let w = λ (b : Forms). walk_at b c.args.walk.now in
    let F0 = λ (b : Forms). position_at b s in
    let t1 = c.good.new.builder in
    let e1 = c.in_ok-is_good.ensures.stays in
    let g1 = e1.grown in
    let p1 = e1 in
    let t2 = c.exit_said.new.builder in
    let e2 = c.in_ok-said.ensures.stays in
    let g2 = e2.grown in
    let p2 = then s t1 t2 F0 (λ b k. k) p1 e2 in
    let g0_2 = IsGrown-then s.bank t1.bank t2.bank g1 g2 in
    let t3 = c.result_said.new.builder in
    let e3 = c.in_ok-typed.ensures.stays in
    let g3 = e3.grown in
    let p3 = then s t2 t3 F0 (λ b k. k) p2 e3 in
    let g1_3 = IsGrown-then t1.bank t2.bank t3.bank g2 g3 in
    let t4 = c.assume.new.self in
    let e4 = c.in_ok-assume.ensures in
    let g4 = e4.grown in
    let F4 = λ (b : Forms). assume (good (term_at b s.store)) (F0 b) in
    let p4 = then_formula s t3 t4 F0 p3 c.in_ok-is_good.is_good (λ b. good (term_at b s.store)) (λ b f k. assume f k) (formula_later t1.bank t3.bank g1_3 c.in_ok-is_good.is_good (λ b. good (term_at b s.store)) c.in_ok-is_good.ensures.at) e4 in
    let g2_4 = IsGrown-then t2.bank t3.bank t4.bank g3 g4 in
    let t5 = c.assume_all.new.self in
    let e5 = c.in_ok-assume_all.ensures in
    let g5 = e5.grown in
    let F5 = λ (b : Forms). assume_all (conditions (contract_of c.args.callee).exit (contract_context (classes c.args.walk.now.core.now.classes) (contract_of c.args.callee) (term_at b s.store) (term_at b c.args.before) (ones_at b c.args.arguments.now) (ones_at b c.args.results.now))) (F4 b) in
    let p5 = then_formulas s t4 t5 F4 p4 c.deref.result.now (λ b. conditions (contract_of c.args.callee).exit (contract_context (classes c.args.walk.now.core.now.classes) (contract_of c.args.callee) (term_at b s.store) (term_at b c.args.before) (ones_at b c.args.arguments.now) (ones_at b c.args.results.now))) (λ b f k. assume_all f k) (formulas_later t2.bank t4.bank g2_4 c.deref.result.now (λ b. conditions (contract_of c.args.callee).exit (contract_context (classes c.args.walk.now.core.now.classes) (contract_of c.args.callee) (term_at b s.store) (term_at b c.args.before) (ones_at b c.args.arguments.now) (ones_at b c.args.results.now))) (rw c.deref.ensures.value c.in_ok-said.ensures.at)) e5 in
    let g3_5 = IsGrown-then t3.bank t4.bank t5.bank g4 g5 in
    let t6 = c.assume_all-2.new.self in
    let e6 = c.in_ok-assume_all-2.ensures in
    let g6 = e6.grown in
    let F6 = λ (b : Forms). assume_all (result_said c.args.callee.body.now.result (term_at b s.store) (terms_at b c.args.results.now)) (F5 b) in
    let p6 = then_formulas s t5 t6 F5 p5 c.deref-2.result.now (λ b. result_said c.args.callee.body.now.result (term_at b s.store) (terms_at b c.args.results.now)) (λ b f k. assume_all f k) (formulas_later t3.bank t5.bank g3_5 c.deref-2.result.now (λ b. result_said c.args.callee.body.now.result (term_at b s.store) (terms_at b c.args.results.now)) (rw c.deref-2.ensures.value c.in_ok-typed.ensures.at)) e6 in
    so s t6 F6 (λ b. promises_assumed (classes c.args.walk.now.core.now.classes) (contract_of c.args.callee) c.args.callee.body.now.result (term_at b c.args.before) (ones_at b c.args.arguments.now) (terms_at b c.args.results.now) (F0 b))
    (λ b k. ap (λ ms. assume_all (result_said c.args.callee.body.now.result (term_at b s.store) (terms_at b c.args.results.now)) (assume_all (conditions (contract_of c.args.callee).exit (contract_context (classes c.args.walk.now.core.now.classes) (contract_of c.args.callee) (term_at b s.store) (term_at b c.args.before) (ones_at b c.args.arguments.now) ms)) (assume (good (term_at b s.store)) (F0 b)))) (ones_of b c.args.results.now)) p6
