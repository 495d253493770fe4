use Rattle.std.proofs.Common.{ap, ◌∙◌, sym}
use Rattle.ss_terms.specs.Forms.{Forms, term_at}
use Rattle.ss_terms.proofs.Grown.{IsGrown-then, HasTerms-grown}
use Rattle.ss_vcgen_builder.specs.Builder.{position_at, walk_at}
use Rattle.ss_vcgen_builder.proofs.Builds.{IsWalk-grown}
use Rattle.ss_vcgen_statements.proofs.Steps.{then, so, then_term, then_terms, term_later, terms_later, terms_are}
use Rattle.ss_core.specs.View.{classes}
use Rattle.ss_vcgen_heaps.specs.Positions.{set_store, new_term, with_new}
use Rattle.ss_vcgen_heaps.specs.Obligations.{with_result, result_term, returned}
use Rattle.ss_vcgen_contracts.specs.Views.{contract_of, ones_at}
use Rattle.ss_logic.specs.declared.Sort.TheVariants as sort
use Rattle.ss_vcgen_bodies.specs.CallWords.{changes_assumed, promises_assumed}
use Rattle.ss_vcgen_bodies.proofs.Returning.{contract_result, returned_at}
use Rattle.ss_vcgen_bodies.proofs.calls.returned.Goals as goal

pub assume_promises-requires-clause-results : goal.assume_promises-requires-clause-results
assume_promises-requires-clause-results c =
    let s = c.args.builder.now in
    let w = λ (b : Forms). walk_at b c.args.walk.now in
    let F0 = λ (b : Forms). position_at b s in
    let t1 = c.new_term.new.self in
    let e1 = c.in_ok-store.ensures.becomes in
    let g1 = e1.grown in
    let F1 = λ (b : Forms). with_new sort.Store (F0 b) in
    let p1 = e1 in
    let t2 = c.new_results.new.builder in
    let e2 = c.in_ok-results.ensures.becomes in
    let g2 = e2.grown in
    let F2 = λ (b : Forms). with_result c.args.callee.body.now.result (F1 b) in
    let p2 = then s t1 t2 F1 (λ b k. with_result c.args.callee.body.now.result k) p1 e2 in
    let t3 = c.set_store.new.self in
    let e3 = c.set_store.ensures in
    let g3 = e3.grown in
    let F3 = λ (b : Forms). set_store (new_term sort.Store (F0 b)) (F2 b) in
    let p3 = then_term s t2 t3 F2 p2 c.in_ok-store.store (λ b. new_term sort.Store (F0 b)) (λ b f k. set_store f k) (term_later t1.bank t2.bank g2 c.in_ok-store.store (λ b. new_term sort.Store (F0 b)) c.in_ok-store.ensures.at) e3 in
    let g0_2 = IsGrown-then s.bank t1.bank t2.bank g1 g2 in
    let g0_3 = IsGrown-then s.bank t2.bank t3.bank g0_2 g3 in
    let t4 = c.assume_changes.new.builder in
    let e4 = c.in_ok-assume_changes.ensures in
    let g4 = e4.grown in
    let F4 = λ (b : Forms). changes_assumed (classes c.args.walk.now.core.now.classes) (contract_of c.args.callee) (term_at b s.store) (ones_at b c.args.arguments.now) (F3 b) in
    let p4 = then s t3 t4 F3 (λ b k. changes_assumed (classes c.args.walk.now.core.now.classes) (contract_of c.args.callee) (term_at b s.store) (ones_at b c.args.arguments.now) k) p3 e4 in
    let g0_4 = IsGrown-then s.bank t3.bank t4.bank g0_3 g4 in
    let g2_4 = IsGrown-then t2.bank t3.bank t4.bank g3 g4 in
    rw c.deref.ensures.value (HasTerms-grown t2.bank t4.bank g2_4 c.in_ok-results.results.items c.in_ok-results.ensures.at.has)

pub assume_changes-requires-clause-walk : goal.assume_changes-requires-clause-walk
assume_changes-requires-clause-walk c =
    let s = c.args.builder.now in
    let w = λ (b : Forms). walk_at b c.args.walk.now in
    let F0 = λ (b : Forms). position_at b s in
    let t1 = c.new_term.new.self in
    let e1 = c.in_ok-store.ensures.becomes in
    let g1 = e1.grown in
    let F1 = λ (b : Forms). with_new sort.Store (F0 b) in
    let p1 = e1 in
    let t2 = c.new_results.new.builder in
    let e2 = c.in_ok-results.ensures.becomes in
    let g2 = e2.grown in
    let F2 = λ (b : Forms). with_result c.args.callee.body.now.result (F1 b) in
    let p2 = then s t1 t2 F1 (λ b k. with_result c.args.callee.body.now.result k) p1 e2 in
    let t3 = c.set_store.new.self in
    let e3 = c.set_store.ensures in
    let g3 = e3.grown in
    let F3 = λ (b : Forms). set_store (new_term sort.Store (F0 b)) (F2 b) in
    let p3 = then_term s t2 t3 F2 p2 c.in_ok-store.store (λ b. new_term sort.Store (F0 b)) (λ b f k. set_store f k) (term_later t1.bank t2.bank g2 c.in_ok-store.store (λ b. new_term sort.Store (F0 b)) c.in_ok-store.ensures.at) e3 in
    let g0_2 = IsGrown-then s.bank t1.bank t2.bank g1 g2 in
    let g0_3 = IsGrown-then s.bank t2.bank t3.bank g0_2 g3 in
    IsWalk-grown s.bank t3.bank g0_3 c.args.walk.now c.requires.walk

pub assume_changes-requires-clause-arguments : goal.assume_changes-requires-clause-arguments
assume_changes-requires-clause-arguments c =
    let s = c.args.builder.now in
    let w = λ (b : Forms). walk_at b c.args.walk.now in
    let F0 = λ (b : Forms). position_at b s in
    let t1 = c.new_term.new.self in
    let e1 = c.in_ok-store.ensures.becomes in
    let g1 = e1.grown in
    let F1 = λ (b : Forms). with_new sort.Store (F0 b) in
    let p1 = e1 in
    let t2 = c.new_results.new.builder in
    let e2 = c.in_ok-results.ensures.becomes in
    let g2 = e2.grown in
    let F2 = λ (b : Forms). with_result c.args.callee.body.now.result (F1 b) in
    let p2 = then s t1 t2 F1 (λ b k. with_result c.args.callee.body.now.result k) p1 e2 in
    let t3 = c.set_store.new.self in
    let e3 = c.set_store.ensures in
    let g3 = e3.grown in
    let F3 = λ (b : Forms). set_store (new_term sort.Store (F0 b)) (F2 b) in
    let p3 = then_term s t2 t3 F2 p2 c.in_ok-store.store (λ b. new_term sort.Store (F0 b)) (λ b f k. set_store f k) (term_later t1.bank t2.bank g2 c.in_ok-store.store (λ b. new_term sort.Store (F0 b)) c.in_ok-store.ensures.at) e3 in
    let g0_2 = IsGrown-then s.bank t1.bank t2.bank g1 g2 in
    let g0_3 = IsGrown-then s.bank t2.bank t3.bank g0_2 g3 in
    HasTerms-grown s.bank t3.bank g0_3 c.args.arguments.now c.requires.arguments

pub assume_promises-requires-clause-walk : goal.assume_promises-requires-clause-walk
assume_promises-requires-clause-walk c =
    let s = c.args.builder.now in
    let w = λ (b : Forms). walk_at b c.args.walk.now in
    let F0 = λ (b : Forms). position_at b s in
    let t1 = c.new_term.new.self in
    let e1 = c.in_ok-store.ensures.becomes in
    let g1 = e1.grown in
    let F1 = λ (b : Forms). with_new sort.Store (F0 b) in
    let p1 = e1 in
    let t2 = c.new_results.new.builder in
    let e2 = c.in_ok-results.ensures.becomes in
    let g2 = e2.grown in
    let F2 = λ (b : Forms). with_result c.args.callee.body.now.result (F1 b) in
    let p2 = then s t1 t2 F1 (λ b k. with_result c.args.callee.body.now.result k) p1 e2 in
    let t3 = c.set_store.new.self in
    let e3 = c.set_store.ensures in
    let g3 = e3.grown in
    let F3 = λ (b : Forms). set_store (new_term sort.Store (F0 b)) (F2 b) in
    let p3 = then_term s t2 t3 F2 p2 c.in_ok-store.store (λ b. new_term sort.Store (F0 b)) (λ b f k. set_store f k) (term_later t1.bank t2.bank g2 c.in_ok-store.store (λ b. new_term sort.Store (F0 b)) c.in_ok-store.ensures.at) e3 in
    let g0_2 = IsGrown-then s.bank t1.bank t2.bank g1 g2 in
    let g0_3 = IsGrown-then s.bank t2.bank t3.bank g0_2 g3 in
    let t4 = c.assume_changes.new.builder in
    let e4 = c.in_ok-assume_changes.ensures in
    let g4 = e4.grown in
    let F4 = λ (b : Forms). changes_assumed (classes c.args.walk.now.core.now.classes) (contract_of c.args.callee) (term_at b s.store) (ones_at b c.args.arguments.now) (F3 b) in
    let p4 = then s t3 t4 F3 (λ b k. changes_assumed (classes c.args.walk.now.core.now.classes) (contract_of c.args.callee) (term_at b s.store) (ones_at b c.args.arguments.now) k) p3 e4 in
    let g0_4 = IsGrown-then s.bank t3.bank t4.bank g0_3 g4 in
    IsWalk-grown s.bank t4.bank g0_4 c.args.walk.now c.requires.walk

pub assume_promises-requires-clause-arguments : goal.assume_promises-requires-clause-arguments
assume_promises-requires-clause-arguments c =
    let s = c.args.builder.now in
    let w = λ (b : Forms). walk_at b c.args.walk.now in
    let F0 = λ (b : Forms). position_at b s in
    let t1 = c.new_term.new.self in
    let e1 = c.in_ok-store.ensures.becomes in
    let g1 = e1.grown in
    let F1 = λ (b : Forms). with_new sort.Store (F0 b) in
    let p1 = e1 in
    let t2 = c.new_results.new.builder in
    let e2 = c.in_ok-results.ensures.becomes in
    let g2 = e2.grown in
    let F2 = λ (b : Forms). with_result c.args.callee.body.now.result (F1 b) in
    let p2 = then s t1 t2 F1 (λ b k. with_result c.args.callee.body.now.result k) p1 e2 in
    let t3 = c.set_store.new.self in
    let e3 = c.set_store.ensures in
    let g3 = e3.grown in
    let F3 = λ (b : Forms). set_store (new_term sort.Store (F0 b)) (F2 b) in
    let p3 = then_term s t2 t3 F2 p2 c.in_ok-store.store (λ b. new_term sort.Store (F0 b)) (λ b f k. set_store f k) (term_later t1.bank t2.bank g2 c.in_ok-store.store (λ b. new_term sort.Store (F0 b)) c.in_ok-store.ensures.at) e3 in
    let g0_2 = IsGrown-then s.bank t1.bank t2.bank g1 g2 in
    let g0_3 = IsGrown-then s.bank t2.bank t3.bank g0_2 g3 in
    let t4 = c.assume_changes.new.builder in
    let e4 = c.in_ok-assume_changes.ensures in
    let g4 = e4.grown in
    let F4 = λ (b : Forms). changes_assumed (classes c.args.walk.now.core.now.classes) (contract_of c.args.callee) (term_at b s.store) (ones_at b c.args.arguments.now) (F3 b) in
    let p4 = then s t3 t4 F3 (λ b k. changes_assumed (classes c.args.walk.now.core.now.classes) (contract_of c.args.callee) (term_at b s.store) (ones_at b c.args.arguments.now) k) p3 e4 in
    let g0_4 = IsGrown-then s.bank t3.bank t4.bank g0_3 g4 in
    HasTerms-grown s.bank t4.bank g0_4 c.args.arguments.now c.requires.arguments

pub returns-clause-becomes : goal.returns-clause-becomes
returns-clause-becomes c =
    let s = c.args.builder.now in
    let w = λ (b : Forms). walk_at b c.args.walk.now in
    let F0 = λ (b : Forms). position_at b s in
    let t1 = c.new_term.new.self in
    let e1 = c.in_ok-store.ensures.becomes in
    let g1 = e1.grown in
    let F1 = λ (b : Forms). with_new sort.Store (F0 b) in
    let p1 = e1 in
    let t2 = c.new_results.new.builder in
    let e2 = c.in_ok-results.ensures.becomes in
    let g2 = e2.grown in
    let F2 = λ (b : Forms). with_result c.args.callee.body.now.result (F1 b) in
    let p2 = then s t1 t2 F1 (λ b k. with_result c.args.callee.body.now.result k) p1 e2 in
    let t3 = c.set_store.new.self in
    let e3 = c.set_store.ensures in
    let g3 = e3.grown in
    let F3 = λ (b : Forms). set_store (new_term sort.Store (F0 b)) (F2 b) in
    let p3 = then_term s t2 t3 F2 p2 c.in_ok-store.store (λ b. new_term sort.Store (F0 b)) (λ b f k. set_store f k) (term_later t1.bank t2.bank g2 c.in_ok-store.store (λ b. new_term sort.Store (F0 b)) c.in_ok-store.ensures.at) e3 in
    let g0_2 = IsGrown-then s.bank t1.bank t2.bank g1 g2 in
    let g0_3 = IsGrown-then s.bank t2.bank t3.bank g0_2 g3 in
    let t4 = c.assume_changes.new.builder in
    let e4 = c.in_ok-assume_changes.ensures in
    let g4 = e4.grown in
    let F4 = λ (b : Forms). changes_assumed (classes c.args.walk.now.core.now.classes) (contract_of c.args.callee) (term_at b s.store) (ones_at b c.args.arguments.now) (F3 b) in
    let p4 = then s t3 t4 F3 (λ b k. changes_assumed (classes c.args.walk.now.core.now.classes) (contract_of c.args.callee) (term_at b s.store) (ones_at b c.args.arguments.now) k) p3 e4 in
    let g0_4 = IsGrown-then s.bank t3.bank t4.bank g0_3 g4 in
    let g2_4 = IsGrown-then t2.bank t3.bank t4.bank g3 g4 in
    let t5 = c.assume_promises.new.builder in
    let e5 = c.in_ok-assume_promises.ensures in
    let g5 = e5.grown in
    let F5 = λ (b : Forms). promises_assumed (classes c.args.walk.now.core.now.classes) (contract_of c.args.callee) c.args.callee.body.now.result (term_at b s.store) (ones_at b c.args.arguments.now) (result_term c.args.callee.body.now.result (F1 b)) (F4 b) in
    let p5 = then_terms s t4 t5 F4 p4 c.deref.result.now (λ b. result_term c.args.callee.body.now.result (F1 b)) (λ b f k. promises_assumed (classes c.args.walk.now.core.now.classes) (contract_of c.args.callee) c.args.callee.body.now.result (term_at b s.store) (ones_at b c.args.arguments.now) f k) (terms_later t2.bank t4.bank g2_4 c.deref.result.now (λ b. result_term c.args.callee.body.now.result (F1 b)) (rw c.deref.ensures.value (record { has = c.in_ok-results.ensures.at.has; are = λ b k. c.in_ok-results.ensures.at.are b k ∙ ap (result_term c.args.callee.body.now.result) (p1.is b (IsGrown-then t1.bank t2.bank b g2 k)) }))) e5 in
    let g2_5 = IsGrown-then t2.bank t4.bank t5.bank g2_4 g5 in
    so s t5 F5 (λ b. returned (w b) (contract_of c.args.callee) (ones_at b c.args.arguments.now) (F0 b))
    (λ b k. ap (λ t. promises_assumed (classes c.args.walk.now.core.now.classes) (contract_of c.args.callee) t (term_at b s.store) (ones_at b c.args.arguments.now) (result_term t (F1 b)) (changes_assumed (classes c.args.walk.now.core.now.classes) (contract_of c.args.callee) (term_at b s.store) (ones_at b c.args.arguments.now) (set_store (new_term sort.Store (F0 b)) (with_result t (F1 b))))) (sym (contract_result c.args.callee))
    ∙ returned_at (w b) (contract_of c.args.callee) (ones_at b c.args.arguments.now) (F0 b)) p5

pub returns-clause-at : goal.returns-clause-at
returns-clause-at c =
    let s = c.args.builder.now in
    let w = λ (b : Forms). walk_at b c.args.walk.now in
    let F0 = λ (b : Forms). position_at b s in
    let t1 = c.new_term.new.self in
    let e1 = c.in_ok-store.ensures.becomes in
    let g1 = e1.grown in
    let F1 = λ (b : Forms). with_new sort.Store (F0 b) in
    let p1 = e1 in
    let t2 = c.new_results.new.builder in
    let e2 = c.in_ok-results.ensures.becomes in
    let g2 = e2.grown in
    let F2 = λ (b : Forms). with_result c.args.callee.body.now.result (F1 b) in
    let p2 = then s t1 t2 F1 (λ b k. with_result c.args.callee.body.now.result k) p1 e2 in
    let t3 = c.set_store.new.self in
    let e3 = c.set_store.ensures in
    let g3 = e3.grown in
    let F3 = λ (b : Forms). set_store (new_term sort.Store (F0 b)) (F2 b) in
    let p3 = then_term s t2 t3 F2 p2 c.in_ok-store.store (λ b. new_term sort.Store (F0 b)) (λ b f k. set_store f k) (term_later t1.bank t2.bank g2 c.in_ok-store.store (λ b. new_term sort.Store (F0 b)) c.in_ok-store.ensures.at) e3 in
    let g0_2 = IsGrown-then s.bank t1.bank t2.bank g1 g2 in
    let g0_3 = IsGrown-then s.bank t2.bank t3.bank g0_2 g3 in
    let t4 = c.assume_changes.new.builder in
    let e4 = c.in_ok-assume_changes.ensures in
    let g4 = e4.grown in
    let F4 = λ (b : Forms). changes_assumed (classes c.args.walk.now.core.now.classes) (contract_of c.args.callee) (term_at b s.store) (ones_at b c.args.arguments.now) (F3 b) in
    let p4 = then s t3 t4 F3 (λ b k. changes_assumed (classes c.args.walk.now.core.now.classes) (contract_of c.args.callee) (term_at b s.store) (ones_at b c.args.arguments.now) k) p3 e4 in
    let g0_4 = IsGrown-then s.bank t3.bank t4.bank g0_3 g4 in
    let g2_4 = IsGrown-then t2.bank t3.bank t4.bank g3 g4 in
    let t5 = c.assume_promises.new.builder in
    let e5 = c.in_ok-assume_promises.ensures in
    let g5 = e5.grown in
    let F5 = λ (b : Forms). promises_assumed (classes c.args.walk.now.core.now.classes) (contract_of c.args.callee) c.args.callee.body.now.result (term_at b s.store) (ones_at b c.args.arguments.now) (result_term c.args.callee.body.now.result (F1 b)) (F4 b) in
    let p5 = then_terms s t4 t5 F4 p4 c.deref.result.now (λ b. result_term c.args.callee.body.now.result (F1 b)) (λ b f k. promises_assumed (classes c.args.walk.now.core.now.classes) (contract_of c.args.callee) c.args.callee.body.now.result (term_at b s.store) (ones_at b c.args.arguments.now) f k) (terms_later t2.bank t4.bank g2_4 c.deref.result.now (λ b. result_term c.args.callee.body.now.result (F1 b)) (rw c.deref.ensures.value (record { has = c.in_ok-results.ensures.at.has; are = λ b k. c.in_ok-results.ensures.at.are b k ∙ ap (result_term c.args.callee.body.now.result) (p1.is b (IsGrown-then t1.bank t2.bank b g2 k)) }))) e5 in
    let g2_5 = IsGrown-then t2.bank t4.bank t5.bank g2_4 g5 in
    terms_are t5.bank c.in_ok-results.results.items (λ b. result_term c.args.callee.body.now.result (F1 b)) (λ b. result_term (contract_of c.args.callee).result (F1 b)) (λ b k. ap (λ t. result_term t (F1 b)) (sym (contract_result c.args.callee)))
    (terms_later t2.bank t5.bank g2_5 c.in_ok-results.results.items (λ b. result_term c.args.callee.body.now.result (F1 b)) (record { has = c.in_ok-results.ensures.at.has; are = λ b k. c.in_ok-results.ensures.at.are b k ∙ ap (result_term c.args.callee.body.now.result) (p1.is b (IsGrown-then t1.bank t2.bank b g2 k)) }))
