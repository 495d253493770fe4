use Rattle.std.proofs.Common.{[], ◌∷◌}
use Rattle.ss_terms.specs.Forms.{Forms, term_at}
use Rattle.ss_vcgen_builder.specs.Builder.{position_at, walk_at}
use Rattle.ss_vcgen_statements.proofs.Steps.{then, then_formulas, formula_later, no_formulas, formula_more}
use Rattle.ss_core.specs.View.{classes}
use Rattle.ss_vcgen_heaps.specs.Positions.{assume_all}
use Rattle.ss_vcgen_heaps.specs.Contracts.{frame_terms}
use Rattle.ss_vcgen_contracts.specs.Views.{contract_of, ones_at}
use Rattle.ss_logic.specs.Frames.{kept, grown}
use Rattle.ss_vcgen_bodies.proofs.calls.assume_changes.Goals as goal

pub assume_all-requires-clause-formulas : goal.assume_all-requires-clause-formulas
assume_all-requires-clause-formulas c =
    let s = c.args.builder.now in
    let w = λ (b : Forms). walk_at b c.args.walk.now in
    let F0 = λ (b : Forms). position_at b s in
    let t1 = c.frame_said.new.builder in
    let e1 = c.in_ok-kept.ensures.stays in
    let g1 = e1.grown in
    let p1 = e1 in
    let t2 = c.grown_said.new.builder in
    let e2 = c.in_ok-larger.ensures.stays in
    let g2 = e2.grown in
    let p2 = then s t1 t2 F0 (λ b k. k) p1 e2 in
    (formula_more t2.bank c.in_ok-kept.kept (c.in_ok-larger.larger ∷ []) (λ b. kept (classes c.args.walk.now.core.now.classes) (frame_terms (classes c.args.walk.now.core.now.classes) (contract_of c.args.callee) (term_at b c.args.before) (term_at b s.store) (ones_at b c.args.arguments.now) [])) (λ b. grown (term_at b c.args.before) (term_at b s.store) ∷ []) (formula_later t1.bank t2.bank g2 c.in_ok-kept.kept (λ b. kept (classes c.args.walk.now.core.now.classes) (frame_terms (classes c.args.walk.now.core.now.classes) (contract_of c.args.callee) (term_at b c.args.before) (term_at b s.store) (ones_at b c.args.arguments.now) [])) c.in_ok-kept.ensures.at) (formula_more t2.bank c.in_ok-larger.larger ([]) (λ b. grown (term_at b c.args.before) (term_at b s.store)) (λ b. []) c.in_ok-larger.ensures.at (no_formulas t2.bank))).has

pub returns : goal.returns
returns c =
    let s = c.args.builder.now in
    let w = λ (b : Forms). walk_at b c.args.walk.now in
    let F0 = λ (b : Forms). position_at b s in
    let t1 = c.frame_said.new.builder in
    let e1 = c.in_ok-kept.ensures.stays in
    let g1 = e1.grown in
    let p1 = e1 in
    let t2 = c.grown_said.new.builder in
    let e2 = c.in_ok-larger.ensures.stays in
    let g2 = e2.grown in
    let p2 = then s t1 t2 F0 (λ b k. k) p1 e2 in
    let t3 = c.assume_all.new.self in
    let e3 = c.in_ok-assume_all.ensures in
    let g3 = e3.grown in
    let F3 = λ (b : Forms). assume_all (kept (classes c.args.walk.now.core.now.classes) (frame_terms (classes c.args.walk.now.core.now.classes) (contract_of c.args.callee) (term_at b c.args.before) (term_at b s.store) (ones_at b c.args.arguments.now) []) ∷ grown (term_at b c.args.before) (term_at b s.store) ∷ []) (F0 b) in
    let p3 = then_formulas s t2 t3 F0 p2 (c.in_ok-kept.kept ∷ c.in_ok-larger.larger ∷ []) (λ b. kept (classes c.args.walk.now.core.now.classes) (frame_terms (classes c.args.walk.now.core.now.classes) (contract_of c.args.callee) (term_at b c.args.before) (term_at b s.store) (ones_at b c.args.arguments.now) []) ∷ grown (term_at b c.args.before) (term_at b s.store) ∷ []) (λ b f k. assume_all f k) (formula_more t2.bank c.in_ok-kept.kept (c.in_ok-larger.larger ∷ []) (λ b. kept (classes c.args.walk.now.core.now.classes) (frame_terms (classes c.args.walk.now.core.now.classes) (contract_of c.args.callee) (term_at b c.args.before) (term_at b s.store) (ones_at b c.args.arguments.now) [])) (λ b. grown (term_at b c.args.before) (term_at b s.store) ∷ []) (formula_later t1.bank t2.bank g2 c.in_ok-kept.kept (λ b. kept (classes c.args.walk.now.core.now.classes) (frame_terms (classes c.args.walk.now.core.now.classes) (contract_of c.args.callee) (term_at b c.args.before) (term_at b s.store) (ones_at b c.args.arguments.now) [])) c.in_ok-kept.ensures.at) (formula_more t2.bank c.in_ok-larger.larger ([]) (λ b. grown (term_at b c.args.before) (term_at b s.store)) (λ b. []) c.in_ok-larger.ensures.at (no_formulas t2.bank))) e3 in
    p3
