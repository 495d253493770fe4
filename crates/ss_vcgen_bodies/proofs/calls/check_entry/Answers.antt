use Rattle.ss_terms.specs.Forms.{Forms, term_at}
use Rattle.ss_core.specs.declared.names.Kind.TheVariants as kind
use Rattle.ss_vcgen_builder.specs.Builder.{position_at, walk_at}
use Rattle.ss_vcgen_statements.proofs.Steps.{then_formulas}
use Rattle.ss_core.specs.View.{classes}
use Rattle.ss_vcgen_heaps.specs.Positions.{check_all}
use Rattle.ss_vcgen_heaps.specs.Contracts.{conditions, contract_context, no_result}
use Rattle.ss_vcgen_contracts.specs.Views.{contract_of, ones_at}
use Rattle.ss_vcgen_bodies.proofs.calls.check_entry.Goals as goal

pub check_all-requires-clause-formulas : goal.check_all-requires-clause-formulas
check_all-requires-clause-formulas c = rw c.deref.ensures.value c.in_ok-said.ensures.at.has

pub returns : goal.returns
returns c =
    let s = c.args.builder.now in
    let w = λ (b : Forms). walk_at b c.args.walk.now in
    let F0 = λ (b : Forms). position_at b s in
    let t1 = c.entry_said.new.builder in
    let e1 = c.in_ok-said.ensures.stays in
    let g1 = e1.grown in
    let p1 = e1 in
    let t2 = c.check_all.new.self in
    let e2 = c.in_ok-check_all.ensures in
    let g2 = e2.grown in
    let F2 = λ (b : Forms). check_all (w b) kind.Precondition c.args.at (conditions (contract_of c.args.callee).entry (contract_context (classes c.args.walk.now.core.now.classes) (contract_of c.args.callee) (term_at b s.store) (term_at b s.store) (ones_at b c.args.arguments.now) (no_result (contract_of c.args.callee)))) (F0 b) in
    let p2 = then_formulas s t1 t2 F0 p1 c.deref.result.now (λ b. conditions (contract_of c.args.callee).entry (contract_context (classes c.args.walk.now.core.now.classes) (contract_of c.args.callee) (term_at b s.store) (term_at b s.store) (ones_at b c.args.arguments.now) (no_result (contract_of c.args.callee)))) (λ b f k. check_all (w b) kind.Precondition c.args.at f k) (rw c.deref.ensures.value c.in_ok-said.ensures.at) e2 in
    p2
