use Rattle.std.proofs.Common.{ap, ◌∙◌}
use Rattle.ss_terms.specs.Forms.{Forms}
use Rattle.ss_terms.proofs.Grown.{IsGrown-then, HasTerms-grown}
use Rattle.ss_logic.specs.declared.Sort.TheVariants as sort
use Rattle.ss_vcgen_heaps.specs.Positions.{with_new}
use Rattle.ss_vcgen_heaps.specs.Obligations.{check_entry, returned, result_term, keep}
use Rattle.ss_vcgen_builder.specs.Builder.{position_at, walk_at}
use Rattle.ss_vcgen_builder.proofs.Builds.{IsWalk-grown}
use Rattle.ss_vcgen_contracts.specs.Views.{contract_of, ones_at}
use Rattle.ss_vcgen_statements.proofs.Steps.{then, then_terms}
use Rattle.ss_vcgen_bodies.proofs.calls.call_there.Goals as goal

pub returned-requires-clause-walk : goal.returned-requires-clause-walk
returned-requires-clause-walk c = IsWalk-grown c.args.builder.now.bank c.check_entry.new.builder.bank c.in_ok-check_entry.ensures.grown c.args.walk.now c.requires.walk

pub returned-requires-clause-arguments : goal.returned-requires-clause-arguments
returned-requires-clause-arguments c = HasTerms-grown c.args.builder.now.bank c.check_entry.new.builder.bank c.in_ok-check_entry.ensures.grown c.args.arguments.now c.requires.arguments

pub keep-requires-clause-results : goal.keep-requires-clause-results
keep-requires-clause-results c = rw c.deref.ensures.value c.in_ok-results.ensures.at.has

pub returns : goal.returns
returns c =
    let s = c.args.builder.now in
    let w = λ (b : Forms). walk_at b c.args.walk.now in
    let t1 = c.check_entry.new.builder in
    let t2 = c.returned.new.builder in
    let t3 = c.keep.new.builder in
    let p1 = c.in_ok-check_entry.ensures in
    let e2 = c.in_ok-results.ensures.becomes in
    let F1 = λ (b : Forms). check_entry (w b) c.args.at (contract_of c.args.callee) (ones_at b c.args.arguments.now) (position_at b s) in
    let F2 = λ (b : Forms). returned (w b) (contract_of c.args.callee) (ones_at b c.args.arguments.now) (F1 b) in
    let p2 = then s t1 t2 F1 (λ b k. returned (w b) (contract_of c.args.callee) (ones_at b c.args.arguments.now) k) p1 e2 in
    then_terms s t2 t3 F2 p2 c.deref.result.now (λ b. result_term (contract_of c.args.callee).result (with_new sort.Store (F1 b))) (λ b ts k. keep c.args.x ts k)
    (rw c.deref.ensures.value (record {
      has = c.in_ok-results.ensures.at.has;
      are = λ b k. c.in_ok-results.ensures.at.are b k ∙ ap (λ m. result_term (contract_of c.args.callee).result (with_new sort.Store m)) (p1.is b (IsGrown-then t1.bank t2.bank b e2.grown k));
    })) c.keep.ensures
