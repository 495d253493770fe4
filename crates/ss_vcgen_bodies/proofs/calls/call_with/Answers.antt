use Rattle.std.proofs.Common.{◌++◌, ap, ◌∙◌}
use Rattle.std.specs.Prelude.{option_map}
use Rattle.ss_core.specs.View.{exprs, callee_tree}
use Rattle.ss_store_rules.specs.Locals.{receiver}
use Rattle.ss_terms.specs.Forms.{Forms}
use Rattle.ss_terms.proofs.Grown.{IsGrown-then, HasTerms-grown}
use Rattle.ss_vcgen_heaps.specs.Obligations.{call, call_with, check_receiver, with_this}
use Rattle.ss_vcgen_builder.specs.Builder.{position_at, walk_at}
use Rattle.ss_vcgen_builder.proofs.Builds.{IsWalk-grown}
use Rattle.ss_vcgen_contracts.specs.Views.{contract_of, AreOnes}
use Rattle.ss_vcgen_statements.proofs.Steps.{then, so}
use Rattle.ss_vcgen_bodies.proofs.Ones.{then_ones, ones_later}
use Rattle.ss_vcgen_bodies.specs.CallWords.{reached_arguments, arguments_reached}
use Rattle.ss_vcgen_bodies.proofs.calls.call_with.Goals as goal

pub with_this-requires-clause-arguments : goal.with_this-requires-clause-arguments
with_this-requires-clause-arguments c = rw c.deref.ensures.value c.in_ok-terms.ensures.at.has

pub check_receiver-requires-clause-walk : goal.check_receiver-requires-clause-walk
check_receiver-requires-clause-walk c =
    let s = c.args.builder.now in
    let w = λ (b : Forms). walk_at b c.args.walk.now in
    let F0 = λ (b : Forms). position_at b s in
    let to = callee_tree c.args.callee.now in
    let es = receiver to ++ exprs c.args.es.now in
    let t1 = c.settle_call.new.builder in
    let p1 = c.in_ok-terms.ensures.becomes in
    let F1 = λ (b : Forms). reached_arguments (w b) es (F0 b) in
    let ms = λ (b : Forms). arguments_reached (w b) es (F0 b) in
    let at1 = c.in_ok-terms.ensures.at in
    let t2 = c.with_this.new.builder in
    let e2 = c.in_ok-arguments.ensures.stays in
    let p2 = then s t1 t2 F1 (λ b k. k) p1 e2 in
    IsWalk-grown s.bank t2.bank p2.grown c.args.walk.now c.requires.walk

pub check_receiver-requires-clause-arguments : goal.check_receiver-requires-clause-arguments
check_receiver-requires-clause-arguments c =
    let s = c.args.builder.now in
    let w = λ (b : Forms). walk_at b c.args.walk.now in
    let F0 = λ (b : Forms). position_at b s in
    let to = callee_tree c.args.callee.now in
    let es = receiver to ++ exprs c.args.es.now in
    let t1 = c.settle_call.new.builder in
    let p1 = c.in_ok-terms.ensures.becomes in
    let F1 = λ (b : Forms). reached_arguments (w b) es (F0 b) in
    let ms = λ (b : Forms). arguments_reached (w b) es (F0 b) in
    let at1 = c.in_ok-terms.ensures.at in
    let t2 = c.with_this.new.builder in
    let e2 = c.in_ok-arguments.ensures.stays in
    let p2 = then s t1 t2 F1 (λ b k. k) p1 e2 in
    rw c.deref-2.ensures.value (HasTerms-grown t1.bank t2.bank e2.grown c.in_ok-terms.terms.items at1.has)

pub call-requires-clause-walk : goal.call-requires-clause-walk
call-requires-clause-walk c =
    let s = c.args.builder.now in
    let w = λ (b : Forms). walk_at b c.args.walk.now in
    let F0 = λ (b : Forms). position_at b s in
    let to = callee_tree c.args.callee.now in
    let es = receiver to ++ exprs c.args.es.now in
    let t1 = c.settle_call.new.builder in
    let p1 = c.in_ok-terms.ensures.becomes in
    let F1 = λ (b : Forms). reached_arguments (w b) es (F0 b) in
    let ms = λ (b : Forms). arguments_reached (w b) es (F0 b) in
    let at1 = c.in_ok-terms.ensures.at in
    let t2 = c.with_this.new.builder in
    let e2 = c.in_ok-arguments.ensures.stays in
    let p2 = then s t1 t2 F1 (λ b k. k) p1 e2 in
    let own : AreOnes t1.bank c.deref.result.now ms = rw c.deref.ensures.value at1 in
    let again : AreOnes t1.bank c.deref-2.result.now ms = rw c.deref-2.ensures.value at1 in
    let args = λ (b : Forms). with_this (w b) to (ms b) (F1 b) in
    let all : AreOnes t2.bank c.in_ok-arguments.arguments.items args = record {
      has = c.in_ok-arguments.ensures.at.has;
      are = λ b k.
          let k1 = IsGrown-then t1.bank t2.bank b e2.grown k in
          c.in_ok-arguments.ensures.at.are b k ∙ ap (λ x. with_this (w b) to x (position_at b t1)) (own.are b k1) ∙ ap (with_this (w b) to (ms b)) (p1.is b k1);
    } in
    let all3 : AreOnes t2.bank c.deref-3.result.now args = rw c.deref-3.ensures.value all in
    let t3 = c.check_receiver.new.builder in
    let e3 = c.in_ok-check_receiver.ensures in
    let F3 = λ (b : Forms). check_receiver (w b) c.args.at to (ms b) (F1 b) in
    let p3 = then_ones s t2 t3 F1 p2 c.deref-2.result.now ms (λ b x k. check_receiver (w b) c.args.at to x k) (ones_later t1.bank t2.bank e2.grown c.deref-2.result.now ms again) e3 in
    IsWalk-grown s.bank t3.bank p3.grown c.args.walk.now c.requires.walk

pub call-requires-clause-arguments : goal.call-requires-clause-arguments
call-requires-clause-arguments c =
    let s = c.args.builder.now in
    let w = λ (b : Forms). walk_at b c.args.walk.now in
    let F0 = λ (b : Forms). position_at b s in
    let to = callee_tree c.args.callee.now in
    let es = receiver to ++ exprs c.args.es.now in
    let t1 = c.settle_call.new.builder in
    let p1 = c.in_ok-terms.ensures.becomes in
    let F1 = λ (b : Forms). reached_arguments (w b) es (F0 b) in
    let ms = λ (b : Forms). arguments_reached (w b) es (F0 b) in
    let at1 = c.in_ok-terms.ensures.at in
    let t2 = c.with_this.new.builder in
    let e2 = c.in_ok-arguments.ensures.stays in
    let p2 = then s t1 t2 F1 (λ b k. k) p1 e2 in
    let own : AreOnes t1.bank c.deref.result.now ms = rw c.deref.ensures.value at1 in
    let again : AreOnes t1.bank c.deref-2.result.now ms = rw c.deref-2.ensures.value at1 in
    let args = λ (b : Forms). with_this (w b) to (ms b) (F1 b) in
    let all : AreOnes t2.bank c.in_ok-arguments.arguments.items args = record {
      has = c.in_ok-arguments.ensures.at.has;
      are = λ b k.
          let k1 = IsGrown-then t1.bank t2.bank b e2.grown k in
          c.in_ok-arguments.ensures.at.are b k ∙ ap (λ x. with_this (w b) to x (position_at b t1)) (own.are b k1) ∙ ap (with_this (w b) to (ms b)) (p1.is b k1);
    } in
    let all3 : AreOnes t2.bank c.deref-3.result.now args = rw c.deref-3.ensures.value all in
    let t3 = c.check_receiver.new.builder in
    let e3 = c.in_ok-check_receiver.ensures in
    let F3 = λ (b : Forms). check_receiver (w b) c.args.at to (ms b) (F1 b) in
    let p3 = then_ones s t2 t3 F1 p2 c.deref-2.result.now ms (λ b x k. check_receiver (w b) c.args.at to x k) (ones_later t1.bank t2.bank e2.grown c.deref-2.result.now ms again) e3 in
    HasTerms-grown t2.bank t3.bank e3.grown c.deref-3.result.now all3.has

pub returns : goal.returns
returns c =
    let s = c.args.builder.now in
    let w = λ (b : Forms). walk_at b c.args.walk.now in
    let F0 = λ (b : Forms). position_at b s in
    let to = callee_tree c.args.callee.now in
    let es = receiver to ++ exprs c.args.es.now in
    let t1 = c.settle_call.new.builder in
    let p1 = c.in_ok-terms.ensures.becomes in
    let F1 = λ (b : Forms). reached_arguments (w b) es (F0 b) in
    let ms = λ (b : Forms). arguments_reached (w b) es (F0 b) in
    let at1 = c.in_ok-terms.ensures.at in
    let t2 = c.with_this.new.builder in
    let e2 = c.in_ok-arguments.ensures.stays in
    let p2 = then s t1 t2 F1 (λ b k. k) p1 e2 in
    let own : AreOnes t1.bank c.deref.result.now ms = rw c.deref.ensures.value at1 in
    let again : AreOnes t1.bank c.deref-2.result.now ms = rw c.deref-2.ensures.value at1 in
    let args = λ (b : Forms). with_this (w b) to (ms b) (F1 b) in
    let all : AreOnes t2.bank c.in_ok-arguments.arguments.items args = record {
      has = c.in_ok-arguments.ensures.at.has;
      are = λ b k.
          let k1 = IsGrown-then t1.bank t2.bank b e2.grown k in
          c.in_ok-arguments.ensures.at.are b k ∙ ap (λ x. with_this (w b) to x (position_at b t1)) (own.are b k1) ∙ ap (with_this (w b) to (ms b)) (p1.is b k1);
    } in
    let all3 : AreOnes t2.bank c.deref-3.result.now args = rw c.deref-3.ensures.value all in
    let t3 = c.check_receiver.new.builder in
    let e3 = c.in_ok-check_receiver.ensures in
    let F3 = λ (b : Forms). check_receiver (w b) c.args.at to (ms b) (F1 b) in
    let p3 = then_ones s t2 t3 F1 p2 c.deref-2.result.now ms (λ b x k. check_receiver (w b) c.args.at to x k) (ones_later t1.bank t2.bank e2.grown c.deref-2.result.now ms again) e3 in
    let t4 = c.call.new.builder in
    let by = option_map contract_of c.called-contract.result in
    let F4 = λ (b : Forms). call (w b) c.args.at c.args.x by (args b) (F3 b) in
    let p4 = then_ones s t3 t4 F3 p3 c.deref-3.result.now args (λ b x k. call (w b) c.args.at c.args.x by x k) (ones_later t2.bank t3.bank e3.grown c.deref-3.result.now args all3) c.in_ok-call.ensures in
    so s t4 F4 (λ b. call_with (w b) c.args.at c.args.x to es (F0 b)) (λ b k. ap (λ x. call (w b) c.args.at c.args.x x (args b) (F3 b)) c.called-contract.ensures) p4
