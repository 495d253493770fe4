use Rattle.std.proofs.Common.{List, ap, ◌∙◌}
use Rattle.std.specs.Prelude.{option_map}
use Rattle.ss_core.specs.View.{expr}
use Rattle.ss_logic.specs.Express.{Meant}
use Rattle.ss_terms.specs.declared.forms.TermId.{TermId}
use Rattle.ss_terms.specs.Forms.{Forms}
use Rattle.ss_terms.proofs.Grown.{IsGrown-then}
use Rattle.ss_vcgen_contracts.specs.Views.{ones_at}
use Rattle.ss_vcgen_heaps.specs.Obligations as spec
use Rattle.ss_vcgen_builder.specs.Builder.{position_at, walk_at}
use Rattle.ss_vcgen_builder.proofs.Builds.{IsWalk-grown}
use Rattle.ss_vcgen_statements.proofs.Steps.{then, so}
use Rattle.ss_vcgen_bodies.specs.Words.{left, reached_result}
use Rattle.ss_vcgen_bodies.proofs.returns.return_with.Goals as goal

pub leave-requires-clause-walk : goal.leave-requires-clause-walk
leave-requires-clause-walk c = IsWalk-grown c.args.builder.now.bank c.settle_result.new.builder.bank c.in_ok-results.ensures.becomes.grown c.args.walk.now c.requires.walk

pub leave-requires-clause-results : goal.leave-requires-clause-results
leave-requires-clause-results c = rw c.deref.ensures.value c.in_ok-results.ensures.at.has

pub returns : goal.returns
returns c =
    let s = c.args.builder.now in
    let w = λ (b : Forms). walk_at b c.args.walk.now in
    let e = option_map expr c.args.e.now in
    let at = c.args.at in
    let F0 = λ (b : Forms). position_at b s in
    let t1 = c.settle_result.new.builder in
    let t2 = c.leave.new.builder in
    let e2 = c.in_ok-leave.ensures in
    let F1 = λ (b : Forms). reached_result (w b) e (F0 b) in
    so s t2 (λ b. left (w b) at (ones_at b c.deref.result.now) (F1 b)) (λ b. spec.return_with (w b) at e (F0 b))
    (λ b k.
    ap (λ (ts : List TermId). left (w b) at (ones_at b ts) (F1 b)) c.deref.ensures.value
    ∙ ap (λ (ms : List Meant). left (w b) at ms (F1 b)) (c.in_ok-results.ensures.at.are b (IsGrown-then t1.bank t2.bank b e2.grown k)))
    (then s t1 t2 F1 (λ b k. left (w b) at (ones_at b c.deref.result.now) k) c.in_ok-results.ensures.becomes e2)
