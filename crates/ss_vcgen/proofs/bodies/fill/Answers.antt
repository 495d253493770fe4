use Rattle.std.proofs.Common.{List, ap, ◌∙◌}
use Rattle.ss_core.specs.declared.names.Ty.{Ty}
use Rattle.ss_core.specs.declared.stmt.Stmt.{Stmt}
use Rattle.ss_core.specs.View as view
use Rattle.ss_terms.specs.Forms.{Forms}
use Rattle.ss_terms.proofs.Grown.{IsGrown-then}
use Rattle.ss_vcgen_heaps.specs.Obligations.{behind_all}
use Rattle.ss_vcgen_builder.specs.Builder.{position_at, walk_at}
use Rattle.ss_vcgen_builder.proofs.Builds.{IsWalk-grown}
use Rattle.ss_vcgen_statements.proofs.Steps.{then, so}
use Rattle.ss_vcgen.specs.Bodies.{entered, entry_known, filled}
use Rattle.ss_vcgen.proofs.bodies.fill.Goals as goal

pub enter-requires-clause-types : goal.enter-requires-clause-types
enter-requires-clause-types c = c.deref.ensures.value ∙ c.in_ok-types.ensures

pub know_entry-requires-clause-walk : goal.know_entry-requires-clause-walk
know_entry-requires-clause-walk c = IsWalk-grown c.args.builder.now.bank c.enter.new.builder.bank c.in_ok-enter.ensures.grown c.args.walk.now c.requires.walk

pub behind_all-requires-clause-walk : goal.behind_all-requires-clause-walk
behind_all-requires-clause-walk c =
    let s = c.args.builder.now in
    let t1 = c.enter.new.builder in
    let t2 = c.know_entry.new.builder in
    IsWalk-grown s.bank t2.bank (IsGrown-then s.bank t1.bank t2.bank c.in_ok-enter.ensures.grown c.in_ok-know_entry.ensures.grown) c.args.walk.now c.requires.walk

pub returns : goal.returns
returns c =
    let s = c.args.builder.now in
    let w = λ (b : Forms). walk_at b c.args.walk.now in
    let body = view.body c.args.walk.now.body.now in
    let F0 = λ (b : Forms). position_at b s in
    let t1 = c.enter.new.builder in
    let F1 = λ (b : Forms). entered body (F0 b) in
    let t2 = c.know_entry.new.builder in
    let ts = c.deref-2.result.now in
    let F2 = λ (b : Forms). entry_known (w b) ts (F1 b) in
    let p2 = then s t1 t2 F1 (λ b k. entry_known (w b) ts k) c.in_ok-enter.ensures c.in_ok-know_entry.ensures in
    let t3 = c.behind_all.new.builder in
    let code = c.deref-3.result.now in
    so s t3 (λ b. behind_all (w b) (view.block code) (F2 b)) (λ b. filled (w b) (F0 b))
    (λ b k.
    ap (λ (ss : List Stmt). behind_all (w b) (view.block ss) (F2 b)) c.deref-3.ensures.value
    ∙ ap (λ (us : List Ty). behind_all (w b) body.code (entry_known (w b) us (F1 b))) (c.deref-2.ensures.value ∙ c.in_ok-types.ensures))
    (then s t2 t3 F2 (λ b k. behind_all (w b) (view.block code) k) p2 c.in_ok-behind_all.ensures)
