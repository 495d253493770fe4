use Rattle.std.proofs.Common.{List, Option, map, ap, ◌∙◌}
use Rattle.ss_core.specs.View.{exprs, exposed_tree, stmt_of}
use Rattle.ss_terms.specs.declared.forms.TermId.{TermId}
use Rattle.ss_terms.specs.Forms.{Forms}
use Rattle.ss_terms.proofs.Grown.{IsGrown-then}
use Rattle.ss_vcgen_heaps.specs.Positions.{Position, assume_all}
use Rattle.ss_vcgen_builder.specs.Builder.{locals_at, position_at, walk_at}
use Rattle.ss_vcgen_builder.proofs.Builds.{IsWalk-grown}
use Rattle.ss_vcgen_builder.proofs.Held.{HasLocals-grown}
use Rattle.ss_vcgen_statements.proofs.Steps.{then, then_formulas, formulas_are}
use Rattle.ss_vcgen_bodies.specs.Words.{come_to_head, head_formulas}
use Rattle.ss_vcgen_bodies.proofs.Making.{formulas_so}
use Rattle.ss_vcgen_bodies.proofs.heads.head_reached.Goals as goal

pub head_formulas-requires-clause-walk : goal.head_formulas-requires-clause-walk
head_formulas-requires-clause-walk c = IsWalk-grown c.args.builder.now.bank c.come_to_head.new.builder.bank c.in_ok-come_to_head.ensures.grown c.args.walk.now c.requires.walk

pub head_formulas-requires-clause-before : goal.head_formulas-requires-clause-before
head_formulas-requires-clause-before c =
    rw (c.deref-2.ensures.value, c.in_ok-before.ensures.items, c.deref.ensures.value) (HasLocals-grown c.args.builder.now.bank c.come_to_head.new.builder.bank c.in_ok-come_to_head.ensures.grown c.args.builder.now.locals.items c.requires.fine.locals)

pub assume_all-requires-clause-formulas : goal.assume_all-requires-clause-formulas
assume_all-requires-clause-formulas c = rw c.deref-3.ensures.value c.in_ok-said.ensures.at.has

pub returns : goal.returns
returns c =
    let s = c.args.builder.now in
    let w = λ (b : Forms). walk_at b c.args.walk.now in
    let st = stmt_of c.args.stmt.now in
    let asked = exprs c.args.asked.now in
    let exposes = map exposed_tree c.args.exposes.now in
    let F0 = λ (b : Forms). position_at b s in
    let t1 = c.come_to_head.new.builder in
    let e1 = c.in_ok-come_to_head.ensures in
    let F1 = λ (b : Forms). come_to_head (w b) st (F0 b) in
    let t2 = c.head_formulas.new.builder in
    let e2 = c.in_ok-said.ensures.stays in
    let p2 = then s t1 t2 F1 (λ b k. k) e1 e2 in
    let t3 = c.assume_all.new.self in
    let same = c.deref-2.ensures.value ∙ c.in_ok-before.ensures.items ∙ c.deref.ensures.value in
    let says = λ (b : Forms). head_formulas (w b) asked exposes (F0 b).locals (F1 b) in
    let said = formulas_are t2.bank c.deref-3.result.now (λ b. head_formulas (w b) asked exposes (locals_at b c.deref-2.result.now) (position_at b t1)) says
    (λ b k.
    ap (λ (ls : List (Option TermId)). head_formulas (w b) asked exposes (locals_at b ls) (position_at b t1)) same
    ∙ ap (λ (k : Position). head_formulas (w b) asked exposes (F0 b).locals k) (e1.is b (IsGrown-then t1.bank t2.bank b e2.grown k)))
    (formulas_so t2.bank c.deref-3.result.now c.in_ok-said.said.items (λ b. head_formulas (w b) asked exposes (locals_at b c.deref-2.result.now) (position_at b t1)) c.deref-3.ensures.value c.in_ok-said.ensures.at) in
    then_formulas s t2 t3 F1 p2 c.deref-3.result.now says (λ b f k. assume_all f k) said c.in_ok-assume_all.ensures
