use Rattle.std.proofs.Common.{◌∷◌, ap, ◌∙◌}
use Rattle.ss_core.specs.View.{expr, exprs}
use Rattle.ss_logic.specs.Express.{One}
use Rattle.ss_terms.specs.Forms.{Forms}
use Rattle.ss_terms.proofs.Grown.{IsGrown-then, HasTerm-grown}
use Rattle.ss_vcgen_heaps.specs.Positions as spec
use Rattle.ss_vcgen_heaps.specs.Positions.{evaluate, evaluate_all, settled, term_for}
use Rattle.ss_vcgen_heaps.specs.Obligations.{settle_all, arguments_settled}
use Rattle.ss_vcgen_builder.specs.Builder.{position_at, walk_at}
use Rattle.ss_vcgen_builder.proofs.Builds.{IsWalk-grown}
use Rattle.ss_vcgen_contracts.specs.Views.{ones_at}
use Rattle.ss_vcgen_bodies.specs.CallWords.{argument_sort}
use Rattle.ss_vcgen_statements.proofs.Steps.{then}
use Rattle.ss_vcgen_bodies.proofs.arguments.settle_with.Goals as goal

pub evaluate_all-requires-clause-walk : goal.evaluate_all-requires-clause-walk
evaluate_all-requires-clause-walk c = IsWalk-grown c.args.builder.now.bank c.evaluate.new.builder.bank c.in_ok-_meant.ensures.becomes.grown c.args.walk.now c.requires.walk

pub settle_one-requires-clause-walk : goal.settle_one-requires-clause-walk
settle_one-requires-clause-walk c =
    let s = c.args.builder.now in
    let w = λ (b : Forms). walk_at b c.args.walk.now in
    let e = expr c.args.e.now in
    let es = exprs c.args.es.now in
    let t1 = c.evaluate.new.builder in
    let p1 = c.in_ok-_meant.ensures.becomes in
    let t2 = c.evaluate_all.new.builder in
    let e2 = c.in_ok-evaluate_all.ensures in
    let F1 = λ (b : Forms). evaluate (w b) e (position_at b s) in
    let F2 = λ (b : Forms). evaluate_all (w b) es (F1 b) in
    let p2 = then s t1 t2 F1 (λ b k. evaluate_all (w b) es k) p1 e2 in
    IsWalk-grown s.bank t2.bank p2.grown c.args.walk.now c.requires.walk

pub settle_each-requires-clause-walk : goal.settle_each-requires-clause-walk
settle_each-requires-clause-walk c =
    let s = c.args.builder.now in
    let w = λ (b : Forms). walk_at b c.args.walk.now in
    let e = expr c.args.e.now in
    let es = exprs c.args.es.now in
    let t1 = c.evaluate.new.builder in
    let p1 = c.in_ok-_meant.ensures.becomes in
    let t2 = c.evaluate_all.new.builder in
    let e2 = c.in_ok-evaluate_all.ensures in
    let F1 = λ (b : Forms). evaluate (w b) e (position_at b s) in
    let F2 = λ (b : Forms). evaluate_all (w b) es (F1 b) in
    let p2 = then s t1 t2 F1 (λ b k. evaluate_all (w b) es k) p1 e2 in
    let t3 = c.settle_one.new.builder in
    let e3 = c.in_ok-first.ensures.becomes in
    let F3 = λ (b : Forms). settled (spec.meant_at (w b) e (F2 b)) (argument_sort (w b) e) (F2 b) in
    let p3 = then s t2 t3 F2 (λ b k. settled (spec.meant_at (w b) e k) (argument_sort (w b) e) k) p2 e3 in
    IsWalk-grown s.bank t3.bank p3.grown c.args.walk.now c.requires.walk

pub returns-clause-becomes : goal.returns-clause-becomes
returns-clause-becomes c =
    let s = c.args.builder.now in
    let w = λ (b : Forms). walk_at b c.args.walk.now in
    let e = expr c.args.e.now in
    let es = exprs c.args.es.now in
    let t1 = c.evaluate.new.builder in
    let p1 = c.in_ok-_meant.ensures.becomes in
    let t2 = c.evaluate_all.new.builder in
    let e2 = c.in_ok-evaluate_all.ensures in
    let F1 = λ (b : Forms). evaluate (w b) e (position_at b s) in
    let F2 = λ (b : Forms). evaluate_all (w b) es (F1 b) in
    let p2 = then s t1 t2 F1 (λ b k. evaluate_all (w b) es k) p1 e2 in
    let t3 = c.settle_one.new.builder in
    let e3 = c.in_ok-first.ensures.becomes in
    let F3 = λ (b : Forms). settled (spec.meant_at (w b) e (F2 b)) (argument_sort (w b) e) (F2 b) in
    let p3 = then s t2 t3 F2 (λ b k. settled (spec.meant_at (w b) e k) (argument_sort (w b) e) k) p2 e3 in
    let t4 = c.settle_each.new.builder in
    let e4 = c.in_ok-rest.ensures.becomes in
    let F4 = λ (b : Forms). settle_all (w b) es (F3 b) in
    let p4 = then s t3 t4 F3 (λ b k. settle_all (w b) es k) p3 e4 in
    p4

pub returns-clause-at : goal.returns-clause-at
returns-clause-at c =
    let s = c.args.builder.now in
    let w = λ (b : Forms). walk_at b c.args.walk.now in
    let e = expr c.args.e.now in
    let es = exprs c.args.es.now in
    let t1 = c.evaluate.new.builder in
    let p1 = c.in_ok-_meant.ensures.becomes in
    let t2 = c.evaluate_all.new.builder in
    let e2 = c.in_ok-evaluate_all.ensures in
    let F1 = λ (b : Forms). evaluate (w b) e (position_at b s) in
    let F2 = λ (b : Forms). evaluate_all (w b) es (F1 b) in
    let p2 = then s t1 t2 F1 (λ b k. evaluate_all (w b) es k) p1 e2 in
    let t3 = c.settle_one.new.builder in
    let e3 = c.in_ok-first.ensures.becomes in
    let F3 = λ (b : Forms). settled (spec.meant_at (w b) e (F2 b)) (argument_sort (w b) e) (F2 b) in
    let p3 = then s t2 t3 F2 (λ b k. settled (spec.meant_at (w b) e k) (argument_sort (w b) e) k) p2 e3 in
    let t4 = c.settle_each.new.builder in
    let e4 = c.in_ok-rest.ensures.becomes in
    let F4 = λ (b : Forms). settle_all (w b) es (F3 b) in
    let p4 = then s t3 t4 F3 (λ b k. settle_all (w b) es k) p3 e4 in
    let first = c.in_ok-first.ensures.at in
    let rest = rw c.deref.ensures.value at c.in_ok-all.ensures in
    let own = λ (b : Forms) (m : spec.Position). term_for (argument_sort (w b) e) (spec.meant_at (w b) e m) m in
    record {
      has = rw rest (HasTerm-grown t3.bank t4.bank e4.grown c.in_ok-first.first first.has, c.in_ok-rest.ensures.at.has);
      are = λ b k.
          let k3 = IsGrown-then t3.bank t4.bank b e4.grown k in
          let k2 = IsGrown-then t2.bank t3.bank b e3.grown k3 in
          ap (ones_at b) rest
          ∙ ap (λ x. One x ∷ ones_at b c.in_ok-rest.rest.items) (first.is b k3 ∙ ap (own b) (p2.is b k2))
          ∙ ap (λ ms. One (own b (F2 b)) ∷ ms) (c.in_ok-rest.ensures.at.are b k ∙ ap (arguments_settled (w b) es) (p3.is b k3));
    }
