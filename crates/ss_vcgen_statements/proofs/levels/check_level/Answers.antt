use Rattle.std.proofs.Common.{ap}
use Rattle.ss_terms.specs.Forms.{Forms, term_at}
use Rattle.ss_core.specs.declared.names.Kind.TheVariants as kind
use Rattle.ss_vcgen_builder.specs.Builder.{position_at, walk_at}
use Rattle.ss_vcgen_builder.proofs.Builds.{IsWalk-grown}
use Rattle.ss_vcgen_statements.proofs.Steps.{then, so, then_formula, formula_later}
use Rattle.ss_logic.specs.Shapes.{class_term, level_of, equal}
use Rattle.ss_vcgen_heaps.specs.Positions.{check, local_term}
use Rattle.ss_vcgen_heaps.specs.Obligations.{check_local}
use Rattle.ss_vcgen_statements.specs.Words.{checked_level}
use Rattle.ss_vcgen_statements.proofs.levels.check_level.Goals as goal

pub check_local-requires-clause-walk : goal.check_local-requires-clause-walk
check_local-requires-clause-walk c =
    let s = c.args.builder.now in
    let w = λ (b : Forms). walk_at b c.args.walk.now in
    let F0 = λ (b : Forms). position_at b s in
    let t1 = c.say_local.new.builder in
    let e1 = c.in_ok-level.ensures.stays in
    let g1 = e1.grown in
    let p1 = e1 in
    IsWalk-grown s.bank t1.bank g1 c.args.walk.now c.requires.walk

pub returns : goal.returns
returns c =
    let s = c.args.builder.now in
    let w = λ (b : Forms). walk_at b c.args.walk.now in
    let F0 = λ (b : Forms). position_at b s in
    let t1 = c.say_local.new.builder in
    let e1 = c.in_ok-level.ensures.stays in
    let g1 = e1.grown in
    let p1 = e1 in
    let t2 = c.check_local.new.builder in
    let e2 = c.in_ok-check_local.ensures in
    let g2 = e2.grown in
    let F2 = λ (b : Forms). check_local (w b) c.args.at c.args.x (F0 b) in
    let p2 = then s t1 t2 F0 (λ b k. check_local (w b) c.args.at c.args.x k) p1 e2 in
    let t3 = c.check.new.self in
    let e3 = c.in_ok-check.ensures in
    let g3 = e3.grown in
    let F3 = λ (b : Forms). check (w b) kind.PackLevel c.args.at (equal (level_of (term_at b s.store) (local_term c.args.x (F0 b))) (class_term c.above-above.result.0)) (F2 b) in
    let p3 = then_formula s t2 t3 F2 p2 c.in_ok-level.level (λ b. equal (level_of (term_at b s.store) (local_term c.args.x (F0 b))) (class_term c.above-above.result.0)) (λ b f k. check (w b) kind.PackLevel c.args.at f k) (formula_later t1.bank t2.bank g2 c.in_ok-level.level (λ b. equal (level_of (term_at b s.store) (local_term c.args.x (F0 b))) (class_term c.above-above.result.0)) c.in_ok-level.ensures.at) e3 in
    so s t3 F3 (λ b. checked_level (w b) c.args.at c.args.x c.args.class.0 (F0 b))
    (λ b k. ap (λ n. check (w b) kind.PackLevel c.args.at (equal (level_of (term_at b s.store) (local_term c.args.x (F0 b))) (class_term n)) (F2 b)) c.above-above.ensures) p3
