use Rattle.std.proofs.Common.{ap}
use Rattle.ss_terms.specs.Forms.{Forms, term_at}
use Rattle.ss_terms.proofs.Grown.{IsGrown-then}
use Rattle.ss_core.specs.declared.names.Kind.TheVariants as kind
use Rattle.ss_vcgen_builder.specs.Builder.{position_at, walk_at}
use Rattle.ss_vcgen_builder.proofs.Builds.{IsWalk-grown}
use Rattle.ss_vcgen_statements.proofs.Steps.{then, then_formula, formula_later, formula_is}
use Rattle.ss_logic.specs.Formulas.{neg}
use Rattle.ss_logic.specs.Shapes.{class_term, level_of, equal, committed}
use Rattle.ss_vcgen_heaps.specs.Positions.{check, local_term}
use Rattle.ss_vcgen_heaps.specs.Obligations.{check_local}
use Rattle.ss_vcgen_statements.proofs.levels.check_unpack.Goals as goal

pub check_local-requires-clause-walk : goal.check_local-requires-clause-walk
check_local-requires-clause-walk c =
    let s = c.args.builder.now in
    let w = λ (b : Forms). walk_at b c.args.walk.now in
    let F0 = λ (b : Forms). position_at b s in
    let t1 = c.say_local.new.builder in
    let e1 = c.in_ok-level.ensures.stays in
    let g1 = e1.grown in
    let p1 = e1 in
    let t2 = c.deny_local.new.builder in
    let e2 = c.in_ok-free.ensures.stays in
    let g2 = e2.grown in
    let p2 = then s t1 t2 F0 (λ b k. k) p1 e2 in
    let g0_2 = IsGrown-then s.bank t1.bank t2.bank g1 g2 in
    IsWalk-grown s.bank t2.bank g0_2 c.args.walk.now c.requires.walk

pub returns : goal.returns
returns c =
    let s = c.args.builder.now in
    let w = λ (b : Forms). walk_at b c.args.walk.now in
    let F0 = λ (b : Forms). position_at b s in
    let t1 = c.say_local.new.builder in
    let e1 = c.in_ok-level.ensures.stays in
    let g1 = e1.grown in
    let p1 = e1 in
    let t2 = c.deny_local.new.builder in
    let e2 = c.in_ok-free.ensures.stays in
    let g2 = e2.grown in
    let p2 = then s t1 t2 F0 (λ b k. k) p1 e2 in
    let g0_2 = IsGrown-then s.bank t1.bank t2.bank g1 g2 in
    let t3 = c.check_local.new.builder in
    let e3 = c.in_ok-check_local.ensures in
    let g3 = e3.grown in
    let F3 = λ (b : Forms). check_local (w b) c.args.at c.args.x (F0 b) in
    let p3 = then s t2 t3 F0 (λ b k. check_local (w b) c.args.at c.args.x k) p2 e3 in
    let g1_3 = IsGrown-then t1.bank t2.bank t3.bank g2 g3 in
    let t4 = c.check.new.self in
    let e4 = c.in_ok-check.ensures in
    let g4 = e4.grown in
    let F4 = λ (b : Forms). check (w b) kind.UnpackLevel c.args.at (equal (level_of (term_at b s.store) (local_term c.args.x (F0 b))) (class_term c.args.class.0)) (F3 b) in
    let p4 = then_formula s t3 t4 F3 p3 c.in_ok-level.level (λ b. equal (level_of (term_at b s.store) (local_term c.args.x (F0 b))) (class_term c.args.class.0)) (λ b f k. check (w b) kind.UnpackLevel c.args.at f k) (formula_later t1.bank t3.bank g1_3 c.in_ok-level.level (λ b. equal (level_of (term_at b s.store) (local_term c.args.x (F0 b))) (class_term c.args.class.0)) c.in_ok-level.ensures.at) e4 in
    let g2_4 = IsGrown-then t2.bank t3.bank t4.bank g3 g4 in
    let t5 = c.check-2.new.self in
    let e5 = c.in_ok-check-2.ensures in
    let g5 = e5.grown in
    let F5 = λ (b : Forms). check (w b) kind.UnpackCommitted c.args.at (neg (committed (term_at b s.store) (local_term c.args.x (F0 b)))) (F4 b) in
    let p5 = then_formula s t4 t5 F4 p4 c.in_ok-free.free (λ b. neg (committed (term_at b s.store) (local_term c.args.x (F0 b)))) (λ b f k. check (w b) kind.UnpackCommitted c.args.at f k) (formula_later t2.bank t4.bank g2_4 c.in_ok-free.free (λ b. neg (committed (term_at b s.store) (local_term c.args.x (F0 b)))) (formula_is t2.bank c.in_ok-free.free (λ b. neg (committed (term_at b s.store) (local_term c.args.x (position_at b t1)))) (λ b. neg (committed (term_at b s.store) (local_term c.args.x (F0 b)))) (λ b k. ap (λ k. neg (committed (term_at b s.store) (local_term c.args.x k))) (e1.is b (IsGrown-then t1.bank t2.bank b g2 k))) c.in_ok-free.ensures.at)) e5 in
    p5
