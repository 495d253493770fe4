use Rattle.std.proofs.Common.{map}
use Rattle.ss_core.specs.declared.names.Kind.TheVariants as kind
use Rattle.ss_core.specs.View.{exprs, exposed_tree}
use Rattle.ss_logic.specs.Express.{and_of}
use Rattle.ss_terms.specs.Forms.{Forms}
use Rattle.ss_terms.proofs.Grown.{IsGrown-then}
use Rattle.ss_vcgen_heaps.specs.Positions.{Position, check, check_all, holds_at}
use Rattle.ss_vcgen_heaps.specs.Obligations.{classes_of, exposed_formulas, exposed_terms, frame_formula}
use Rattle.ss_vcgen_builder.specs.Builder.{position_at, walk_at}
use Rattle.ss_vcgen_builder.proofs.Builds.{IsWalk-grown}
use Rattle.ss_vcgen_statements.proofs.Steps.{stays_then, then_formula, then_formulas, formula_later, formulas_later}
use Rattle.ss_vcgen_bodies.proofs.Making.{formulas_so, formula_before}
use Rattle.ss_vcgen_bodies.proofs.heads.check_head.Goals as goal

pub frame_at_head-requires-clause-walk : goal.frame_at_head-requires-clause-walk
frame_at_head-requires-clause-walk c = IsWalk-grown c.args.builder.now.bank c.all_hold.new.builder.bank c.in_ok-held.ensures.stays.grown c.args.walk.now c.requires.walk

pub check_all-requires-clause-formulas : goal.check_all-requires-clause-formulas
check_all-requires-clause-formulas c =
    let s = c.args.builder.now in
    let w = λ (b : Forms). walk_at b c.args.walk.now in
    let asked = exprs c.args.asked.now in
    let exposes = map exposed_tree c.args.exposes.now in
    let F0 = λ (b : Forms). position_at b s in
    let t1 = c.all_hold.new.builder in
    let p1 = c.in_ok-held.ensures.stays in
    let t2 = c.frame_at_head.new.builder in
    let e2 = c.in_ok-frame.ensures.stays in
    let p2 = stays_then s t1 t2 p1 e2 in
    let t3 = c.levels_at_head.new.builder in
    let e3 = c.in_ok-levels.ensures.stays in
    let p3 = stays_then s t2 t3 p2 e3 in
    let g13 = IsGrown-then t1.bank t2.bank t3.bank e2.grown e3.grown in
    let H = λ (b : Forms). map (holds_at (w b) (F0 b)) asked in
    let C = λ (b : Forms) (k : Position). frame_formula (w b) (exposed_terms exposes k) k in
    let L = λ (b : Forms) (k : Position). and_of (exposed_formulas (classes_of (w b)) exposes k) in
    let held = formulas_so t3.bank c.deref.result.now c.in_ok-held.held.items H c.deref.ensures.value (formulas_later t1.bank t3.bank g13 c.in_ok-held.held.items H c.in_ok-held.ensures.at) in
    held.has

pub check-requires-clause-formula : goal.check-requires-clause-formula
check-requires-clause-formula c =
    let s = c.args.builder.now in
    let w = λ (b : Forms). walk_at b c.args.walk.now in
    let asked = exprs c.args.asked.now in
    let exposes = map exposed_tree c.args.exposes.now in
    let F0 = λ (b : Forms). position_at b s in
    let t1 = c.all_hold.new.builder in
    let p1 = c.in_ok-held.ensures.stays in
    let t2 = c.frame_at_head.new.builder in
    let e2 = c.in_ok-frame.ensures.stays in
    let p2 = stays_then s t1 t2 p1 e2 in
    let t3 = c.levels_at_head.new.builder in
    let e3 = c.in_ok-levels.ensures.stays in
    let p3 = stays_then s t2 t3 p2 e3 in
    let g13 = IsGrown-then t1.bank t2.bank t3.bank e2.grown e3.grown in
    let H = λ (b : Forms). map (holds_at (w b) (F0 b)) asked in
    let C = λ (b : Forms) (k : Position). frame_formula (w b) (exposed_terms exposes k) k in
    let L = λ (b : Forms) (k : Position). and_of (exposed_formulas (classes_of (w b)) exposes k) in
    let held = formulas_so t3.bank c.deref.result.now c.in_ok-held.held.items H c.deref.ensures.value (formulas_later t1.bank t3.bank g13 c.in_ok-held.held.items H c.in_ok-held.ensures.at) in
    let t4 = c.check_all.new.self in
    let e4 = c.in_ok-check_all.ensures in
    (formula_later t2.bank t4.bank (IsGrown-then t2.bank t3.bank t4.bank e3.grown e4.grown) c.in_ok-frame.frame (λ b. C b (position_at b t1)) c.in_ok-frame.ensures.at).has

pub check-requires-2-clause-formula : goal.check-requires-2-clause-formula
check-requires-2-clause-formula c =
    let s = c.args.builder.now in
    let w = λ (b : Forms). walk_at b c.args.walk.now in
    let asked = exprs c.args.asked.now in
    let exposes = map exposed_tree c.args.exposes.now in
    let F0 = λ (b : Forms). position_at b s in
    let t1 = c.all_hold.new.builder in
    let p1 = c.in_ok-held.ensures.stays in
    let t2 = c.frame_at_head.new.builder in
    let e2 = c.in_ok-frame.ensures.stays in
    let p2 = stays_then s t1 t2 p1 e2 in
    let t3 = c.levels_at_head.new.builder in
    let e3 = c.in_ok-levels.ensures.stays in
    let p3 = stays_then s t2 t3 p2 e3 in
    let g13 = IsGrown-then t1.bank t2.bank t3.bank e2.grown e3.grown in
    let H = λ (b : Forms). map (holds_at (w b) (F0 b)) asked in
    let C = λ (b : Forms) (k : Position). frame_formula (w b) (exposed_terms exposes k) k in
    let L = λ (b : Forms) (k : Position). and_of (exposed_formulas (classes_of (w b)) exposes k) in
    let held = formulas_so t3.bank c.deref.result.now c.in_ok-held.held.items H c.deref.ensures.value (formulas_later t1.bank t3.bank g13 c.in_ok-held.held.items H c.in_ok-held.ensures.at) in
    let t4 = c.check_all.new.self in
    let e4 = c.in_ok-check_all.ensures in
    let t5 = c.check.new.self in
    let e5 = c.in_ok-check.ensures in
    (formula_later t3.bank t5.bank (IsGrown-then t3.bank t4.bank t5.bank e4.grown e5.grown) c.in_ok-levels.levels (λ b. L b (position_at b t2)) c.in_ok-levels.ensures.at).has

pub returns : goal.returns
returns c =
    let s = c.args.builder.now in
    let w = λ (b : Forms). walk_at b c.args.walk.now in
    let asked = exprs c.args.asked.now in
    let exposes = map exposed_tree c.args.exposes.now in
    let F0 = λ (b : Forms). position_at b s in
    let t1 = c.all_hold.new.builder in
    let p1 = c.in_ok-held.ensures.stays in
    let t2 = c.frame_at_head.new.builder in
    let e2 = c.in_ok-frame.ensures.stays in
    let p2 = stays_then s t1 t2 p1 e2 in
    let t3 = c.levels_at_head.new.builder in
    let e3 = c.in_ok-levels.ensures.stays in
    let p3 = stays_then s t2 t3 p2 e3 in
    let g13 = IsGrown-then t1.bank t2.bank t3.bank e2.grown e3.grown in
    let H = λ (b : Forms). map (holds_at (w b) (F0 b)) asked in
    let C = λ (b : Forms) (k : Position). frame_formula (w b) (exposed_terms exposes k) k in
    let L = λ (b : Forms) (k : Position). and_of (exposed_formulas (classes_of (w b)) exposes k) in
    let held = formulas_so t3.bank c.deref.result.now c.in_ok-held.held.items H c.deref.ensures.value (formulas_later t1.bank t3.bank g13 c.in_ok-held.held.items H c.in_ok-held.ensures.at) in
    let t4 = c.check_all.new.self in
    let e4 = c.in_ok-check_all.ensures in
    let F4 = λ (b : Forms). check_all (w b) kind.LoopInvariant c.args.at (H b) (F0 b) in
    let p4 = then_formulas s t3 t4 F0 p3 c.deref.result.now H (λ b f k. check_all (w b) kind.LoopInvariant c.args.at f k) held e4 in
    let t5 = c.check.new.self in
    let e5 = c.in_ok-check.ensures in
    let frame = formula_later t2.bank t4.bank (IsGrown-then t2.bank t3.bank t4.bank e3.grown e4.grown) c.in_ok-frame.frame (λ b. C b (F0 b)) (formula_before s t1 p1 t2.bank e2.grown c.in_ok-frame.frame C c.in_ok-frame.ensures.at) in
    let F5 = λ (b : Forms). check (w b) kind.LoopFrame c.args.at (C b (F0 b)) (F4 b) in
    let p5 = then_formula s t4 t5 F4 p4 c.in_ok-frame.frame (λ b. C b (F0 b)) (λ b f k. check (w b) kind.LoopFrame c.args.at f k) frame e5 in
    let t6 = c.check-2.new.self in
    let levels = formula_later t3.bank t5.bank (IsGrown-then t3.bank t4.bank t5.bank e4.grown e5.grown) c.in_ok-levels.levels (λ b. L b (F0 b)) (formula_before s t2 p2 t3.bank e3.grown c.in_ok-levels.levels L c.in_ok-levels.ensures.at) in
    then_formula s t5 t6 F5 p5 c.in_ok-levels.levels (λ b. L b (F0 b)) (λ b f k. check (w b) kind.LoopLevel c.args.at f k) levels c.in_ok-check-2.ensures
