use Rattle.std.proofs.Common.{[], ◌∷◌, map}
use Rattle.ss_core.specs.View.{exposed_tree}
use Rattle.ss_logic.specs.Express.{and_of}
use Rattle.ss_logic.specs.Frames.{grown}
use Rattle.ss_terms.specs.Forms.{Forms}
use Rattle.ss_terms.proofs.Grown.{IsGrown-then, HasTerm-grown}
use Rattle.ss_vcgen_heaps.specs.Positions.{Position, good}
use Rattle.ss_vcgen_heaps.specs.Obligations.{classes_of, exposed_formulas, exposed_terms, frame_formula}
use Rattle.ss_vcgen_builder.specs.Builder.{position_at, walk_at}
use Rattle.ss_vcgen_statements.proofs.Steps.{stays_then, formula_later, formula_more}
use Rattle.ss_vcgen_bodies.proofs.Making.{formulas_so, formula_alone, formula_before}
use Rattle.ss_vcgen_bodies.proofs.heads.each_turn.Goals as goal

pub grown_said-requires-clause-before : goal.grown_said-requires-clause-before
grown_said-requires-clause-before c =
    let s = c.args.builder.now in
    let t1 = c.frame_at_head.new.builder in
    let t2 = c.levels_at_head.new.builder in
    HasTerm-grown s.bank t2.bank (IsGrown-then s.bank t1.bank t2.bank c.in_ok-frame.ensures.stays.grown c.in_ok-levels.ensures.stays.grown) c.args.walk.now.entry c.requires.walk.entry

pub grown_said-requires-clause-after : goal.grown_said-requires-clause-after
grown_said-requires-clause-after c =
    let s = c.args.builder.now in
    let t1 = c.frame_at_head.new.builder in
    let t2 = c.levels_at_head.new.builder in
    HasTerm-grown s.bank t2.bank (IsGrown-then s.bank t1.bank t2.bank c.in_ok-frame.ensures.stays.grown c.in_ok-levels.ensures.stays.grown) s.store c.requires.fine.store

pub good-requires-clause-store : goal.good-requires-clause-store
good-requires-clause-store c =
    let s = c.args.builder.now in
    let t1 = c.frame_at_head.new.builder in
    let t2 = c.levels_at_head.new.builder in
    let t3 = c.grown_said.new.builder in
    HasTerm-grown s.bank t3.bank (IsGrown-then s.bank t2.bank t3.bank (IsGrown-then s.bank t1.bank t2.bank c.in_ok-frame.ensures.stays.grown c.in_ok-levels.ensures.stays.grown) c.in_ok-larger.ensures.stays.grown) s.store c.requires.fine.store

pub returns-clause-at : goal.returns-clause-at
returns-clause-at c =
    let s = c.args.builder.now in
    let w = λ (b : Forms). walk_at b c.args.walk.now in
    let exposes = map exposed_tree c.args.exposes.now in
    let F0 = λ (b : Forms). position_at b s in
    let t1 = c.frame_at_head.new.builder in
    let p1 = c.in_ok-frame.ensures.stays in
    let t2 = c.levels_at_head.new.builder in
    let e2 = c.in_ok-levels.ensures.stays in
    let t3 = c.grown_said.new.builder in
    let e3 = c.in_ok-larger.ensures.stays in
    let t4 = c.good.new.builder in
    let e4 = c.in_ok-is_good.ensures.stays in
    let g24 = IsGrown-then t2.bank t3.bank t4.bank e3.grown e4.grown in
    let g14 = IsGrown-then t1.bank t2.bank t4.bank e2.grown g24 in
    let C = λ (b : Forms). frame_formula (w b) (exposed_terms exposes (F0 b)) (F0 b) in
    let L = λ (b : Forms) (k : Position). and_of (exposed_formulas (classes_of (w b)) exposes k) in
    let G = λ (b : Forms). grown (w b).entry (F0 b).store in
    let D = λ (b : Forms). good (F0 b).store in
    let frame = formula_later t1.bank t4.bank g14 c.in_ok-frame.frame C c.in_ok-frame.ensures.at in
    let levels = formula_later t2.bank t4.bank g24 c.in_ok-levels.levels (λ b. L b (F0 b)) (formula_before s t1 p1 t2.bank e2.grown c.in_ok-levels.levels L c.in_ok-levels.ensures.at) in
    let larger = formula_later t3.bank t4.bank e4.grown c.in_ok-larger.larger G c.in_ok-larger.ensures.at in
    let last = formula_more t4.bank c.in_ok-larger.larger (c.in_ok-is_good.is_good ∷ []) G (λ b. D b ∷ []) larger (formula_alone t4.bank c.in_ok-is_good.is_good D c.in_ok-is_good.ensures.at) in
    let two = formula_more t4.bank c.in_ok-levels.levels (c.in_ok-larger.larger ∷ c.in_ok-is_good.is_good ∷ []) (λ b. L b (F0 b)) (λ b. G b ∷ D b ∷ []) levels last in
    formulas_so t4.bank c.in_ok-all.all.items (c.in_ok-frame.frame ∷ c.in_ok-levels.levels ∷ c.in_ok-larger.larger ∷ c.in_ok-is_good.is_good ∷ []) (λ b. C b ∷ L b (F0 b) ∷ G b ∷ D b ∷ []) c.in_ok-all.ensures.items
    (formula_more t4.bank c.in_ok-frame.frame (c.in_ok-levels.levels ∷ c.in_ok-larger.larger ∷ c.in_ok-is_good.is_good ∷ []) C (λ b. L b (F0 b) ∷ G b ∷ D b ∷ []) frame two)

pub returns-clause-stays : goal.returns-clause-stays
returns-clause-stays c =
    let s = c.args.builder.now in
    let t1 = c.frame_at_head.new.builder in
    let t2 = c.levels_at_head.new.builder in
    let t3 = c.grown_said.new.builder in
    stays_then s t3 c.good.new.builder (stays_then s t2 t3 (stays_then s t1 t2 c.in_ok-frame.ensures.stays c.in_ok-levels.ensures.stays) c.in_ok-larger.ensures.stays) c.in_ok-is_good.ensures.stays
