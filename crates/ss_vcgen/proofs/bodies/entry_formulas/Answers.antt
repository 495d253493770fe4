use Rattle.std.proofs.Common.{[], ◌∷◌, ◌++◌, ap, ◌∙◌}
use Rattle.ss_terms.specs.Forms.{Forms}
use Rattle.ss_terms.proofs.Grown.{IsGrown-then}
use Rattle.ss_vcgen_heaps.specs.Positions.{Position, good}
use Rattle.ss_vcgen_heaps.specs.Obligations.{argument_types_from}
use Rattle.ss_vcgen_builder.specs.Builder.{position_at, walk_at}
use Rattle.ss_vcgen_builder.proofs.Builds.{IsWalk-grown}
use Rattle.ss_vcgen_statements.proofs.Steps.{stays_then, formula_later, formulas_later}
use Rattle.ss_vcgen_bodies.specs.Words.{entries_said}
use Rattle.ss_vcgen_bodies.proofs.Making.{formula_alone, formulas_before, formulas_joined, formulas_so}
use Rattle.ss_vcgen.proofs.bodies.entry_formulas.Goals as goal

pub entries_said-requires-clause-walk : goal.entries_said-requires-clause-walk
entries_said-requires-clause-walk c =
    let s = c.args.builder.now in
    let t1 = c.good.new.builder in
    let t2 = c.argument_types_said.new.builder in
    IsWalk-grown s.bank t2.bank (IsGrown-then s.bank t1.bank t2.bank c.in_ok-is_good.ensures.stays.grown c.in_ok-typed.ensures.stays.grown) c.args.walk.now c.requires.walk

pub returns-clause-stays : goal.returns-clause-stays
returns-clause-stays c =
    let s = c.args.builder.now in
    let t1 = c.good.new.builder in
    let t2 = c.argument_types_said.new.builder in
    stays_then s t2 c.entries_said.new.builder (stays_then s t1 t2 c.in_ok-is_good.ensures.stays c.in_ok-typed.ensures.stays) c.in_ok-said.ensures.stays

pub returns-clause-at : goal.returns-clause-at
returns-clause-at c =
    let s = c.args.builder.now in
    let w = λ (b : Forms). walk_at b c.args.walk.now in
    let F0 = λ (b : Forms). position_at b s in
    let t1 = c.good.new.builder in
    let p1 = c.in_ok-is_good.ensures.stays in
    let t2 = c.argument_types_said.new.builder in
    let e2 = c.in_ok-typed.ensures.stays in
    let p2 = stays_then s t1 t2 p1 e2 in
    let t3 = c.entries_said.new.builder in
    let e3 = c.in_ok-said.ensures.stays in
    let G = λ (b : Forms). good (F0 b).store in
    let T = λ (b : Forms) (k : Position). argument_types_from (w b) k.store 0 c.args.types.now k.locals in
    let E = λ (b : Forms) (k : Position). entries_said (w b) k in
    let good = formulas_so t3.bank c.in_ok-all.all.items (c.in_ok-is_good.is_good ∷ []) (λ b. G b ∷ []) c.in_ok-all.ensures.items
    (formula_alone t3.bank c.in_ok-is_good.is_good G (formula_later t1.bank t3.bank (IsGrown-then t1.bank t2.bank t3.bank e2.grown e3.grown) c.in_ok-is_good.is_good G c.in_ok-is_good.ensures.at)) in
    let typed = formulas_later t2.bank t3.bank e3.grown c.in_ok-typed.typed.items (λ b. T b (F0 b)) (formulas_before s t1 p1 t2.bank e2.grown c.in_ok-typed.typed.items T c.in_ok-typed.ensures.at) in
    let said = formulas_before s t2 p2 t3.bank e3.grown c.in_ok-said.said.items E c.in_ok-said.ensures.at in
    let both = formulas_joined t3.bank c.in_ok-all.all.items c.in_ok-typed.typed.items c.extend_from_slice.new.self.items (λ b. G b ∷ []) (λ b. T b (F0 b)) good typed
    (c.in_ok-extend_from_slice.ensures.items ∙ ap (λ fs. c.in_ok-all.all.items ++ fs) c.deref.ensures.value) in
    formulas_joined t3.bank c.extend_from_slice.new.self.items c.in_ok-said.said.items c.extend_from_slice-2.new.self.items (λ b. G b ∷ T b (F0 b)) (λ b. E b (F0 b)) both said
    (c.in_ok-extend_from_slice-2.ensures.items ∙ ap (λ fs. c.extend_from_slice.new.self.items ++ fs) c.deref-2.ensures.value)
