use Rattle.std.proofs.Common.{List, ◌++◌, map, ap, ◌∙◌, append_assoc}
use Rattle.ss_core.specs.declared.names.Ty.{Ty}
use Rattle.ss_core.specs.View.{exprs, exposed_tree}
use Rattle.ss_store_rules.specs.Locals.{local_types}
use Rattle.ss_terms.specs.Forms.{Forms}
use Rattle.ss_terms.proofs.Grown.{IsGrown-then}
use Rattle.ss_vcgen_heaps.specs.Positions.{Position, holds_at}
use Rattle.ss_vcgen_heaps.specs.Obligations.{types_from}
use Rattle.ss_vcgen_builder.specs.Builder.{locals_at, position_at, walk_at}
use Rattle.ss_vcgen_builder.proofs.Builds.{IsWalk-grown}
use Rattle.ss_vcgen_builder.proofs.Held.{HasLocals-grown}
use Rattle.ss_vcgen_statements.proofs.Steps.{stays_then, formulas_later, formulas_are}
use Rattle.ss_vcgen_bodies.specs.Words.{each_turn}
use Rattle.ss_vcgen_bodies.proofs.Making.{formulas_joined, formulas_before}
use Rattle.ss_vcgen_bodies.proofs.heads.head_formulas.Goals as goal

pub each_turn-requires-clause-walk : goal.each_turn-requires-clause-walk
each_turn-requires-clause-walk c = IsWalk-grown c.args.builder.now.bank c.all_hold.new.builder.bank c.in_ok-said.ensures.stays.grown c.args.walk.now c.requires.walk

pub kept_types-requires-clause-before : goal.kept_types-requires-clause-before
kept_types-requires-clause-before c =
    let s = c.args.builder.now in
    let t1 = c.all_hold.new.builder in
    let t2 = c.each_turn.new.builder in
    HasLocals-grown s.bank t2.bank (IsGrown-then s.bank t1.bank t2.bank c.in_ok-said.ensures.stays.grown c.in_ok-kept.ensures.stays.grown) c.args.before.now c.requires.before

pub returns-clause-stays : goal.returns-clause-stays
returns-clause-stays c =
    let s = c.args.builder.now in
    let t1 = c.all_hold.new.builder in
    let t2 = c.each_turn.new.builder in
    stays_then s t2 c.kept_types.new.builder (stays_then s t1 t2 c.in_ok-said.ensures.stays c.in_ok-kept.ensures.stays) c.in_ok-typed.ensures.stays

pub returns-clause-at : goal.returns-clause-at
returns-clause-at c =
    let s = c.args.builder.now in
    let w = λ (b : Forms). walk_at b c.args.walk.now in
    let F0 = λ (b : Forms). position_at b s in
    let t1 = c.all_hold.new.builder in
    let p1 = c.in_ok-said.ensures.stays in
    let t2 = c.each_turn.new.builder in
    let e2 = c.in_ok-kept.ensures.stays in
    let p2 = stays_then s t1 t2 p1 e2 in
    let t3 = c.kept_types.new.builder in
    let e3 = c.in_ok-typed.ensures.stays in
    let H = λ (b : Forms). map (holds_at (w b) (F0 b)) (exprs c.args.asked.now) in
    let K = λ (b : Forms) (k : Position). each_turn (w b) (map exposed_tree c.args.exposes.now) k in
    let T = λ (ts : List Ty) (b : Forms) (k : Position). types_from (w b) k.store 0 ts (locals_at b c.args.before.now) k.locals in
    let ts = c.args.walk.now.types.now in
    let held = formulas_later t1.bank t3.bank (IsGrown-then t1.bank t2.bank t3.bank e2.grown e3.grown) c.in_ok-said.said.items H c.in_ok-said.ensures.at in
    let kept = formulas_later t2.bank t3.bank e3.grown c.in_ok-kept.kept.items (λ b. K b (F0 b)) (formulas_before s t1 p1 t2.bank e2.grown c.in_ok-kept.kept.items K c.in_ok-kept.ensures.at) in
    let typed = formulas_before s t2 p2 t3.bank e3.grown c.in_ok-typed.typed.items (T ts) c.in_ok-typed.ensures.at in
    let both = formulas_joined t3.bank c.in_ok-said.said.items c.in_ok-kept.kept.items c.extend_from_slice.new.self.items H (λ b. K b (F0 b)) held kept
    (c.in_ok-extend_from_slice.ensures.items ∙ ap (λ fs. c.in_ok-said.said.items ++ fs) c.deref.ensures.value) in
    let all = formulas_joined t3.bank c.extend_from_slice.new.self.items c.in_ok-typed.typed.items c.extend_from_slice-2.new.self.items (λ b. H b ++ K b (F0 b)) (λ b. T ts b (F0 b)) both typed
    (c.in_ok-extend_from_slice-2.ensures.items ∙ ap (λ fs. c.extend_from_slice.new.self.items ++ fs) c.deref-2.ensures.value) in
    formulas_are t3.bank c.extend_from_slice-2.new.self.items (λ b. (H b ++ K b (F0 b)) ++ T ts b (F0 b)) (λ b. H b ++ (K b (F0 b) ++ T (local_types (w b).body) b (F0 b)))
    (λ b k. append_assoc (H b) (K b (F0 b)) (T ts b (F0 b)) ∙ ap (λ (us : List Ty). H b ++ (K b (F0 b) ++ T us b (F0 b))) c.requires.walk.types) all
