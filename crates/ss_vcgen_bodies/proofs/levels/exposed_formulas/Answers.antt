use Rattle.std.proofs.Common.{◌+◌, List, map, drop, get_or, ap, ◌∙◌}
use Rattle.std.proofs.lemmas.List.{drop_all, drop_more}
use Rattle.ss_core.specs.declared.stmt.Exposed.{Exposed}
use Rattle.ss_core.specs.View.{classes, exposed_tree}
use Rattle.ss_terms.specs.Forms.{Forms}
use Rattle.ss_vcgen_heaps.specs.Obligations as spec
use Rattle.ss_vcgen_builder.specs.Builder.{position_at}
use Rattle.ss_vcgen_statements.proofs.Steps.{formula_is}
use Rattle.ss_vcgen_bodies.specs.Words.{exposed_here}
use Rattle.ss_vcgen_bodies.proofs.Making.{no_formula_made, formula_on, formulas_made, formula_before}
use Rattle.ss_vcgen_bodies.proofs.levels.exposed_formulas.Goals as goal

pub loop-i-init : goal.loop-i-init
loop-i-init c = no_formula_made c.args.builder.now c.new-made.result.items c.requires c.new-made.ensures.items (λ b. spec.exposed_formulas (classes c.args.walk.now.core.now.classes) (map exposed_tree c.args.exposes.now) (position_at b c.args.builder.now))

pub loop-i-preserved : goal.loop-i-preserved
loop-i-preserved c =
    let s = c.args.builder.now in
    let t = c.loop-i.builder in
    let u = c.exposed_here.new.builder in
    let xs = c.args.exposes.now in
    let i = c.loop-i.i in
    let d : Exposed = record { local = 0; class = record { 0 = 0 } } in
    let x = get_or xs i d in
    let m = c.loop-i.invariant in
    let q = c.in_ok-f.ensures.stays in
    let cs = classes c.args.walk.now.core.now.classes in
    let at = formula_is u.bank c.in_ok-f.f (λ b. exposed_here cs (exposed_tree x) (map exposed_tree c.behind-inner.result.now) (position_at b t)) (λ b. exposed_here cs (exposed_tree x) (map exposed_tree (drop (i + 1) xs)) (position_at b t))
    (λ b k. ap (λ (ys : List Exposed). exposed_here cs (exposed_tree x) (map exposed_tree ys) (position_at b t)) c.behind-inner.ensures) c.in_ok-f.ensures.at in
    formula_on s t u c.loop-i.made.items c.push.new.self.items c.in_ok-f.f (λ b. exposed_here cs (exposed_tree x) (map exposed_tree (drop (i + 1) xs)) (position_at b s)) (λ b. spec.exposed_formulas cs (map exposed_tree (drop i xs)) (position_at b s))
    (λ b. spec.exposed_formulas cs (map exposed_tree (drop (i + 1) xs)) (position_at b s)) (λ b. spec.exposed_formulas cs (map exposed_tree xs) (position_at b s))
    m q (formula_before s t m.stays u.bank q.grown c.in_ok-f.f (λ b k. exposed_here cs (exposed_tree x) (map exposed_tree (drop (i + 1) xs)) k) at) c.in_ok-push.ensures.items
    (λ b k. ap (λ (ys : List Exposed). spec.exposed_formulas cs (map exposed_tree ys) (position_at b s)) (drop_more xs i d c.loop-i-test.true))

pub returns-clause-at : goal.returns-clause-at
returns-clause-at c =
    let s = c.args.builder.now in
    let cs = classes c.args.walk.now.core.now.classes in
    let xs = c.args.exposes.now in
    let i = c.loop-i.i in
    formulas_made s c.loop-i.builder c.loop-i.made.items (λ b. spec.exposed_formulas cs (map exposed_tree (drop i xs)) (position_at b s)) (λ b. spec.exposed_formulas cs (map exposed_tree xs) (position_at b s)) c.loop-i.invariant
    (λ b. ap (λ (ys : List Exposed). spec.exposed_formulas cs (map exposed_tree ys) (position_at b s)) (drop_all i xs c.loop-i-test.false))

pub returns-clause-stays : goal.returns-clause-stays
returns-clause-stays c = c.loop-i.invariant.stays
