use Rattle.std.proofs.Common.{◌+◌, List, map, drop, get_or, ap}
use Rattle.std.proofs.lemmas.List.{drop_all, drop_more}
use Rattle.ss_core.specs.declared.stmt.Exposed.{Exposed}
use Rattle.ss_core.specs.View.{exposed_tree}
use Rattle.ss_vcgen_heaps.specs.Positions.{local_term}
use Rattle.ss_vcgen_heaps.specs.Obligations as spec
use Rattle.ss_vcgen_builder.specs.Builder.{position_at}
use Rattle.ss_vcgen_bodies.proofs.Making.{no_term_made, term_on, terms_made, term_before}
use Rattle.ss_vcgen_bodies.proofs.levels.exposed_terms.Goals as goal

pub loop-exposed-init : goal.loop-exposed-init
loop-exposed-init c = no_term_made c.args.builder.now c.new-terms.result.items c.requires c.new-terms.ensures.items (λ b. spec.exposed_terms (map exposed_tree c.args.exposes.now) (position_at b c.args.builder.now))

pub loop-exposed-preserved : goal.loop-exposed-preserved
loop-exposed-preserved c =
    let s = c.args.builder.now in
    let t = c.loop-exposed.builder in
    let u = c.local_term.new.self in
    let xs = c.args.exposes.now in
    let i = c.loop-exposed.exposed-index in
    let d : Exposed = record { local = 0; class = record { 0 = 0 } } in
    let x = get_or xs i d in
    let m = c.loop-exposed.invariant in
    let q = c.local_term.ensures.stays in
    term_on s t u c.loop-exposed.terms.items c.push.new.self.items c.in_ok-t.t (λ b. local_term x.local (position_at b s)) (λ b. spec.exposed_terms (map exposed_tree (drop i xs)) (position_at b s))
    (λ b. spec.exposed_terms (map exposed_tree (drop (i + 1) xs)) (position_at b s)) (λ b. spec.exposed_terms (map exposed_tree xs) (position_at b s))
    m q (term_before s t m.stays u.bank q.grown c.in_ok-t.t (λ b k. local_term x.local k) c.in_ok-t.ensures.at) c.in_ok-push.ensures.items
    (λ b k. ap (λ (ys : List Exposed). spec.exposed_terms (map exposed_tree ys) (position_at b s)) (drop_more xs i d c.loop-exposed-test.true))

pub returns-clause-at : goal.returns-clause-at
returns-clause-at c =
    let s = c.args.builder.now in
    let xs = c.args.exposes.now in
    let i = c.loop-exposed.exposed-index in
    terms_made s c.loop-exposed.builder c.loop-exposed.terms.items (λ b. spec.exposed_terms (map exposed_tree (drop i xs)) (position_at b s)) (λ b. spec.exposed_terms (map exposed_tree xs) (position_at b s)) c.loop-exposed.invariant
    (λ b. ap (λ (ys : List Exposed). spec.exposed_terms (map exposed_tree ys) (position_at b s)) (drop_all i xs c.loop-exposed-test.false))

pub returns-clause-stays : goal.returns-clause-stays
returns-clause-stays c = c.loop-exposed.invariant.stays
