use Rattle.std.proofs.Common.{ℕ, List, map, ap, ◌∙◌}
use Rattle.ss_core.specs.View.{classes, exposed_tree}
use Rattle.ss_logic.specs.Terms.{Term}
use Rattle.ss_terms.specs.declared.forms.TermId.{TermId}
use Rattle.ss_terms.specs.Forms.{Forms, term_at, terms_at}
use Rattle.ss_terms.proofs.Grown.{IsGrown-then, HasTerm-grown}
use Rattle.ss_vcgen_heaps.specs.Positions.{local_term}
use Rattle.ss_vcgen_heaps.specs.Obligations as spec
use Rattle.ss_vcgen_builder.specs.Builder.{position_at}
use Rattle.ss_vcgen_statements.proofs.Steps.{stays_then}
use Rattle.ss_vcgen_bodies.specs.Words.{exposed_formula}
use Rattle.ss_vcgen_bodies.proofs.Making.{terms_before}
use Rattle.ss_vcgen_bodies.proofs.levels.exposed_here.Goals as goal

pub exposed_formula-requires-clause-store : goal.exposed_formula-requires-clause-store
exposed_formula-requires-clause-store c =
    let s = c.args.builder.now in
    let t1 = c.local_term.new.self in
    let t2 = c.exposed_terms.new.builder in
    HasTerm-grown s.bank t2.bank (IsGrown-then s.bank t1.bank t2.bank c.local_term.ensures.stays.grown c.in_ok-others.ensures.stays.grown) s.store c.requires.store

pub exposed_formula-requires-clause-object : goal.exposed_formula-requires-clause-object
exposed_formula-requires-clause-object c = HasTerm-grown c.local_term.new.self.bank c.exposed_terms.new.builder.bank c.in_ok-others.ensures.stays.grown c.in_ok-o.o c.in_ok-o.ensures.at.has

pub exposed_formula-requires-clause-inner : goal.exposed_formula-requires-clause-inner
exposed_formula-requires-clause-inner c = rw c.deref.ensures.value c.in_ok-others.ensures.at.has

pub returns-clause-stays : goal.returns-clause-stays
returns-clause-stays c =
    let s = c.args.builder.now in
    let t1 = c.local_term.new.self in
    let t2 = c.exposed_terms.new.builder in
    stays_then s t2 c.exposed_formula.new.builder (stays_then s t1 t2 c.local_term.ensures.stays c.in_ok-others.ensures.stays) c.in_ok-f.ensures.stays

pub returns-clause-at : goal.returns-clause-at
returns-clause-at c =
    let s = c.args.builder.now in
    let S = λ (b : Forms). term_at b s.store in
    let t1 = c.local_term.new.self in
    let t2 = c.exposed_terms.new.builder in
    let t3 = c.exposed_formula.new.builder in
    let g2 = c.in_ok-others.ensures.stays.grown in
    let g3 = c.in_ok-f.ensures.stays.grown in
    let O = λ (b : Forms). local_term c.args.exposed.local (position_at b s) in
    let inner = map exposed_tree c.args.inner.now in
    let others = terms_before s t1 c.local_term.ensures.stays t2.bank g2 c.in_ok-others.others.items (λ b k. spec.exposed_terms inner k) c.in_ok-others.ensures.at in
    record {
      has = c.in_ok-f.ensures.at.has;
      is = λ b k.
          c.in_ok-f.ensures.at.is b k
          ∙ ap (λ (ts : List TermId). exposed_formula (S b) c.above-level.result.0 (term_at b c.in_ok-o.o) (terms_at b ts)) c.deref.ensures.value
          ∙ ap (λ (o : Term). exposed_formula (S b) c.above-level.result.0 o (terms_at b c.in_ok-others.others.items)) (c.in_ok-o.ensures.at.is b (IsGrown-then t1.bank t3.bank b (IsGrown-then t1.bank t2.bank t3.bank g2 g3) k))
          ∙ ap (λ (ts : List Term). exposed_formula (S b) c.above-level.result.0 (O b) ts) (others.are b (IsGrown-then t2.bank t3.bank b g3 k))
          ∙ ap (λ (n : ℕ). exposed_formula (S b) n (O b) (spec.exposed_terms inner (position_at b s))) c.above-level.ensures;
    }
