use Rattle.std.proofs.Common.{ap}
use Rattle.ss_terms.specs.Forms.{Forms, term_at}
use Rattle.ss_terms.proofs.Grown.{IsGrown-then, HasFormulas-grown}
use Rattle.ss_core.specs.declared.names.Kind.TheVariants as kind
use Rattle.ss_vcgen_builder.specs.Builder.{position_at, walk_at}
use Rattle.ss_vcgen_builder.proofs.Builds.{IsWalk-grown}
use Rattle.ss_vcgen_statements.proofs.Steps.{then, so, then_formula, then_formulas, formula_later, formulas_later}
use Rattle.ss_core.specs.View.{classes}
use Rattle.ss_vcgen_heaps.specs.Positions.{check, check_all, local_term}
use Rattle.ss_vcgen_heaps.specs.Obligations.{invariants_said, owned_are_full}
use Rattle.ss_vcgen_statements.specs.Words.{checked_invariants}
use Rattle.ss_vcgen_statements.proofs.levels.check_invariants.Goals as goal

pub invariants_said-requires-clause-walk : goal.invariants_said-requires-clause-walk
invariants_said-requires-clause-walk c =
    let s = c.args.builder.now in
    let w = λ (b : Forms). walk_at b c.args.walk.now in
    let F0 = λ (b : Forms). position_at b s in
    let t1 = c.local_term.new.self in
    let e1 = c.local_term.ensures.stays in
    let g1 = e1.grown in
    let p1 = e1 in
    IsWalk-grown s.bank t1.bank g1 c.args.walk.now c.requires.walk

pub check_all-requires-clause-formulas : goal.check_all-requires-clause-formulas
check_all-requires-clause-formulas c =
    let s = c.args.builder.now in
    let w = λ (b : Forms). walk_at b c.args.walk.now in
    let F0 = λ (b : Forms). position_at b s in
    let t1 = c.local_term.new.self in
    let e1 = c.local_term.ensures.stays in
    let g1 = e1.grown in
    let p1 = e1 in
    let t2 = c.invariants_said.new.builder in
    let e2 = c.in_ok-said.ensures.stays in
    let g2 = e2.grown in
    let p2 = then s t1 t2 F0 (λ b k. k) p1 e2 in
    let t3 = c.owned_are_full.new.builder in
    let e3 = c.in_ok-full.ensures.stays in
    let g3 = e3.grown in
    let p3 = then s t2 t3 F0 (λ b k. k) p2 e3 in
    rw c.deref.ensures.value (HasFormulas-grown t2.bank t3.bank g3 c.in_ok-said.said.items c.in_ok-said.ensures.at.has)

pub returns : goal.returns
returns c =
    let s = c.args.builder.now in
    let w = λ (b : Forms). walk_at b c.args.walk.now in
    let F0 = λ (b : Forms). position_at b s in
    let t1 = c.local_term.new.self in
    let e1 = c.local_term.ensures.stays in
    let g1 = e1.grown in
    let p1 = e1 in
    let t2 = c.invariants_said.new.builder in
    let e2 = c.in_ok-said.ensures.stays in
    let g2 = e2.grown in
    let p2 = then s t1 t2 F0 (λ b k. k) p1 e2 in
    let t3 = c.owned_are_full.new.builder in
    let e3 = c.in_ok-full.ensures.stays in
    let g3 = e3.grown in
    let p3 = then s t2 t3 F0 (λ b k. k) p2 e3 in
    let t4 = c.check_all.new.self in
    let e4 = c.in_ok-check_all.ensures in
    let g4 = e4.grown in
    let F4 = λ (b : Forms). check_all (w b) kind.Invariant c.args.at (invariants_said (classes c.args.walk.now.core.now.classes) (term_at b s.store) (term_at b c.in_ok-o.o) c.args.class.0) (F0 b) in
    let p4 = then_formulas s t3 t4 F0 p3 c.deref.result.now (λ b. invariants_said (classes c.args.walk.now.core.now.classes) (term_at b s.store) (term_at b c.in_ok-o.o) c.args.class.0) (λ b f k. check_all (w b) kind.Invariant c.args.at f k) (formulas_later t2.bank t3.bank g3 c.deref.result.now (λ b. invariants_said (classes c.args.walk.now.core.now.classes) (term_at b s.store) (term_at b c.in_ok-o.o) c.args.class.0) (rw c.deref.ensures.value c.in_ok-said.ensures.at)) e4 in
    let t5 = c.check.new.self in
    let e5 = c.in_ok-check.ensures in
    let g5 = e5.grown in
    let F5 = λ (b : Forms). check (w b) kind.PackOwned c.args.at (owned_are_full (term_at b s.store) (term_at b c.in_ok-o.o) c.args.class.0) (F4 b) in
    let p5 = then_formula s t4 t5 F4 p4 c.in_ok-full.full (λ b. owned_are_full (term_at b s.store) (term_at b c.in_ok-o.o) c.args.class.0) (λ b f k. check (w b) kind.PackOwned c.args.at f k) (formula_later t3.bank t4.bank g4 c.in_ok-full.full (λ b. owned_are_full (term_at b s.store) (term_at b c.in_ok-o.o) c.args.class.0) c.in_ok-full.ensures.at) e5 in
    let g1_3 = IsGrown-then t1.bank t2.bank t3.bank g2 g3 in
    let g1_4 = IsGrown-then t1.bank t3.bank t4.bank g1_3 g4 in
    let g1_5 = IsGrown-then t1.bank t4.bank t5.bank g1_4 g5 in
    so s t5 F5 (λ b. checked_invariants (w b) c.args.at c.args.x c.args.class.0 (F0 b))
    (λ b k. ap (λ o. check (w b) kind.PackOwned c.args.at (owned_are_full (term_at b s.store) o c.args.class.0) (check_all (w b) kind.Invariant c.args.at (invariants_said (classes c.args.walk.now.core.now.classes) (term_at b s.store) o c.args.class.0) (F0 b))) (c.in_ok-o.ensures.at.is b (IsGrown-then t1.bank t5.bank b g1_5 k))) p5
