use Rattle.std.proofs.Common.{[], ap, sym}
use Rattle.ss_core.specs.declared.names.Kind.TheVariants as kind
use Rattle.ss_logic.specs.Formulas.{Formula}
use Rattle.ss_terms.specs.Forms.{Forms}
use Rattle.ss_terms.proofs.Grown.{IsGrown-then, HasFormulas-grown}
use Rattle.ss_vcgen_contracts.specs.Views.{ones_at}
use Rattle.ss_vcgen_heaps.specs.Positions.{Position, check, check_all, ended}
use Rattle.ss_vcgen_heaps.specs.Obligations.{frame_formula}
use Rattle.ss_vcgen_builder.specs.Builder.{position_at, walk_at}
use Rattle.ss_vcgen_builder.proofs.Builds.{IsWalk-grown}
use Rattle.ss_vcgen_statements.proofs.InContexts.{checks_alike}
use Rattle.ss_vcgen_statements.proofs.Steps.{then, so, stays_then, then_formula, then_formulas, formula_later, formulas_later}
use Rattle.ss_vcgen_bodies.specs.Words.{exits_said, left}
use Rattle.ss_vcgen_bodies.proofs.Leaving.{frame_alike}
use Rattle.ss_vcgen_bodies.proofs.Making.{formulas_so, formula_before}
use Rattle.ss_vcgen_bodies.proofs.returns.leave.Goals as goal

pub frame_formula-requires-clause-walk : goal.frame_formula-requires-clause-walk
frame_formula-requires-clause-walk c = IsWalk-grown c.args.builder.now.bank c.exits_said.new.builder.bank c.in_ok-said.ensures.stays.grown c.args.walk.now c.requires.walk

pub check_all-requires-clause-formulas : goal.check_all-requires-clause-formulas
check_all-requires-clause-formulas c = rw c.deref.ensures.value (HasFormulas-grown c.exits_said.new.builder.bank c.frame_formula.new.builder.bank c.in_ok-frame.ensures.stays.grown c.in_ok-said.said.items c.in_ok-said.ensures.at.has)

pub returns : goal.returns
returns c =
    let s = c.args.builder.now in
    let w = λ (b : Forms). walk_at b c.args.walk.now in
    let at = c.args.at in
    let F0 = λ (b : Forms). position_at b s in
    let t1 = c.exits_said.new.builder in
    let p1 = c.in_ok-said.ensures.stays in
    let t2 = c.frame_formula.new.builder in
    let e2 = c.in_ok-frame.ensures.stays in
    let p2 = stays_then s t1 t2 p1 e2 in
    let E = λ (b : Forms). exits_said (w b) (ones_at b c.args.results.now) (F0 b) in
    let C = λ (b : Forms) (k : Position). frame_formula (w b) [] k in
    let said = formulas_so t2.bank c.deref.result.now c.in_ok-said.said.items E c.deref.ensures.value (formulas_later t1.bank t2.bank e2.grown c.in_ok-said.said.items E c.in_ok-said.ensures.at) in
    let t3 = c.check_all.new.self in
    let e3 = c.in_ok-check_all.ensures in
    let F3 = λ (b : Forms). check_all (w b) kind.Postcondition at (E b) (F0 b) in
    let p3 = then_formulas s t2 t3 F0 p2 c.deref.result.now E (λ b f k. check_all (w b) kind.Postcondition at f k) said e3 in
    let t4 = c.check.new.self in
    let frame = formula_later t2.bank t3.bank e3.grown c.in_ok-frame.frame (λ b. C b (F0 b)) (formula_before s t1 p1 t2.bank e2.grown c.in_ok-frame.frame C c.in_ok-frame.ensures.at) in
    let F4 = λ (b : Forms). check (w b) kind.Frame at (C b (F0 b)) (F3 b) in
    let p4 = then_formula s t3 t4 F3 p3 c.in_ok-frame.frame (λ b. C b (F0 b)) (λ b f k. check (w b) kind.Frame at f k) frame c.in_ok-check.ensures in
    let t5 = c.end.new.self in
    let p5 = then s t4 t5 F4 (λ b k. ended k) p4 c.end.ensures in
    so s t5 (λ b. ended (F4 b)) (λ b. left (w b) at (ones_at b c.args.results.now) (F0 b))
    (λ b k. ap (λ (f : Formula). ended (check (w b) kind.Frame at f (F3 b))) (sym (frame_alike (w b) [] (F3 b) (F0 b) (checks_alike (w b) kind.Postcondition at (E b) (F0 b))))) p5
