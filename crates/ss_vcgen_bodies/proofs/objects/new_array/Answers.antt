use Rattle.std.proofs.Common.{[], ◌∷◌, ap}
use Rattle.ss_terms.specs.Forms.{Forms, term_at}
use Rattle.ss_terms.proofs.Grown.{IsGrown-then}
use Rattle.ss_vcgen_builder.specs.Builder.{position_at, walk_at}
use Rattle.ss_vcgen_statements.proofs.Steps.{then_term, term_is}
use Rattle.ss_core.specs.View.{expr}
use Rattle.ss_logic.specs.Shapes.{next_of}
use Rattle.ss_vcgen_heaps.specs.Positions.{Position}
use Rattle.ss_vcgen_heaps.specs.Obligations.{keep}
use Rattle.ss_vcgen_bodies.specs.CallWords.{length_term, length_checked, array_there}
use Rattle.ss_vcgen_express.specs.Numbers.{IsTerm}
use Rattle.ss_vcgen_bodies.proofs.objects.new_array.Goals as goal

pub keep-requires-clause-results : goal.keep-requires-clause-results
keep-requires-clause-results c = (c.in_ok-o.ensures.at.has, tt)

pub returns : goal.returns
returns c =
    let s = c.args.builder.now in
    let w = λ (b : Forms). walk_at b c.args.walk.now in
    let F0 = λ (b : Forms). position_at b s in
    let t1 = c.check_length.new.builder in
    let e1 = c.in_ok-n.ensures.becomes in
    let g1 = e1.grown in
    let F1 = λ (b : Forms). length_checked (w b) c.args.at (expr c.args.e.now) (F0 b) in
    let p1 = e1 in
    let t2 = c.new_array_object.new.builder in
    let e2 = c.in_ok-o.ensures.becomes in
    let g2 = e2.grown in
    let F2 = λ (b : Forms). array_there c.args.class.0 (length_term (w b) (expr c.args.e.now) (F0 b)) (F1 b) in
    let p2 = then_term s t1 t2 F1 p1 c.in_ok-n.n (λ b. length_term (w b) (expr c.args.e.now) (F0 b)) (λ b f k. array_there c.args.class.0 f k) c.in_ok-n.ensures.at e2 in
    let o2 : IsTerm t2.bank c.in_ok-o.o (λ b. next_of (F1 b).store) = term_is t2.bank c.in_ok-o.o (λ b. next_of (term_at b t1.store)) (λ b. next_of (F1 b).store) (λ b k. ap (λ (m : Position). next_of m.store) (p1.is b (IsGrown-then t1.bank t2.bank b g2 k))) c.in_ok-o.ensures.at in
    let t3 = c.keep.new.builder in
    let e3 = c.keep.ensures in
    let g3 = e3.grown in
    let F3 = λ (b : Forms). keep c.args.x ((next_of (F1 b).store) ∷ []) (F2 b) in
    let p3 = then_term s t2 t3 F2 p2 c.in_ok-o.o (λ b. next_of (F1 b).store) (λ b f k. keep c.args.x (f ∷ []) k) o2 e3 in
    p3
