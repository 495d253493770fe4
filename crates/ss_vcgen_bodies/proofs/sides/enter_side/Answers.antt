use Rattle.std.proofs.Common.{◌+◌, true, false, ap, ◌∙◌}
use Rattle.ss_core.specs.View.{expr}
use Rattle.ss_store_rules.specs.NonNull.{Known, known_tested}
use Rattle.ss_logic.specs.Express.{said}
use Rattle.ss_terms.specs.Forms.{Forms}
use Rattle.ss_terms.proofs.Grown.{IsGrown-then}
use Rattle.ss_vcgen_heaps.specs.Positions.{Position, When, evaluate, meant_at, first_side}
use Rattle.ss_vcgen_heaps.specs.Obligations.{into_body}
use Rattle.ss_vcgen_builder.specs.Builder.{position_at, walk_at}
use Rattle.ss_vcgen_builder.proofs.Builds.{IsSpot-grown}
use Rattle.ss_vcgen_statements.proofs.Steps.{then, so, then_formula}
use Rattle.ss_vcgen_statements.proofs.InContexts.{evaluate_alike}
use Rattle.ss_vcgen_bodies.specs.Words.{other_side}
use Rattle.ss_vcgen_bodies.proofs.Spots.{spot_so}
use Rattle.ss_vcgen_bodies.proofs.sides.enter_side.Goals as goal

pub returns-clause-becomes : goal.returns-clause-becomes
returns-clause-becomes c =
    let s = c.args.builder.now in
    let w = λ (b : Forms). walk_at b c.args.walk.now in
    let e = expr c.args.e.now in
    let F0 = λ (b : Forms). position_at b s in
    let t1 = c.tested.new.builder in
    let F1 = λ (b : Forms). evaluate (w b) e (F0 b) in
    let t2 = c.first_side.new.self in
    let says = λ (b : Forms). said (meant_at (w b) e (F0 b)) in
    let F2 = λ (b : Forms). first_side (says b) (F1 b).known (F1 b) in
    let p2 = then_formula s t1 t2 F1 c.in_ok-f.ensures.becomes c.in_ok-f.f says (λ b f k. first_side f k.known k) c.in_ok-f.ensures.at c.in_ok-spot.ensures.becomes in
    let t3 = c.test.new.self in
    let F3 = λ (b : Forms). record (F2 b) { known = known_tested e true (F2 b).known } in
    let p3 = then s t2 t3 F2 (λ b k. record k { known = known_tested e true k.known }) p2 c.in_ok-test.ensures in
    so s t3 F3 (λ b. into_body (w b) e (F0 b)) (λ b k. ap (λ (n : Known). first_side (says b) (known_tested e true n) (F1 b)) (evaluate_alike (w b) e (F0 b)).known) p3

pub returns-clause-spot : goal.returns-clause-spot
returns-clause-spot c =
    let s = c.args.builder.now in
    let w = λ (b : Forms). walk_at b c.args.walk.now in
    let e = expr c.args.e.now in
    let F0 = λ (b : Forms). position_at b s in
    let t1 = c.tested.new.builder in
    let F1 = λ (b : Forms). evaluate (w b) e (F0 b) in
    let t2 = c.first_side.new.self in
    let t3 = c.test.new.self in
    let g2 = c.in_ok-spot.ensures.becomes.grown in
    let g3 = c.in_ok-test.ensures.grown in
    let left = λ (b : Forms). record (position_at b t1) { guard = When (t1.next.truths + 1) } in
    let here = λ (b : Forms). record (left b) { known = known_tested e false (left b).known } in
    let at = IsSpot-grown t2.bank t3.bank g3 c.in_ok-other.other here (c.in_ok-other.ensures t2.bank left c.in_ok-spot.ensures.spot) in
    spot_so t3.bank c.in_ok-other.other here at (λ b. other_side (w b) e (F0 b))
    (λ b k.
    ap (λ (l : Position). record l { guard = When (l.next.truths + 1); known = known_tested e false l.known }) (c.in_ok-f.ensures.becomes.is b (IsGrown-then t1.bank t2.bank b g2 (IsGrown-then t2.bank t3.bank b g3 k)))
    ∙ ap (λ (n : Known). record (F1 b) { guard = When ((F1 b).next.truths + 1); known = known_tested e false n }) (evaluate_alike (w b) e (F0 b)).known)
