use Rattle.std.proofs.Common.{ap, ◌∙◌, sym}
use Rattle.std.specs.Prelude.{pos}
use Rattle.ss_core.specs.declared.names.Kind.TheVariants as kind
use Rattle.ss_core.specs.View.{expr}
use Rattle.ss_logic.specs.declared.Sort.TheVariants as sort
use Rattle.ss_logic.specs.Shapes.{number, at_most}
use Rattle.ss_terms.specs.Forms.{Forms, IsGrown}
use Rattle.ss_terms.proofs.Grown.{IsGrown-then}
use Rattle.ss_vcgen_heaps.specs.Positions as spec
use Rattle.ss_vcgen_heaps.specs.Positions.{evaluate, check, with_term, term_for}
use Rattle.ss_vcgen_express.specs.Numbers.{meant_at, IsTerm, IsFormula}
use Rattle.ss_vcgen_builder.specs.Builder.{position_at, walk_at}
use Rattle.ss_vcgen_statements.proofs.InContexts.{meant_alike, evaluate_alike}
use Rattle.ss_vcgen_statements.proofs.Steps.{then, so, then_formula, term_later}
use Rattle.ss_vcgen_bodies.specs.CallWords.{length_term}
use Rattle.ss_vcgen_bodies.proofs.objects.check_length.Goals as goal

pub returns-clause-at : goal.returns-clause-at
returns-clause-at c =
    let s = c.args.builder.now in
    let w = λ (b : Forms). walk_at b c.args.walk.now in
    let F0 = λ (b : Forms). position_at b s in
    let e = expr c.args.e.now in
    let m = c.in_ok-meant.meant in
    let t1 = c.evaluate.new.builder in
    let p1 = c.in_ok-meant.ensures.becomes in
    let F1 = λ (b : Forms). evaluate (w b) e (F0 b) in
    let says = λ (b : Forms). spec.meant_at (w b) e (F1 b) in
    let means = λ (b : Forms) (k : IsGrown t1.bank b). c.in_ok-meant.ensures.at.is b k ∙ sym (meant_alike (w b) e (F1 b) (F0 b) (evaluate_alike (w b) e (F0 b))) in
    let t2 = c.settle.new.self in
    let e2 = c.in_ok-n.ensures.becomes in
    let F2 = λ (b : Forms). with_term sort.Whole (says b) (F1 b) in
    let p2 = so s t2 (λ b. with_term sort.Whole (meant_at b m) (F1 b)) F2 (λ b k. ap (λ x. with_term sort.Whole x (F1 b)) (means b (IsGrown-then t1.bank t2.bank b e2.grown k)))
    (then s t1 t2 F1 (λ b k. with_term sort.Whole (meant_at b m) k) p1 e2) in
    let term = λ (b : Forms). length_term (w b) e (F0 b) in
    let n2 : IsTerm t2.bank c.in_ok-n.n term = record {
      has = c.in_ok-n.ensures.at.has;
      is = λ b k.
          let k1 = IsGrown-then t1.bank t2.bank b e2.grown k in
          c.in_ok-n.ensures.at.is b k ∙ ap (term_for sort.Whole (meant_at b m)) (p1.is b k1) ∙ ap (λ x. term_for sort.Whole x (F1 b)) (means b k1);
    } in
    let t3 = c.not_negative_said.new.builder in
    let e3 = c.in_ok-said.ensures.stays in
    let p3 = then s t2 t3 F2 (λ b k. k) p2 e3 in
    let least = λ (b : Forms). at_most (number (pos 0)) (term b) in
    let said : IsFormula t3.bank c.in_ok-said.said least = record {
      has = c.in_ok-said.ensures.at.has;
      is = λ b k. c.in_ok-said.ensures.at.is b k ∙ ap (at_most (number (pos 0))) (n2.is b (IsGrown-then t2.bank t3.bank b e3.grown k));
    } in
    let t4 = c.check.new.self in
    let e4 = c.in_ok-check.ensures in
    term_later t2.bank t4.bank (IsGrown-then t2.bank t3.bank t4.bank e3.grown e4.grown) c.in_ok-n.n term n2

pub returns-clause-becomes : goal.returns-clause-becomes
returns-clause-becomes c =
    let s = c.args.builder.now in
    let w = λ (b : Forms). walk_at b c.args.walk.now in
    let F0 = λ (b : Forms). position_at b s in
    let e = expr c.args.e.now in
    let m = c.in_ok-meant.meant in
    let t1 = c.evaluate.new.builder in
    let p1 = c.in_ok-meant.ensures.becomes in
    let F1 = λ (b : Forms). evaluate (w b) e (F0 b) in
    let says = λ (b : Forms). spec.meant_at (w b) e (F1 b) in
    let means = λ (b : Forms) (k : IsGrown t1.bank b). c.in_ok-meant.ensures.at.is b k ∙ sym (meant_alike (w b) e (F1 b) (F0 b) (evaluate_alike (w b) e (F0 b))) in
    let t2 = c.settle.new.self in
    let e2 = c.in_ok-n.ensures.becomes in
    let F2 = λ (b : Forms). with_term sort.Whole (says b) (F1 b) in
    let p2 = so s t2 (λ b. with_term sort.Whole (meant_at b m) (F1 b)) F2 (λ b k. ap (λ x. with_term sort.Whole x (F1 b)) (means b (IsGrown-then t1.bank t2.bank b e2.grown k)))
    (then s t1 t2 F1 (λ b k. with_term sort.Whole (meant_at b m) k) p1 e2) in
    let term = λ (b : Forms). length_term (w b) e (F0 b) in
    let n2 : IsTerm t2.bank c.in_ok-n.n term = record {
      has = c.in_ok-n.ensures.at.has;
      is = λ b k.
          let k1 = IsGrown-then t1.bank t2.bank b e2.grown k in
          c.in_ok-n.ensures.at.is b k ∙ ap (term_for sort.Whole (meant_at b m)) (p1.is b k1) ∙ ap (λ x. term_for sort.Whole x (F1 b)) (means b k1);
    } in
    let t3 = c.not_negative_said.new.builder in
    let e3 = c.in_ok-said.ensures.stays in
    let p3 = then s t2 t3 F2 (λ b k. k) p2 e3 in
    let least = λ (b : Forms). at_most (number (pos 0)) (term b) in
    let said : IsFormula t3.bank c.in_ok-said.said least = record {
      has = c.in_ok-said.ensures.at.has;
      is = λ b k. c.in_ok-said.ensures.at.is b k ∙ ap (at_most (number (pos 0))) (n2.is b (IsGrown-then t2.bank t3.bank b e3.grown k));
    } in
    let t4 = c.check.new.self in
    let e4 = c.in_ok-check.ensures in
    then_formula s t3 t4 F2 p3 c.in_ok-said.said least (λ b f k. check (w b) kind.NegativeLength c.args.at f k) said e4
