use Rattle.std.proofs.Common.{[], ◌∷◌, ap, ◌∙◌}
use Rattle.ss_core.specs.View.{expr}
use Rattle.ss_logic.specs.declared.Sort.{Sort}
use Rattle.ss_logic.specs.declared.Sort.TheVariants as sort
use Rattle.ss_logic.specs.Terms.{Term}
use Rattle.ss_logic.specs.Express.{Meant}
use Rattle.ss_terms.specs.Forms.{Forms, term_at}
use Rattle.ss_terms.proofs.Grown.{IsGrown-then}
use Rattle.ss_vcgen_heaps.specs.Positions.{Position, evaluate_all, meant_at, term_for, with_term}
use Rattle.ss_vcgen_heaps.specs.Obligations.{write}
use Rattle.ss_vcgen_express.specs.Numbers.{meant_at as value_at}
use Rattle.ss_vcgen_builder.specs.Builder.{position_at, walk_at}
use Rattle.ss_vcgen_builder.proofs.Builds.{IsWalk-grown}
use Rattle.ss_vcgen_statements.proofs.Steps.{then, so}
use Rattle.ss_vcgen.specs.Behind.{with_two, written}
use Rattle.ss_vcgen.proofs.changes.write_field.Goals as goal

pub write-requires-clause-walk : goal.write-requires-clause-walk
write-requires-clause-walk c =
    let s = c.args.builder.now in
    let t1 = c.evaluate_two.new.builder in
    let t2 = c.settle_two.new.builder in
    IsWalk-grown s.bank t2.bank (IsGrown-then s.bank t1.bank t2.bank c.in_ok-meant.ensures.becomes.grown c.in_ok-terms.ensures.becomes.grown) c.args.walk.now c.requires.walk

pub returns : goal.returns
returns c =
    let s = c.args.builder.now in
    let w = λ (b : Forms). walk_at b c.args.walk.now in
    let e = expr c.args.target.now.object.now in
    let v = expr c.args.value.now in
    let z = c.sort_of_field-sort.result in
    let m = c.in_ok-meant.meant.0 in
    let n = c.in_ok-meant.meant.1 in
    let o = c.in_ok-terms.terms.0 in
    let y = c.in_ok-terms.terms.1 in
    let F0 = λ (b : Forms). position_at b s in
    let t1 = c.evaluate_two.new.builder in
    let e1 = c.in_ok-meant.ensures.becomes in
    let F1 = λ (b : Forms). evaluate_all (w b) (e ∷ v ∷ []) (F0 b) in
    let t2 = c.settle_two.new.builder in
    let e2 = c.in_ok-terms.ensures.becomes in
    let F2 = λ (b : Forms). with_two sort.Rest (value_at b m) z (value_at b n) (F1 b) in
    let p2 = then s t1 t2 F1 (λ b k. with_two sort.Rest (value_at b m) z (value_at b n) k) e1 e2 in
    let t3 = c.write.new.builder in
    let e3 = c.in_ok-write.ensures in
    let wrote = λ (b : Forms) (o y : Term) (k : Position). write (w b) c.args.target.now.place e c.args.target.now.field.0 c.args.target.now.mark c.args.target.now.class.0 o y k in
    let done = λ (b : Forms) (z : Sort) (m n : Meant). wrote b (term_for sort.Rest m (F1 b)) (term_for z n (with_term sort.Rest m (F1 b))) (with_two sort.Rest m z n (F1 b)) in
    so s t3 (λ b. wrote b (term_at b o) (term_at b y) (F2 b)) (λ b. written (w b) c.args.target.now.place e c.args.target.now.field.0 c.args.target.now.mark c.args.target.now.class.0 v (F0 b))
    (λ b k.
    let here = IsGrown-then t2.bank t3.bank b e3.grown k in
    let there = IsGrown-then t1.bank t2.bank b e2.grown here in
    ap (λ (o : Term). wrote b o (term_at b y) (F2 b)) (c.in_ok-terms.ensures.first.is b here ∙ ap (λ (k : Position). term_for sort.Rest (value_at b m) k) (e1.is b there))
    ∙ ap (λ (y : Term). wrote b (term_for sort.Rest (value_at b m) (F1 b)) y (F2 b)) (c.in_ok-terms.ensures.second.is b here ∙ ap (λ (k : Position). term_for z (value_at b n) (with_term sort.Rest (value_at b m) k)) (e1.is b there))
    ∙ ap (λ (m : Meant). done b z m (value_at b n)) (c.in_ok-meant.ensures.first.is b there)
    ∙ ap (λ (n : Meant). done b z (meant_at (w b) e (F0 b)) n) (c.in_ok-meant.ensures.second.is b there)
    ∙ ap (λ (z : Sort). done b z (meant_at (w b) e (F0 b)) (meant_at (w b) v (F0 b))) c.sort_of_field-sort.ensures)
    (then s t2 t3 F2 (λ b k. wrote b (term_at b o) (term_at b y) k) p2 e3)
