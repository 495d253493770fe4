use Rattle.std.proofs.Common.{[], ◌∷◌, ap, ◌∙◌}
use Rattle.ss_core.specs.View.{expr}
use Rattle.ss_logic.specs.declared.Sort.{Sort}
use Rattle.ss_logic.specs.declared.Sort.TheVariants as sort
use Rattle.ss_logic.specs.Terms.{Term}
use Rattle.ss_logic.specs.Express.{Meant}
use Rattle.ss_terms.specs.Forms.{Forms, term_at}
use Rattle.ss_terms.proofs.Grown.{IsGrown-then, HasTerm-grown}
use Rattle.ss_vcgen_heaps.specs.Positions.{Position, evaluate, evaluate_all, meant_at, term_for, with_term}
use Rattle.ss_vcgen_heaps.specs.Obligations.{write_element}
use Rattle.ss_vcgen_express.specs.Numbers.{meant_at as value_at}
use Rattle.ss_vcgen_express.proofs.Grown.{HasMeant-grown}
use Rattle.ss_vcgen_builder.specs.Builder.{position_at, walk_at}
use Rattle.ss_vcgen_builder.proofs.Builds.{IsWalk-grown}
use Rattle.ss_vcgen_statements.proofs.InContexts.{all_alike, meant_alike}
use Rattle.ss_vcgen_statements.proofs.Steps.{then, so}
use Rattle.ss_vcgen.specs.Behind.{with_two, element_written}
use Rattle.ss_vcgen.proofs.changes.write_at.Goals as goal

pub evaluate-requires-clause-walk : goal.evaluate-requires-clause-walk
evaluate-requires-clause-walk c = IsWalk-grown c.args.builder.now.bank c.evaluate_two.new.builder.bank c.in_ok-meant.ensures.becomes.grown c.args.walk.now c.requires.walk

pub settle_two-requires-clause-first : goal.settle_two-requires-clause-first
settle_two-requires-clause-first c = HasMeant-grown c.in_ok-element.ensures.becomes.grown c.in_ok-meant.meant.0 c.in_ok-meant.ensures.first.has

pub settle_two-requires-clause-second : goal.settle_two-requires-clause-second
settle_two-requires-clause-second c = HasMeant-grown c.in_ok-element.ensures.becomes.grown c.in_ok-meant.meant.1 c.in_ok-meant.ensures.second.has

pub settle-requires-clause-meant : goal.settle-requires-clause-meant
settle-requires-clause-meant c = HasMeant-grown c.in_ok-terms.ensures.becomes.grown c.in_ok-element.element c.in_ok-element.ensures.at.has

pub write_element-requires-clause-walk : goal.write_element-requires-clause-walk
write_element-requires-clause-walk c =
    let s = c.args.builder.now in
    let t1 = c.evaluate_two.new.builder in
    let t2 = c.evaluate.new.builder in
    let t3 = c.settle_two.new.builder in
    let t4 = c.settle.new.self in
    IsWalk-grown s.bank t4.bank
    (IsGrown-then s.bank t3.bank t4.bank (IsGrown-then s.bank t2.bank t3.bank (IsGrown-then s.bank t1.bank t2.bank c.in_ok-meant.ensures.becomes.grown c.in_ok-element.ensures.becomes.grown) c.in_ok-terms.ensures.becomes.grown) c.in_ok-v.ensures.becomes.grown)
    c.args.walk.now c.requires.walk

pub write_element-requires-clause-array : goal.write_element-requires-clause-array
write_element-requires-clause-array c = HasTerm-grown c.settle_two.new.builder.bank c.settle.new.self.bank c.in_ok-v.ensures.becomes.grown c.in_ok-terms.terms.0 c.in_ok-terms.ensures.first.has

pub write_element-requires-clause-index : goal.write_element-requires-clause-index
write_element-requires-clause-index c = HasTerm-grown c.settle_two.new.builder.bank c.settle.new.self.bank c.in_ok-v.ensures.becomes.grown c.in_ok-terms.terms.1 c.in_ok-terms.ensures.second.has

pub returns : goal.returns
returns c =
    let s = c.args.builder.now in
    let w = λ (b : Forms). walk_at b c.args.walk.now in
    let e = expr c.args.target.now.array.now in
    let i = expr c.args.target.now.index.now in
    let v = expr c.args.value.now in
    let z = c.sort_of_elements-sort.result in
    let l = c.in_ok-meant.meant.0 in
    let m = c.in_ok-meant.meant.1 in
    let n = c.in_ok-element.element in
    let o = c.in_ok-terms.terms.0 in
    let j = c.in_ok-terms.terms.1 in
    let y = c.in_ok-v.v in
    let F0 = λ (b : Forms). position_at b s in
    let t1 = c.evaluate_two.new.builder in
    let e1 = c.in_ok-meant.ensures.becomes in
    let E1 = λ (b : Forms). evaluate_all (w b) (e ∷ i ∷ []) (F0 b) in
    let t2 = c.evaluate.new.builder in
    let e2 = c.in_ok-element.ensures.becomes in
    let F1 = λ (b : Forms). evaluate (w b) v (E1 b) in
    let p1 = then s t1 t2 E1 (λ b k. evaluate (w b) v k) e1 e2 in
    let t3 = c.settle_two.new.builder in
    let e3 = c.in_ok-terms.ensures.becomes in
    let F2 = λ (b : Forms). with_two sort.Rest (value_at b l) sort.Whole (value_at b m) (F1 b) in
    let p2 = then s t2 t3 F1 (λ b k. with_two sort.Rest (value_at b l) sort.Whole (value_at b m) k) p1 e3 in
    let t4 = c.settle.new.self in
    let e4 = c.in_ok-v.ensures.becomes in
    let F3 = λ (b : Forms). with_term z (value_at b n) (F2 b) in
    let p3 = then s t3 t4 F2 (λ b k. with_term z (value_at b n) k) p2 e4 in
    let t5 = c.write_element.new.builder in
    let e5 = c.in_ok-write_element.ensures in
    let wrote = λ (b : Forms) (o j y : Term) (k : Position). write_element (w b) c.args.target.now.place e o j y k in
    let two = λ (b : Forms) (l m : Meant). with_two sort.Rest l sort.Whole m (F1 b) in
    let done = λ (b : Forms) (z : Sort) (l m n : Meant). wrote b (term_for sort.Rest l (F1 b)) (term_for sort.Whole m (with_term sort.Rest l (F1 b))) (term_for z n (two b l m)) (with_term z n (two b l m)) in
    so s t5 (λ b. wrote b (term_at b o) (term_at b j) (term_at b y) (F3 b)) (λ b. element_written (w b) c.args.target.now.place e i v (F0 b))
    (λ b k.
    let g4 = IsGrown-then t4.bank t5.bank b e5.grown k in
    let g3 = IsGrown-then t3.bank t4.bank b e4.grown g4 in
    let g2 = IsGrown-then t2.bank t3.bank b e3.grown g3 in
    let g1 = IsGrown-then t1.bank t2.bank b e2.grown g2 in
    ap (λ (o : Term). wrote b o (term_at b j) (term_at b y) (F3 b)) (c.in_ok-terms.ensures.first.is b g3 ∙ ap (λ (k : Position). term_for sort.Rest (value_at b l) k) (p1.is b g2))
    ∙ ap (λ (j : Term). wrote b (term_for sort.Rest (value_at b l) (F1 b)) j (term_at b y) (F3 b)) (c.in_ok-terms.ensures.second.is b g3 ∙ ap (λ (k : Position). term_for sort.Whole (value_at b m) (with_term sort.Rest (value_at b l) k)) (p1.is b g2))
    ∙ ap (λ (y : Term). wrote b (term_for sort.Rest (value_at b l) (F1 b)) (term_for sort.Whole (value_at b m) (with_term sort.Rest (value_at b l) (F1 b))) y (F3 b))
    (c.in_ok-v.ensures.at.is b g4 ∙ ap (λ (k : Position). term_for z (value_at b n) k) (p2.is b g3))
    ∙ ap (λ (l : Meant). done b z l (value_at b m) (value_at b n)) (c.in_ok-meant.ensures.first.is b g1)
    ∙ ap (λ (m : Meant). done b z (meant_at (w b) e (F0 b)) m (value_at b n)) (c.in_ok-meant.ensures.second.is b g1)
    ∙ ap (λ (n : Meant). done b z (meant_at (w b) e (F0 b)) (meant_at (w b) i (F0 b)) n)
    (c.in_ok-element.ensures.at.is b g2 ∙ ap (λ (k : Position). meant_at (w b) v k) (e1.is b g1) ∙ meant_alike (w b) v (E1 b) (F0 b) (all_alike (w b) (e ∷ i ∷ []) (F0 b)))
    ∙ ap (λ (z : Sort). done b z (meant_at (w b) e (F0 b)) (meant_at (w b) i (F0 b)) (meant_at (w b) v (F0 b))) c.sort_of_elements-sort.ensures)
    (then s t4 t5 F3 (λ b k. wrote b (term_at b o) (term_at b j) (term_at b y) k) p3 e5)
