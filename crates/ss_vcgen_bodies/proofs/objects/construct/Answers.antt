use Rattle.std.proofs.Common.{[], ◌∷◌, ap, ◌∙◌}
use Rattle.std.specs.Prelude.{option_map}
use Rattle.std.specs.Borrow.{Bor}
use Rattle.ss_core.specs.declared.body.Body.{Body}
use Rattle.ss_core.specs.View.{body, exprs}
use Rattle.ss_store_rules.specs.Typed.{constructor_of}
use Rattle.ss_logic.specs.Shapes.{next_of}
use Rattle.ss_terms.specs.Forms.{Forms, term_at}
use Rattle.ss_terms.proofs.Grown.{IsGrown-then, HasTerm-grown, HasTerms-grown}
use Rattle.ss_vcgen_heaps.specs.Positions.{Position}
use Rattle.ss_vcgen_heaps.specs.Obligations.{constructed, keep}
use Rattle.ss_vcgen_express.specs.Numbers.{IsTerm}
use Rattle.ss_vcgen_builder.specs.Builder.{position_at, walk_at}
use Rattle.ss_vcgen_builder.proofs.Builds.{IsWalk-grown}
use Rattle.ss_vcgen_contracts.specs.Views.{ones_at, AreOnes}
use Rattle.ss_vcgen_statements.proofs.Steps.{then, so, then_term, term_later}
use Rattle.ss_vcgen_bodies.specs.CallWords.{reached_arguments, arguments_reached, object_there}
use Rattle.ss_vcgen_bodies.proofs.objects.construct.Goals as goal

pub constructed-requires-clause-walk : goal.constructed-requires-clause-walk
constructed-requires-clause-walk c =
    let s = c.args.builder.now in
    let w = λ (b : Forms). walk_at b c.args.walk.now in
    let F0 = λ (b : Forms). position_at b s in
    let es = exprs c.args.es.now in
    let t1 = c.settle_list.new.builder in
    let p1 = c.in_ok-arguments.ensures.becomes in
    let F1 = λ (b : Forms). reached_arguments (w b) es (F0 b) in
    let ms = λ (b : Forms). arguments_reached (w b) es (F0 b) in
    let t2 = c.new_object.new.builder in
    let e2 = c.in_ok-o.ensures.becomes in
    let F2 = λ (b : Forms). object_there c.args.class.0 (F1 b) in
    let p2 = then s t1 t2 F1 (λ b k. object_there c.args.class.0 k) p1 e2 in
    let own : AreOnes t1.bank c.deref.result.now ms = rw c.deref.ensures.value c.in_ok-arguments.ensures.at in
    IsWalk-grown s.bank t2.bank p2.grown c.args.walk.now c.requires.walk

pub constructed-requires-clause-arguments : goal.constructed-requires-clause-arguments
constructed-requires-clause-arguments c =
    let s = c.args.builder.now in
    let w = λ (b : Forms). walk_at b c.args.walk.now in
    let F0 = λ (b : Forms). position_at b s in
    let es = exprs c.args.es.now in
    let t1 = c.settle_list.new.builder in
    let p1 = c.in_ok-arguments.ensures.becomes in
    let F1 = λ (b : Forms). reached_arguments (w b) es (F0 b) in
    let ms = λ (b : Forms). arguments_reached (w b) es (F0 b) in
    let t2 = c.new_object.new.builder in
    let e2 = c.in_ok-o.ensures.becomes in
    let F2 = λ (b : Forms). object_there c.args.class.0 (F1 b) in
    let p2 = then s t1 t2 F1 (λ b k. object_there c.args.class.0 k) p1 e2 in
    let own : AreOnes t1.bank c.deref.result.now ms = rw c.deref.ensures.value c.in_ok-arguments.ensures.at in
    HasTerms-grown t1.bank t2.bank e2.grown c.deref.result.now own.has

pub keep-requires-clause-results : goal.keep-requires-clause-results
keep-requires-clause-results c = (HasTerm-grown c.new_object.new.builder.bank c.constructed.new.builder.bank c.in_ok-constructed.ensures.grown c.in_ok-o.o c.in_ok-o.ensures.at.has, tt)

pub returns : goal.returns
returns c =
    let s = c.args.builder.now in
    let w = λ (b : Forms). walk_at b c.args.walk.now in
    let F0 = λ (b : Forms). position_at b s in
    let es = exprs c.args.es.now in
    let t1 = c.settle_list.new.builder in
    let p1 = c.in_ok-arguments.ensures.becomes in
    let F1 = λ (b : Forms). reached_arguments (w b) es (F0 b) in
    let ms = λ (b : Forms). arguments_reached (w b) es (F0 b) in
    let t2 = c.new_object.new.builder in
    let e2 = c.in_ok-o.ensures.becomes in
    let F2 = λ (b : Forms). object_there c.args.class.0 (F1 b) in
    let p2 = then s t1 t2 F1 (λ b k. object_there c.args.class.0 k) p1 e2 in
    let own : AreOnes t1.bank c.deref.result.now ms = rw c.deref.ensures.value c.in_ok-arguments.ensures.at in
    let new = λ (b : Forms). next_of (F1 b).store in
    let o2 : IsTerm t2.bank c.in_ok-o.o new = record {
      has = c.in_ok-o.ensures.at.has;
      is = λ b k. c.in_ok-o.ensures.at.is b k ∙ ap (λ (m : Position). next_of m.store) (p1.is b (IsGrown-then t1.bank t2.bank b e2.grown k));
    } in
    let t3 = c.constructed.new.builder in
    let e3 = c.in_ok-constructed.ensures in
    let d = λ (b : Forms). constructor_of (w b).program c.args.class.0 in
    let found = option_map (λ (x : Bor Body). body x.now) c.constructor_of.result in
    let F3 = λ (b : Forms). constructed (w b) c.args.at (new b) (d b) (ms b) (F2 b) in
    let p3 = so s t3 (λ b. constructed (w b) c.args.at (term_at b c.in_ok-o.o) found (ones_at b c.deref.result.now) (F2 b)) F3
    (λ b k.
    let k2 = IsGrown-then t2.bank t3.bank b e3.grown k in
    ap (λ x. constructed (w b) c.args.at x found (ones_at b c.deref.result.now) (F2 b)) (o2.is b k2)
    ∙ ap (λ x. constructed (w b) c.args.at (new b) x (ones_at b c.deref.result.now) (F2 b)) c.constructor_of.ensures
    ∙ ap (λ x. constructed (w b) c.args.at (new b) (d b) x (F2 b)) (own.are b (IsGrown-then t1.bank t2.bank b e2.grown k2)))
    (then s t2 t3 F2 (λ b k. constructed (w b) c.args.at (term_at b c.in_ok-o.o) found (ones_at b c.deref.result.now) k) p2 e3) in
    then_term s t3 c.keep.new.builder F3 p3 c.in_ok-o.o new (λ b x k. keep c.args.x (x ∷ []) k) (term_later t2.bank t3.bank e3.grown c.in_ok-o.o new o2) c.keep.ensures
