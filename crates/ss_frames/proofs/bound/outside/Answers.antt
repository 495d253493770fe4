use Rattle.std.proofs.Common.{◌<◌, ◌≤◌, ◌∙◌, length, get_or, ap, map, sym, subst}
use Rattle.std.proofs.lemmas.List.{take_all}
use Rattle.ss_logic.specs.Shapes.{equal}
use Rattle.ss_logic.specs.Frames.{the_object}
use Rattle.ss_terms.specs.declared.forms.TermId.{TermId}
use Rattle.ss_terms.specs.Forms.{term_at, HasTerms}
use Rattle.ss_terms.proofs.Grown.{IsGrown-then, HasTerm-grown}
use Rattle.ss_terms.proofs.Tested.{AreTermsBelow-get}
use Rattle.ss_frames.proofs.Growing.{IsTerm-grown, next_made, map-map}
use Rattle.ss_frames.proofs.bound.outside.Goals as goal

pub equality-requires-clause-left : goal.equality-requires-clause-left
equality-requires-clause-left c = HasTerm-grown c.args.b.now c.loop-o.b c.loop-o.invariant.grown c.args.object c.requires.object.0

pub equality-requires-clause-right : goal.equality-requires-clause-right
equality-requires-clause-right c =
    HasTerm-grown c.args.b.now c.loop-o.b c.loop-o.invariant.grown _
    (AreTermsBelow-get _ c.deref-o-items.result.now c.loop-o.o-index (record { 0 = 0 }) (subst (HasTerms c.args.b.now) (sym c.deref-o-items.ensures.value) c.requires.call.outside) c.loop-o-test.true)

pub loop-o-preserved : goal.loop-o-preserved
loop-o-preserved c =
    let a = c.args.b.now in
    let b = c.loop-o.b in
    let d = c.equality.new.self in
    let i = c.loop-o.o-index in
    let v = c.loop-o.invariant in
    let xs = c.deref-o-items.result.now in
    let z : TermId = record { 0 = 0 } in
    let o = get_or xs i z in
    let there = AreTermsBelow-get _ xs i z (subst (HasTerms a) (sym c.deref-o-items.ensures.value) c.requires.call.outside) c.loop-o-test.true in
    let one = c.in_ok-f.ensures.at in
    let within : i < length c.args.m.now.outside.items = subst (λ ys. i < length ys) c.deref-o-items.ensures.value c.loop-o-test.true in
    record {
      grown = IsGrown-then a b d v.grown c.equality.ensures.grown;
      made = next_made (λ t. equal the_object (term_at a t)) b d c.args.m.now.outside.items i z o c.loop-o.made.items _ c.in_ok-f.f (ap (λ ys. get_or ys i z) c.deref-o-items.ensures.value) within c.equality.ensures.grown v.made
          (one.0, one.1 ∙ ap (λ t. equal t (term_at b o)) (IsTerm-grown a b v.grown c.args.object the_object c.requires.object).1 ∙ ap (equal the_object) (v.grown.same_terms o there)) c.in_ok-push.ensures.items;
    }

pub returns-clause-at : goal.returns-clause-at
returns-clause-at c =
    let a = c.args.b.now in
    let i = c.loop-o.o-index in
    let xs = c.args.m.now.outside.items in
    let all : length xs ≤ i = subst (λ ys. length ys ≤ i) c.deref-o-items.ensures.value c.loop-o-test.false in
    (c.loop-o.invariant.made.0, c.loop-o.invariant.made.1 ∙ ap (map (λ t. equal the_object (term_at a t))) (take_all i xs all) ∙ map-map (equal the_object) (term_at a) xs)
