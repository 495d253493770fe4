use Rattle.std.proofs.Common.{ap}
use Rattle.ss_core.specs.View as view
use Rattle.ss_logic.specs.Formulas.{And, formulas_from}
use Rattle.ss_logic.specs.Frames.{the_object, the_index, is_outside}
use Rattle.ss_terms.proofs.Grown.{IsGrown-refl, IsGrown-then, IsBankOf-grown}
use Rattle.ss_terms_puts.proofs.Putting.{formula_equal}
use Rattle.ss_frames.proofs.Growing.{IsTerm-grown, HasCall-grown}
use Rattle.ss_frames.proofs.Making.{not_bound_of, calls_now, calls_made, all_made}
use Rattle.ss_frames.proofs.frame.all_kept.Goals as goal

pub outside-requires-clause-call : goal.outside-requires-clause-call
outside-requires-clause-call c = HasCall-grown c.args.b.now c.not_bound.new.b c.not_bound.ensures.grown c.args.m.now c.requires.call

pub outside-requires-clause-object : goal.outside-requires-clause-object
outside-requires-clause-object c = IsTerm-grown c.args.b.now c.not_bound.new.b c.not_bound.ensures.grown c.args.object the_object c.requires.object

pub objects_kept-requires-clause-bank : goal.objects_kept-requires-clause-bank
objects_kept-requires-clause-bank c =
    let g = IsGrown-then c.args.b.now c.not_bound.new.b c.outside.new.b c.not_bound.ensures.grown c.outside.ensures.grown in
    IsBankOf-grown (view.classes c.args.classes.now) c.args.b.now c.outside.new.b g c.requires.bank

pub objects_kept-requires-clause-call : goal.objects_kept-requires-clause-call
objects_kept-requires-clause-call c =
    let g = IsGrown-then c.args.b.now c.not_bound.new.b c.outside.new.b c.not_bound.ensures.grown c.outside.ensures.grown in
    HasCall-grown c.args.b.now c.outside.new.b g c.args.m.now c.requires.call

pub objects_kept-requires-clause-object : goal.objects_kept-requires-clause-object
objects_kept-requires-clause-object c =
    let g = IsGrown-then c.args.b.now c.not_bound.new.b c.outside.new.b c.not_bound.ensures.grown c.outside.ensures.grown in
    IsTerm-grown c.args.b.now c.outside.new.b g c.args.object the_object c.requires.object

pub objects_kept-requires-clause-free : goal.objects_kept-requires-clause-free
objects_kept-requires-clause-free c =
    calls_now not_bound_of c.args.b.now c.not_bound.new.b c.outside.new.b c.args.m.now c.in_ok-free.free.items _ c.not_bound.ensures.grown c.outside.ensures.grown c.requires.call c.deref.ensures.value c.in_ok-free.ensures.at

pub objects_kept-requires-clause-outside : goal.objects_kept-requires-clause-outside
objects_kept-requires-clause-outside c =
    calls_now is_outside c.args.b.now c.outside.new.b c.outside.new.b c.args.m.now c.in_ok-outside.outside.items _ (IsGrown-then c.args.b.now c.not_bound.new.b c.outside.new.b c.not_bound.ensures.grown c.outside.ensures.grown) (IsGrown-refl c.outside.new.b)
    c.requires.call c.deref-2.ensures.value (calls_made is_outside c.args.b.now c.not_bound.new.b c.outside.new.b c.args.m.now c.in_ok-outside.outside.items c.not_bound.ensures.grown c.requires.call c.in_ok-outside.ensures.at)

pub elements_kept-requires-clause-bank : goal.elements_kept-requires-clause-bank
elements_kept-requires-clause-bank c =
    let g = IsGrown-then c.args.b.now c.outside.new.b c.objects_kept.new.b (IsGrown-then c.args.b.now c.not_bound.new.b c.outside.new.b c.not_bound.ensures.grown c.outside.ensures.grown) c.objects_kept.ensures.grown in
    IsBankOf-grown (view.classes c.args.classes.now) c.args.b.now c.objects_kept.new.b g c.requires.bank

pub elements_kept-requires-clause-call : goal.elements_kept-requires-clause-call
elements_kept-requires-clause-call c =
    let g = IsGrown-then c.args.b.now c.outside.new.b c.objects_kept.new.b (IsGrown-then c.args.b.now c.not_bound.new.b c.outside.new.b c.not_bound.ensures.grown c.outside.ensures.grown) c.objects_kept.ensures.grown in
    HasCall-grown c.args.b.now c.objects_kept.new.b g c.args.m.now c.requires.call

pub elements_kept-requires-clause-object : goal.elements_kept-requires-clause-object
elements_kept-requires-clause-object c =
    let g = IsGrown-then c.args.b.now c.outside.new.b c.objects_kept.new.b (IsGrown-then c.args.b.now c.not_bound.new.b c.outside.new.b c.not_bound.ensures.grown c.outside.ensures.grown) c.objects_kept.ensures.grown in
    IsTerm-grown c.args.b.now c.objects_kept.new.b g c.args.object the_object c.requires.object

pub elements_kept-requires-clause-index : goal.elements_kept-requires-clause-index
elements_kept-requires-clause-index c =
    let g = IsGrown-then c.args.b.now c.outside.new.b c.objects_kept.new.b (IsGrown-then c.args.b.now c.not_bound.new.b c.outside.new.b c.not_bound.ensures.grown c.outside.ensures.grown) c.objects_kept.ensures.grown in
    IsTerm-grown c.args.b.now c.objects_kept.new.b g c.args.index the_index c.requires.index

pub elements_kept-requires-clause-free : goal.elements_kept-requires-clause-free
elements_kept-requires-clause-free c =
    let g = IsGrown-then c.not_bound.new.b c.outside.new.b c.objects_kept.new.b c.outside.ensures.grown c.objects_kept.ensures.grown in
    calls_now not_bound_of c.args.b.now c.not_bound.new.b c.objects_kept.new.b c.args.m.now c.in_ok-free.free.items _ c.not_bound.ensures.grown g c.requires.call c.deref-3.ensures.value c.in_ok-free.ensures.at

pub others_full-requires-clause-call : goal.others_full-requires-clause-call
others_full-requires-clause-call c =
    let g = IsGrown-then c.args.b.now c.outside.new.b c.objects_kept.new.b (IsGrown-then c.args.b.now c.not_bound.new.b c.outside.new.b c.not_bound.ensures.grown c.outside.ensures.grown) c.objects_kept.ensures.grown in
    HasCall-grown c.args.b.now c.elements_kept.new.b (IsGrown-then c.args.b.now c.objects_kept.new.b c.elements_kept.new.b g c.elements_kept.ensures.grown) c.args.m.now c.requires.call

pub others_full-requires-clause-object : goal.others_full-requires-clause-object
others_full-requires-clause-object c =
    let g = IsGrown-then c.args.b.now c.outside.new.b c.objects_kept.new.b (IsGrown-then c.args.b.now c.not_bound.new.b c.outside.new.b c.not_bound.ensures.grown c.outside.ensures.grown) c.objects_kept.ensures.grown in
    IsTerm-grown c.args.b.now c.elements_kept.new.b (IsGrown-then c.args.b.now c.objects_kept.new.b c.elements_kept.new.b g c.elements_kept.ensures.grown) c.args.object the_object c.requires.object

pub others_full-requires-clause-free : goal.others_full-requires-clause-free
others_full-requires-clause-free c =
    let g = IsGrown-then c.not_bound.new.b c.outside.new.b c.objects_kept.new.b c.outside.ensures.grown c.objects_kept.ensures.grown in
    calls_now not_bound_of c.args.b.now c.not_bound.new.b c.elements_kept.new.b c.args.m.now c.in_ok-free.free.items _ c.not_bound.ensures.grown (IsGrown-then c.not_bound.new.b c.objects_kept.new.b c.elements_kept.new.b g c.elements_kept.ensures.grown) c.requires.call c.deref-4.ensures.value c.in_ok-free.ensures.at

pub others_full-requires-clause-outside : goal.others_full-requires-clause-outside
others_full-requires-clause-outside c =
    calls_now is_outside c.args.b.now c.outside.new.b c.elements_kept.new.b c.args.m.now c.in_ok-outside.outside.items _ (IsGrown-then c.args.b.now c.not_bound.new.b c.outside.new.b c.not_bound.ensures.grown c.outside.ensures.grown)
    (IsGrown-then c.outside.new.b c.objects_kept.new.b c.elements_kept.new.b c.objects_kept.ensures.grown c.elements_kept.ensures.grown)
    c.requires.call c.deref-5.ensures.value (calls_made is_outside c.args.b.now c.not_bound.new.b c.outside.new.b c.args.m.now c.in_ok-outside.outside.items c.not_bound.ensures.grown c.requires.call c.in_ok-outside.ensures.at)

pub and-requires : goal.and-requires
and-requires c =
    let g = IsGrown-then c.args.b.now c.not_bound.new.b c.outside.new.b c.not_bound.ensures.grown c.outside.ensures.grown in
    (all_made (view.classes c.args.classes.now) c.args.b.now c.outside.new.b c.objects_kept.new.b c.elements_kept.new.b c.others_full.new.b g c.objects_kept.ensures.grown c.elements_kept.ensures.grown c.others_full.ensures.grown c.args.m.now c.requires.call
    c.in_ok-objects.objects c.in_ok-elements.elements c.in_ok-others.others c.in_ok-objects.ensures.at c.in_ok-elements.ensures.at c.in_ok-others.ensures.at).0

pub returns-clause-at : goal.returns-clause-at
returns-clause-at c =
    let g = IsGrown-then c.args.b.now c.not_bound.new.b c.outside.new.b c.not_bound.ensures.grown c.outside.ensures.grown in
    formula_equal c.and.result c.and.new.self _ _
    (ap (λ fs. And (formulas_from fs))
    (all_made (view.classes c.args.classes.now) c.args.b.now c.outside.new.b c.objects_kept.new.b c.elements_kept.new.b c.others_full.new.b g c.objects_kept.ensures.grown c.elements_kept.ensures.grown c.others_full.ensures.grown c.args.m.now c.requires.call
    c.in_ok-objects.objects c.in_ok-elements.elements c.in_ok-others.others c.in_ok-objects.ensures.at c.in_ok-elements.ensures.at c.in_ok-others.ensures.at).1)
    c.and.ensures.at
