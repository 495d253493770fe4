use Rattle.std.proofs.Common.{◌<◌, length, get_or, refl, ap, arith}
use Rattle.std.proofs.lemmas.List.{length-map}
use Rattle.ss_terms.specs.declared.forms.TermId.{TermId}
use Rattle.ss_search_reached.specs.Groups.{lists_in}
use Rattle.ss_search_reached.proofs.Groups.{no_groups, one_more_grouped, all_grouped}
use Rattle.ss_search_reached.proofs.equalities.group.Goals as goal

pub loop-t-init : goal.loop-t-init
loop-t-init c = no_groups c.args.classes.now c.args.ts.now (lists_in c.new-groups.result.items) (ap lists_in c.new-groups.ensures.items)

pub loop-t-preserved : goal.loop-t-preserved
loop-t-preserved c =
    let ts = c.args.ts.now in
    let i = c.loop-t.t-index in
    let d : TermId = record { 0 = 0 } in
    let made = c.make_room.new.groups.items in
    let number = c.class_number-number.result in
    let room : number < length (lists_in made) = let l = length-map made (λ v. v.items) in omega (arith, l, c.in_ok-make_room.ensures.room) in
    one_more_grouped c.args.classes.now ts i d (get_or ts i d) (lists_in c.loop-t.groups.items) (lists_in made) (lists_in c.put.new.groups.items) number c.loop-t-test.true refl c.loop-t.invariant
    c.in_ok-make_room.ensures.same c.class_number-number.ensures room c.in_ok-put.ensures

pub returns : goal.returns
returns c = all_grouped c.args.classes.now c.args.ts.now c.loop-t.t-index (lists_in c.loop-t.groups.items) c.loop-t-test.false c.loop-t.invariant
