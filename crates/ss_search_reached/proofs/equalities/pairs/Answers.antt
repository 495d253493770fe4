use Rattle.std.proofs.Common.{◌≤◌, List, length, sym, ◌∙◌, subst, arith}
use Rattle.std.specs.Prelude.{Vec}
use Rattle.std.specs.declared.alloc.Global.{Global}
use Rattle.std.proofs.lemmas.List.{length-map}
use Rattle.ss_terms.specs.declared.forms.TermId.{TermId}
use Rattle.ss_search_reached.specs.Groups.{lists_in, AreGrouped}
use Rattle.ss_search_reached.proofs.Groups.{list_at, no_pairs, more_pairs, all_pairs}
use Rattle.ss_search_reached.proofs.equalities.pairs.Goals as goal

pub loop-group-init : goal.loop-group-init
loop-group-init c = no_pairs (lists_in c.deref-group-items.result.now) c.new-pairs.result.items c.new-pairs.ensures.items

pub loop-group-preserved : goal.loop-group-preserved
loop-group-preserved c =
    let vs = c.deref-group-items.result.now in
    let i = c.loop-group.group-index in
    more_pairs (lists_in vs) i c.deref.result.now c.loop-group.pairs.items c.pair_all.new.pairs.items
    (c.deref.ensures.value ∙ list_at vs i c.group-item.result c.loop-group-test.true c.group-item.is)
    c.loop-group.invariant c.in_ok-pair_all.ensures

pub returns : goal.returns
returns c =
    let vs = c.deref-group-items.result.now in
    let few : length (lists_in vs) ≤ c.loop-group.group-index = let l = length-map vs (λ v. v.items) in omega (arith, l, c.loop-group-test.false) in
    all_pairs c.args.classes.now c.args.ts.now (lists_in vs) c.loop-group.group-index c.loop-group.pairs.items few
    (subst (λ (gs : List (Vec TermId Global)). AreGrouped c.args.classes.now c.args.ts.now (lists_in gs)) (sym c.deref-group-items.ensures.value) c.in_ok-groups.ensures) c.loop-group.invariant
