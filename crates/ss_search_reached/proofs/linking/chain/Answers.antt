use Rattle.std.proofs.Common.{◌<◌, ◌≤◌, List, length, ◌++◌, sym, ◌∙◌, ap, subst, arith}
use Rattle.std.specs.Prelude.{Vec}
use Rattle.std.specs.declared.alloc.Global.{Global}
use Rattle.std.proofs.lemmas.List.{length-map}
use Rattle.ss_terms.specs.declared.forms.TermId.{TermId}
use Rattle.ss_linear.specs.Contradictions.{Pairs}
use Rattle.ss_search_reached.specs.Groups.{lists_in, AreGrouped, neighbours_in}
use Rattle.ss_search_reached.proofs.Groups.{list_at}
use Rattle.ss_search_reached.proofs.Links.{groups_more, groups_all}
use Rattle.ss_search_reached.proofs.linking.chain.Goals as goal

pub loop-group-init : goal.loop-group-init
loop-group-init c = ap (λ (ps : Pairs). ps ++ neighbours_in (lists_in c.deref-group-items.result.now)) c.new-pairs.ensures.items

pub loop-group-preserved : goal.loop-group-preserved
loop-group-preserved c =
    let vs = c.deref-group-items.result.now in
    let i = c.loop-group.group-index in
    let within : i < length (lists_in vs) = let l = length-map vs (λ v. v.items) in omega (arith, l, c.loop-group-test.true) in
    groups_more (lists_in vs) i c.deref.result.now c.loop-group.pairs.items c.add_neighbours.new.pairs.items (neighbours_in (lists_in vs)) within
    (c.deref.ensures.value ∙ list_at vs i c.group-item.result c.loop-group-test.true c.group-item.is)
    c.in_ok-add_neighbours.ensures c.loop-group.invariant

pub returns : goal.returns
returns c =
    let vs = c.deref-group-items.result.now in
    let few : length (lists_in vs) ≤ c.loop-group.group-index = let l = length-map vs (λ v. v.items) in omega (arith, l, c.loop-group-test.false) in
    record {
      groups = lists_in vs;
      grouped = subst (λ (gs : List (Vec TermId Global)). AreGrouped c.args.classes.now c.args.ts.now (lists_in gs)) (sym c.deref-group-items.ensures.value) c.in_ok-groups.ensures;
      links = groups_all (lists_in vs) c.loop-group.group-index c.loop-group.pairs.items (neighbours_in (lists_in vs)) few c.loop-group.invariant;
    }
