use Rattle.std.proofs.Common.{◌+◌, ◌∙◌, sym, ap, drop, get_or}
use Rattle.std.proofs.lemmas.List.{drop_more}
use Rattle.std.proofs.Math.ListN.{drop_of_length-le}
use Rattle.ss_bit_set.specs.Marked.{marked}
use Rattle.ss_store_rules.specs.NonNull.{both}
use Rattle.ss_vcgen_types.specs.Told.{facts_of, all_facts}
use Rattle.ss_vcgen_known.specs.Views.{known_of}
use Rattle.ss_vcgen_known.proofs.Listing.{none_is_none, both_none, both_assoc}
use Rattle.ss_vcgen_types.proofs.Walking.{no_told}
use Rattle.ss_vcgen_known.proofs.known.Known.facts_told.Goals as goal

pub loop-told-init : goal.loop-told-init
loop-told-init c = ap (λ f. both f (all_facts (known_of c.args.self.now) c.args.list.now)) (c.new-set.ensures ∙ none_is_none)

pub loop-told-preserved : goal.loop-told-preserved
loop-told-preserved c =
    let k = known_of c.args.self.now in
    let i = c.loop-told.told-index in
    let all = c.args.list.now in
    let f = marked c.loop-told.set in
    ap (λ g. both g (all_facts k (drop (i + 1) all))) c.in_ok-add_fact.ensures
    ∙ both_assoc f (facts_of k (get_or all i no_told)) (all_facts k (drop (i + 1) all))
    ∙ ap (λ ts. both f (all_facts k ts)) (sym (drop_more all i no_told c.loop-told-test.true))
    ∙ c.loop-told.invariant

pub returns : goal.returns
returns c =
    let f = marked c.loop-told.set in
    sym (both_none f)
    ∙ ap (λ ts. both f (all_facts (known_of c.args.self.now) ts)) (sym (drop_of_length-le c.args.list.now c.loop-told-test.false))
    ∙ c.loop-told.invariant
