use Rattle.std.proofs.Common.{◌≡◌, ◌<◌, [], Some, length, get_or, subst, ⊎_elim, arith, ◌∙◌}
use Rattle.std.specs.Prelude.{slice_get}
use Rattle.std.proofs.lemmas.Option.{slice_get_within, get_or_from_slice_get}
use Rattle.std.proofs.lemmas.Bool.{cases_lt}
use Rattle.ss_terms.specs.declared.forms.TermId.{TermId}
use Rattle.ss_terms.specs.Bank.{number}
use Rattle.ss_equality_rules.specs.Names.{Has}
use Rattle.ss_equality_rules.specs.Classes.{lists_of}
use Rattle.ss_equality.proofs.Lists.{added_keeps, added_has, added_long, terms_below_at, lists_long}
use Rattle.ss_equality.proofs.classes.add_uses.Goals as goal

pub add_user-requires : goal.add_user-requires
add_user-requires c = omega (arith, terms_below_at _ c.args.arguments.now c.requires c.loop-x.x-index (number 0) c.loop-x-test.true, c.loop-x.invariant.0)

pub loop-x-preserved : goal.loop-x-preserved
loop-x-preserved c =
    let ts = c.args.arguments.now in
    let i = c.loop-x.x-index in
    let t : TermId = get_or ts i (number 0) in
    let us = lists_of c.loop-x.users.items in
    let us' = lists_of c.add_user.new.users.items in
    let added = c.in_ok-add_user.ensures.added in
    let inside : t.0 < length (lists_of c.loop-x.users.items) = omega (arith, terms_below_at _ ts c.requires i (number 0) c.loop-x-test.true, c.loop-x.invariant.0, lists_long c.loop-x.users.items) in (
      added_long c.loop-x.users.items c.add_user.new.users.items t.0 _ added ∙ c.loop-x.invariant.0,
      λ r w h. added_keeps us us' t.0 c.args.user added r w (c.loop-x.invariant.1 r w h),
      λ k x l at. ⊎_elim
          (λ old. added_keeps us us' t.0 c.args.user added x.0 c.args.user (c.loop-x.invariant.2 k x old at))
          (λ new. let here : k ≡ c.loop-x.x-index = omega (arith, new, l) in
          let is : get_or ts i (number 0) ≡ x = get_or_from_slice_get ts i x (number 0) (subst (λ z. slice_get ts z ≡ Some x) here at) in
          subst (λ (z : TermId). Has (get_or us' z.0 []) c.args.user) is (added_has us us' t.0 c.args.user added inside))
          (cases_lt k i),
    )

pub returns-clause-listed : goal.returns-clause-listed
returns-clause-listed c = λ i x at. c.loop-x.invariant.2 i x (omega (arith, slice_get_within c.args.arguments.now i x at, c.loop-x-test.false)) at
