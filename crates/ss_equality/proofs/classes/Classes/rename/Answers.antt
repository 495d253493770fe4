use Rattle.std.proofs.Common.{◌≡◌, ◌∙◌, ◌++◌, ◌∷◌, [], ap, length, get_or, arith}
use Rattle.ss_equality_rules.specs.declared.Join.{Join}
use Rattle.ss_equality_rules.specs.Classes.{lists_of}
use Rattle.ss_equality.proofs.Lists.{list_at}
use Rattle.ss_equality.proofs.Renaming.{names_within, renamed_kept, renamed_join}
use Rattle.ss_equality.proofs.classes.Classes.rename.Goals as goal

pub index-requires : goal.index-requires
index-requires c =
    let p = names_within c.self.inside.forms.items c.self.inside.users.items c.self.inside.ends.items c.self.inside.log.items c.args.self.now c.self.view_is c.self.invariant c.args.right c.args.to c.requires.right_below c.requires.right in
    omega (arith, p.0, c.self.inside.users.ok.0)

pub add_users-requires-clause-from : goal.add_users-requires-clause-from
add_users-requires-clause-from c = (names_within c.self.inside.forms.items c.self.inside.users.items c.self.inside.ends.items c.self.inside.log.items c.args.self.now c.self.view_is c.self.invariant c.args.left c.args.from c.requires.left_below c.requires.left).0

pub add_users-requires-clause-to : goal.add_users-requires-clause-to
add_users-requires-clause-to c = (names_within c.self.inside.forms.items c.self.inside.users.items c.self.inside.ends.items c.self.inside.log.items c.args.self.now c.self.view_is c.self.invariant c.args.right c.args.to c.requires.right_below c.requires.right).0

pub index_mut-requires : goal.index_mut-requires
index_mut-requires c =
    let p = names_within c.self.inside.forms.items c.self.inside.users.items c.self.inside.ends.items c.self.inside.log.items c.args.self.now c.self.view_is c.self.invariant c.args.left c.args.from c.requires.left_below c.requires.left in
    omega (arith, p.1, c.self.inside.ends.ok.0)

pub invariant_of-self-2 : goal.invariant_of-self-2
invariant_of-self-2 c =
    let e : Join = record { from = c.args.from; to = c.args.to; left = c.args.left; right = c.args.right; why = c.args.why; count = c.len-count.result; weight = c.weight-weight.result } in
    let us = c.self.inside.users.items in
    let p = names_within c.self.inside.forms.items us c.self.inside.ends.items c.self.inside.log.items c.args.self.now c.self.view_is c.self.invariant c.args.right c.args.to c.requires.right_below c.requires.right in
    let many : c.len-count.result ≡ length (get_or (lists_of us) c.args.to []) = c.len-count.ensures ∙ c.index.result.now.ok.0 ∙ ap length (list_at us c.args.to c.index.result.now p.0 c.index.ensures) in
    renamed_kept c.self.inside.forms.items us c.add_users.new.users.items c.self.inside.ends.items c.self.inside.log.items c.push_reserved.new.self.items c.args.self.now c.self.view_is c.self.invariant e
    c.requires.left c.requires.right c.requires.apart c.requires.left_below c.requires.right_below
    c.len-number.result (c.len-number.ensures ∙ c.self.inside.log.ok.0) many c.in_ok-add_users.ensures.added
    (c.push_reserved.ensures.items ∙ ap (λ l. l ++ e ∷ []) c.in_ok-reserve.ensures.items)

pub returns-clause-log : goal.returns-clause-log
returns-clause-log c =
    let e : Join = record { from = c.args.from; to = c.args.to; left = c.args.left; right = c.args.right; why = c.args.why; count = c.len-count.result; weight = c.weight-weight.result } in
    let us = c.self.inside.users.items in
    let p = names_within c.self.inside.forms.items us c.self.inside.ends.items c.self.inside.log.items c.args.self.now c.self.view_is c.self.invariant c.args.right c.args.to c.requires.right_below c.requires.right in
    let many : c.len-count.result ≡ length (get_or (lists_of us) c.args.to []) = c.len-count.ensures ∙ c.index.result.now.ok.0 ∙ ap length (list_at us c.args.to c.index.result.now p.0 c.index.ensures) in
    renamed_join c.self.inside.forms.items us c.add_users.new.users.items c.self.inside.ends.items c.self.inside.log.items c.push_reserved.new.self.items c.args.self.now c.self.view_is c.self.invariant e
    c.requires.left c.requires.right c.requires.apart c.requires.left_below c.requires.right_below
    c.len-number.result (c.len-number.ensures ∙ c.self.inside.log.ok.0) many c.in_ok-add_users.ensures.added
    (c.push_reserved.ensures.items ∙ ap (λ l. l ++ e ∷ []) c.in_ok-reserve.ensures.items)
