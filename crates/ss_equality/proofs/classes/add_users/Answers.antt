use Rattle.std.proofs.Common.{◌≡◌, ◌∙◌, ap, ◌++◌, [], get_or}
use Rattle.ss_equality_rules.specs.Classes.{lists_of}
use Rattle.ss_equality.proofs.Lists.{changed_list, unchanged_in_err, list_at}
use Rattle.ss_equality.proofs.classes.add_users.Goals as goal

pub returns-in_err-extend_from_slice-clause-same : goal.returns-in_err-extend_from_slice-clause-same
returns-in_err-extend_from_slice-clause-same c = unchanged_in_err c.from_residual-in_err-extend_from_slice.result c.args.users.now.items c.args.to c.index_mut.result.now c.extend_from_slice.new.self c.requires.to c.index_mut.ensures.value c.in_err-extend_from_slice.ensures.items

pub returns-clause-added : goal.returns-clause-added
returns-clause-added c =
    let vs = c.args.users.now.items in
    let there : c.index.result.now.items ≡ get_or (lists_of vs) c.args.from [] = list_at vs c.args.from c.index.result.now c.requires.from c.index.ensures in
    changed_list vs c.args.to c.index_mut.result.now c.extend_from_slice.new.self (λ l. l ++ get_or (lists_of vs) c.args.from []) c.requires.to c.index_mut.ensures.value
    (c.in_ok-extend_from_slice.ensures.items ∙ ap (λ l. c.index_mut.result.now.items ++ l) (c.deref-2.ensures.value ∙ c.in_ok-moved.ensures.items ∙ c.deref.ensures.value ∙ there))
