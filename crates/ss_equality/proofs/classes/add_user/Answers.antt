use Rattle.std.proofs.Common.{◌++◌, ◌∷◌, []}
use Rattle.ss_equality.proofs.Lists.{changed_list, unchanged_in_err}
use Rattle.ss_equality.proofs.classes.add_user.Goals as goal

pub returns-in_err-push-clause-same : goal.returns-in_err-push-clause-same
returns-in_err-push-clause-same c = unchanged_in_err c.from_residual.result c.args.users.now.items c.args.class c.index_mut.result.now c.push.new.self c.requires c.index_mut.ensures.value c.in_err-push.ensures.items

pub returns-clause-added : goal.returns-clause-added
returns-clause-added c = changed_list c.args.users.now.items c.args.class c.index_mut.result.now c.push.new.self (λ l. l ++ c.args.user ∷ []) c.requires c.index_mut.ensures.value c.in_ok-push.ensures.items
