use Rattle.std.proofs.Common.{take}
use Rattle.ss_equality.proofs.Lists.{changed_list}
use Rattle.ss_equality.proofs.classes.cut_users.Goals as goal

pub returns : goal.returns
returns c = changed_list c.args.users.now.items c.args.class c.index_mut.result.now c.truncate.new.self (take c.args.count) c.requires c.index_mut.ensures.value c.truncate.ensures.items
