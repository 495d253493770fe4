use Rattle.ss_search_reached.proofs.Groups.{put_at}
use Rattle.ss_search_reached.proofs.equalities.put.Goals as goal

pub returns : goal.returns
returns c = put_at c.args.groups.now.items c.args.number c.index_mut.result.now c.push.new.self c.args.t c.requires c.index_mut.ensures.value c.in_ok-push.ensures.items
