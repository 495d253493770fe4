use Rattle.std.proofs.Common.{◌+◌, get_or}
use Rattle.ss_search_models.specs.Wholes.{no_whole}
use Rattle.ss_search_models.proofs.Equalities.{next_found, next_missing}
use Rattle.ss_search_models.proofs.pairs.add_next.Goals as goal

pub returns-in_ok-push : goal.returns-in_ok-push
returns-in_ok-push c =
    next_found (get_or c.args.found.now c.args.i no_whole) c.args.found.now (c.args.i + 1) (get_or c.args.nexts.now c.args.i 0) c.args.pairs.now.items c.push.new.self.items c.if-j-found.true (c.requires.next c.args.i c.requires.place) c.in_ok-push.ensures.items

pub returns-else-j-found : goal.returns-else-j-found
returns-else-j-found c =
    next_missing (get_or c.args.found.now c.args.i no_whole) c.args.found.now (c.args.i + 1) (get_or c.args.nexts.now c.args.i 0) c.args.pairs.now.items c.if-j-found.false (c.requires.next c.args.i c.requires.place)
