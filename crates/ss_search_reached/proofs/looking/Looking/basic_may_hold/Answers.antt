use Rattle.ss_search_reached.proofs.looking.Looking.basic_may_hold.Goals as goal

pub stands-requires-clause-none : goal.stands-requires-clause-none
stands-requires-clause-none c = c.in_ok-_against.ensures.none c.in-None.is c.args.self.now.known.now c.requires.looking.table
