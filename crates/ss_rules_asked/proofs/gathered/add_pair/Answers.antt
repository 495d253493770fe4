use Rattle.ss_rules_asked.proofs.Gathering.{pair_pushed}
use Rattle.ss_rules_asked.proofs.gathered.add_pair.Goals as goal

pub returns : goal.returns
returns c = pair_pushed c.args.bank.now c.args.pairs.now.items c.push.new.self.items c.args.t c.if-not-is_pair.ensures c.in_ok-push.ensures.items c.requires.pairs c.requires.term
